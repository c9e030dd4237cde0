-- Made files of which none is bad rise.
use Rattle.std.proofs.Common.{None, sym, ◌∙◌}
use Rattle.checkout.proofs.MadeRise.{made_files_rise}
use Rattle.checkout.proofs.changes.bad_itself.bad_itself.Goals as goal

pub first_bad_link-requires : goal.first_bad_link-requires
first_bad_link-requires c = record {
  rising = made_files_rise c.args.manifest.now c.args.changes.now.next_file 1 None c.as_slice-files.result.now (sym c.first_bad_made.ensures ∙ c.in-None.is);
}
