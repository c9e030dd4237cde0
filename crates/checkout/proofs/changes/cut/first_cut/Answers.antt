-- Whether a file that lost its link is cut off, the changes tell.
use Rattle.std.proofs.Common.{ap, ◌∙◌}
use Rattle.std.specs.List.{list_any}
use Rattle.checkout.specs.UnlinkedFiles.{is_gone}
use Rattle.checkout.specs.Rounds.{is_cut}
use Rattle.manifest.specs.Tally.{count_of}
use Rattle.checkout.proofs.CutLaws.{cuts_if-same}
use Rattle.checkout.proofs.changes.cut.first_cut.Goals as goal

pub loop-i-init : goal.loop-i-init
loop-i-init c =
    let m = c.args.manifest.now in
    let gone = is_gone c.args.gone.now in
    let lost = count_of c.args.lost.now in
    cuts_if-same m c.args.added.now gone lost c.is_any_cut-files.result c.args.links.now
    (c.is_any_cut-files.ensures ∙ ap (list_any (λ f. is_cut m c.args.added.now gone lost (record { 0 = f }))) c.requires.went)
