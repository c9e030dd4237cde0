-- What is listed and what is left are what was listed and all places, and the files that are left have lines.
use Rattle.std.proofs.Common.{◌≡◌, ◌++◌, drop}
use Rattle.checkout.specs.Listing.{gone_changes, HaveLines}
use Rattle.checkout.proofs.unlinked_files.UnlinkedFiles.list.Given as goal

abbrev pub invariant-loop-file : goal.invariant-loop-file
invariant-loop-file l = record {
  listed : l.links.items ++ gone_changes l.added l.lines (drop l.file-index l.self.files) ≡ l.initial.links.items ++ gone_changes l.added l.lines l.self.files;
  have_lines : HaveLines l.lines (drop l.file-index l.self.files);
}
