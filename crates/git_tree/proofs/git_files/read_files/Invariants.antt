-- What is left grows shorter, and says behind the files so far what the whole says; each file has its object.
use Rattle.std.proofs.Common.{◌≡◌, ◌+◌, length}
use Rattle.git_tree.specs.GitTree.{no_files, read_on, records_of}
use Rattle.git_tree.proofs.git_files.read_files.Given as goal

abbrev pub invariant-loop-rest : goal.invariant-loop-rest
invariant-loop-rest l = record {
  same : read_on l.files (length l.files.objects + 1) (records_of l.rest) ≡ read_on no_files 1 (records_of l.output);
  counted : length l.files.objects + length (records_of l.rest) ≡ length (records_of l.output);
  same_many : length l.files.objects ≡ length l.files.lines;
}

abbrev pub decreases-loop-rest : goal.decreases-loop-rest
decreases-loop-rest l = length l.rest
