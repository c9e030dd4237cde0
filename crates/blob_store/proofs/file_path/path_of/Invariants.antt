use Rattle.blob_store.specs.FilePath.{IsPathFrom}
use Rattle.blob_store.proofs.file_path.path_of.Given as goal

abbrev pub invariant-loop-up : goal.invariant-loop-up
invariant-loop-up l = IsPathFrom l.lines l.dir l.fn.file l.path.items
