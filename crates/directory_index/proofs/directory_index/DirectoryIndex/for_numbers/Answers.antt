-- Nothing stands in a directory.
use Rattle.directory_index.specs.Standing.{nothing}
use Rattle.directory_index.proofs.Indexing.{children-of_nothing}
use Rattle.directory_index.proofs.directory_index.DirectoryIndex.for_numbers.Goals as goal

pub returns-clause-empty : goal.returns-clause-empty
returns-clause-empty c = record { below = nothing; places = c.for_numbers.ensures.empty; children = children-of_nothing c.new.result c.new.ensures.empty }
