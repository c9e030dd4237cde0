-- Nothing is counted.
use Rattle.directory_index.specs.Standing.{nothing}
use Rattle.directory_index.proofs.Counting.{counts-of_nothing}
use Rattle.directory_index.proofs.counted_index.CountedIndex.for_numbers.Goals as goal

pub returns-clause-empty : goal.returns-clause-empty
returns-clause-empty c = record { below = nothing; places = c.for_numbers.ensures.empty; counts = counts-of_nothing c.new.result c.new.ensures.none }
