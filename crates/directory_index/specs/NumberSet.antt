-- Sets of numbers.
use Rattle.std.specs.Prelude.{ℕ, List}
use Rattle.directory_index.specs.declared.number_set.NumberSet.{NumberSet}
use Rattle.directory_index.specs.declared.number_set.NumberSet.TheVariants.{Few, Many}

-- the numbers of a set, by rising order
abbrev pub numbers_of : NumberSet → List ℕ
numbers_of (Few numbers) = numbers
numbers_of (Many numbers) = numbers.keys
