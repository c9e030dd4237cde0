-- The tree has the numbers that were passed.
use Rattle.std.proofs.Common.{◌≡◌, ℕ, take}
use Rattle.directory_index.specs.Rising.{is_in}
use Rattle.directory_index.proofs.number_set.tree_of.Given as goal

abbrev pub invariant-loop-number : goal.invariant-loop-number
invariant-loop-number l = (n : ℕ) → is_in n l.tree.keys ≡ is_in n (take l.number-index l.fn.numbers)
