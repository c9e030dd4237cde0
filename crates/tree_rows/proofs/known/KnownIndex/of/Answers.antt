-- An index without numbers has none whose place has to be known.
use Rattle.directory_index.specs.Standing.{nothing}
use Rattle.tree_rows.proofs.known.KnownIndex.of.Goals as goal

pub invariant_of-result : goal.invariant_of-result
invariant_of-result c = (nothing, c.requires.empty, λ d q n e. let no : ⊥ = cc in absurd no)
