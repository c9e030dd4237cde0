-- What the index is of stays.
use Rattle.tree_rows.proofs.known.KnownIndex.trim.Goals as goal

pub invariant_of-self : goal.invariant_of-self
invariant_of-self c =
    let was = c.self.invariant in
    (was.0, c.trim.ensures.same was.0 was.1, was.2)
