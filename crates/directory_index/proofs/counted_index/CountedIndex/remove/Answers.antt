-- The number is taken out of the maps and out of its count.
use Rattle.std.proofs.Common.{sym, ◌∙◌}
use Rattle.directory_index.specs.declared.counted_index.CountedIndex.{CountedIndex}
use Rattle.directory_index.proofs.CountedChanges.{counted-removed}
use Rattle.directory_index.proofs.counted_index.CountedIndex.remove.Goals as goal

pub returns-then-remove-clause-removed : goal.returns-then-remove-clause-removed
returns-then-remove-clause-removed c at is stood =
    let old : CountedIndex = c.args.self.now in
    let new : CountedIndex = record { places = c.remove.new.self; counts = c.lower.new.self } in
    counted-removed at old new c.args.dir c.args.name.now c.args.number is (sym c.remove.ensures.had ∙ c.if-remove.true) stood
    (c.remove.ensures.removed at is.below is.places stood c.if-remove.true) c.lower.ensures.lowered c.lower.ensures.bound
