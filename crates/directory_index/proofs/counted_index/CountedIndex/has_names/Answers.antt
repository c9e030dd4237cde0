-- The link that was inserted last, a number that is counted, or neither.
use Rattle.std.proofs.Common.{sym, ◌∙◌}
use Rattle.directory_index.proofs.CountedChanges.{none-there, some-counted}
use Rattle.directory_index.proofs.Looking.{names-latest}
use Rattle.directory_index.proofs.counted_index.CountedIndex.has_names.Goals as goal

pub returns-then-is_latest_in-clause-some : goal.returns-then-is_latest_in-clause-some
returns-then-is_latest_in-clause-some c at is t = names-latest at is.below c.args.self.now.places is.places c.args.dir (sym c.is_latest_in.ensures ∙ t)

pub returns-else-is_latest_in-clause-some : goal.returns-else-is_latest_in-clause-some
returns-else-is_latest_in-clause-some c at is t = some-counted at c.args.self.now is c.args.dir (sym c.has_any.ensures.any ∙ t)

pub returns-else-is_latest_in-clause-none : goal.returns-else-is_latest_in-clause-none
returns-else-is_latest_in-clause-none c at is f =
    none-there at c.args.self.now is c.args.dir (sym c.is_latest_in.ensures ∙ c.if-is_latest_in.false) (sym c.has_any.ensures.any ∙ f)
