-- An insertion into the map is one into the view.
use Rattle.std.proofs.Common.{ap, ◌∙◌}
use Rattle.std.specs.FinMap.{from_entries}
use Rattle.checkout.proofs.IdMaps.{from_entries-by_id}
use Rattle.checkout.proofs.changes.colours.Colours.set.Goals as goal

pub returns : goal.returns
returns c = rw (← c.self.view_is) (ap from_entries c.in_ok-insert.ensures.entries ∙ from_entries-by_id _ _ _)
