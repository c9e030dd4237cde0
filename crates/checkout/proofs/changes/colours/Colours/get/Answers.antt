-- The map finds what the view finds.
use Rattle.std.proofs.Common.{sym, ◌∙◌}
use Rattle.checkout.proofs.IdMaps.{get-by_id}
use Rattle.checkout.proofs.changes.colours.Colours.get.Goals as goal

pub returns-clause-colour : goal.returns-clause-colour
returns-clause-colour c = rw (← c.self.view_is) (c.copied.ensures ∙ c.get.ensures.value ∙ sym (get-by_id _ _))
