-- Fewer cells have the same links.
use Rattle.std.proofs.Common.{◌∙◌}
use Rattle.checkout.specs.Added.{links_of, AreLinks}
use Rattle.checkout.proofs.AddedLinks.{alike-AreLinks, shown-AreLinks}
use Rattle.checkout.proofs.added.Added.trim.Goals as goal

kept : (c : goal.After-trim) → AreLinks (links_of c.self.inside.places.files.entries) (record { files = c.shrink_to_fit.new.self }) c.trim.new.self
kept c =
    let i = c.self.inside in
    alike-AreLinks (links_of i.places.files.entries) i.places (record { files = c.shrink_to_fit.new.self }) i.index c.trim.new.self c.self.invariant c.shrink_to_fit.ensures.unique c.shrink_to_fit.ensures.entries.2 (λ at is _. c.trim.ensures.same at is)

pub invariant_of-self : goal.invariant_of-self
invariant_of-self c = (shown-AreLinks _ (record { files = c.shrink_to_fit.new.self }) c.trim.new.self (kept c)).1

pub returns : goal.returns
returns c = (shown-AreLinks _ (record { files = c.shrink_to_fit.new.self }) c.trim.new.self (kept c)).0 ∙ c.self.view_is
