-- The link of the file under the name goes, or there is none.
use Rattle.std.proofs.Common.{ap, sym, ◌∙◌}
use Rattle.std.specs.FinMap.{get, remove}
use Rattle.manifest.proofs.FlatLemmas.{link_cmp-same, link_cmp_total}
use Rattle.manifest.proofs.MapLemmas.{removed_nothing}
use Rattle.checkout.specs.Added.{links_of, AreLinks}
use Rattle.checkout.proofs.AddedLinks.{no-link-in, shown-AreLinks}
use Rattle.checkout.proofs.added.Added.remove.Goals as goal

pub returns-then-not-has_links-clause-value : goal.returns-then-not-has_links-clause-value
returns-then-not-has_links-clause-value c = sym (no-link-in c.args.self.now c.args.dir.0 (sym c.if-not-has_links.ensures) c.args.name.now)

pub returns-then-not-has_links-clause-links : goal.returns-then-not-has_links-clause-links
returns-then-not-has_links-clause-links c =
    sym (removed_nothing link_cmp_total link_cmp-same c.args.self.now (c.args.dir.0, c.args.name.now) (no-link-in c.args.self.now c.args.dir.0 (sym c.if-not-has_links.ensures) c.args.name.now))

left : (c : goal.After-take) → AreLinks (remove (links_of c.self.inside.places.files.entries) (c.args.dir.0, c.args.name.now)) c.take.new.places c.take.new.index
left c = c.take.ensures.links (links_of c.self.inside.places.files.entries) c.self.invariant

pub invariant_of-self : goal.invariant_of-self
invariant_of-self c = (shown-AreLinks _ c.take.new.places c.take.new.index (left c)).1

pub returns-clause-value : goal.returns-clause-value
returns-clause-value c = c.take.ensures.file (links_of c.self.inside.places.files.entries) c.self.invariant ∙ ap (λ m. get m (c.args.dir.0, c.args.name.now)) c.self.view_is

pub returns-clause-links : goal.returns-clause-links
returns-clause-links c = (shown-AreLinks _ c.take.new.places c.take.new.index (left c)).0 ∙ ap (λ m. remove m (c.args.dir.0, c.args.name.now)) c.self.view_is
