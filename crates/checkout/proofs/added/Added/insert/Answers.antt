-- The parts have the link, or the links that they had.
use Rattle.std.proofs.Common.{◌≡◌, ap, arith, false, None, List, ℕ, subst, ◌∙◌}
use Rattle.std.specs.FinMap.{get, insert}
use Rattle.checkout.specs.Added.{gives, links_of, AreLinks}
use Rattle.checkout.proofs.AddedLinks.{shown-AreLinks}
use Rattle.checkout.proofs.added.Added.insert.Goals as goal

kept : (c : goal.After-drop-own) → AreLinks (links_of c.self.inside.places.files.entries) c.make_room.new.places c.make_room.new.index
kept c = c.make_room.ensures.same (links_of c.self.inside.places.files.entries) c.self.invariant

pub invariant_of-self : goal.invariant_of-self
invariant_of-self c = (shown-AreLinks _ c.make_room.new.places c.make_room.new.index (kept c)).1

pub returns-in_err-make_room-clause-err : goal.returns-in_err-make_room-clause-err
returns-in_err-make_room-clause-err c =
    let is = (shown-AreLinks _ c.make_room.new.places c.make_room.new.index (kept c)).0 ∙ c.self.view_is in
    grind (arith, is, c.from_residual-in_err-make_room.ensures)

have : (c : goal.After-link) → AreLinks (insert (links_of c.self.inside.places.files.entries) (c.args.dir.0, c.args.name.now) c.args.file) c.link.new.places c.link.new.index
have c =
    let links = links_of c.self.inside.places.files.entries in
    subst (λ (n : List ℕ). get links (c.args.dir.0, n) ≡ None → gives links c.args.file ≡ false → AreLinks (insert links (c.args.dir.0, n) c.args.file) c.link.new.places c.link.new.index) c.in_ok-own.ensures.copy
    (c.link.ensures links (c.make_room.ensures.same links c.self.invariant))
    (ap (λ m. get m (c.args.dir.0, c.args.name.now)) c.self.view_is ∙ c.requires.free)
    (ap (λ m. gives m c.args.file) c.self.view_is ∙ c.requires.new)

pub invariant_of-self-2 : goal.invariant_of-self-2
invariant_of-self-2 c = (shown-AreLinks _ c.link.new.places c.link.new.index (have c)).1

pub returns-clause-ok : goal.returns-clause-ok
returns-clause-ok c =
    (shown-AreLinks _ c.link.new.places c.link.new.index (have c)).0 ∙ ap (λ m. insert m (c.args.dir.0, c.args.name.now) c.args.file) c.self.view_is
