-- The parts have the link at its new place, or the links that they had.
use Rattle.std.proofs.Common.{◌≡◌, ℕ, List, None, Some, IfSome, false, arith, ap, sym, subst, ◌∙◌}
use Rattle.std.specs.FinMap.{FinMap, get, insert, remove}
use Rattle.eden_base.specs.declared.number.FileId.{FileId}
use Rattle.manifest.proofs.FlatLemmas.{link_cmp-same, link_cmp_total}
use Rattle.manifest.proofs.MapLemmas.{get-remove_cases, get-remove_other, get-remove_same}
use Rattle.manifest.specs.Tree.{link_cmp}
use Rattle.checkout.specs.Added.{gives, links_of, AreLinks}
use Rattle.checkout.proofs.AddedLinks.{put-again, shown-AreLinks, without-is}
use Rattle.checkout.proofs.AddedPlaces.{not-given}
use Rattle.checkout.proofs.added.Added.rename.Goals as goal

kept : (c : goal.After-drop-own) → AreLinks (links_of c.self.inside.places.files.entries) c.make_room.new.places c.make_room.new.index
kept c = c.make_room.ensures.same (links_of c.self.inside.places.files.entries) c.self.invariant

pub invariant_of-self : goal.invariant_of-self
invariant_of-self c = (shown-AreLinks _ c.make_room.new.places c.make_room.new.index (kept c)).1

pub returns-in_err-make_room-clause-err : goal.returns-in_err-make_room-clause-err
returns-in_err-make_room-clause-err c =
    let is = (shown-AreLinks _ c.make_room.new.places c.make_room.new.index (kept c)).0 ∙ c.self.view_is in
    grind (arith, is, c.from_residual-in_err-make_room.ensures)

moved : (c : goal.After-link) → AreLinks (insert (remove (links_of c.self.inside.places.files.entries) (c.args.dir.0, c.args.name.now)) (c.args.to_dir.0, c.args.to_name.now) c.args.file) c.link.new.places c.link.new.index
moved c =
    let links = links_of c.self.inside.places.files.entries in
    let from : ℕ × List ℕ = (c.args.dir.0, c.args.name.now) in
    let to : ℕ × List ℕ = (c.args.to_dir.0, c.args.to_name.now) in
    let left = remove links from in
    let free = remove left to in
    let there = subst (λ m. IfSome (get m from) (λ other. other ≡ c.args.file)) (sym c.self.view_is) c.requires.there in
    let once : (k : ℕ × List ℕ) → get links k ≡ Some c.args.file → k ≡ from = λ k h.
    let w = subst (λ m. (d : FileId) (n : List ℕ) → get m (d.0, n) ≡ Some c.args.file → (d ≡ c.args.dir) × (n ≡ c.args.name.now)) (sym c.self.view_is) c.requires.once (record { 0 = k.0 }) k.1 h in
    λ j. ((w.0 j).0, w.1 j) in
    let elsewhere = get-remove_other link_cmp_total link_cmp-same links from to (λ same. c.requires.apart (λ j. record { 0 = (sym same j).0 }) (λ j. (sym same j).1)) in
    let stood = subst (λ o. IfSome o (λ other. c.args.replaced ≡ Some other)) (sym elsewhere) (subst (λ m. IfSome (get m to) (λ other. c.args.replaced ≡ Some other)) (sym c.self.view_is) c.requires.replaced) in
    let room = c.make_room.ensures.same links c.self.invariant in
    let without_file = subst (λ (m : FinMap link_cmp FileId). AreLinks m c.unlink.new.places c.unlink.new.index) (without-is links c.make_room.new.places room.are_places from c.args.file there once) (c.unlink.ensures.links links room) in
    let without_both = c.unlink_at.ensures.links left without_file stood in
    let not_left : (k : ℕ × List ℕ) → get free k ≡ Some c.args.file → ⊥ = λ k h.
    let was = get-remove_cases link_cmp_total link_cmp-same links from k c.args.file (get-remove_cases link_cmp_total link_cmp-same left to k c.args.file h).0 in
    was.1 (once k was.0) in
    subst (λ (m : FinMap link_cmp FileId). AreLinks m c.link.new.places c.link.new.index) (put-again left to c.args.file)
    (subst (λ (n : List ℕ). get free (to.0, n) ≡ None → gives free c.args.file ≡ false → AreLinks (insert free (to.0, n) c.args.file) c.link.new.places c.link.new.index) c.in_ok-own.ensures.copy
    (c.link.ensures free without_both) (get-remove_same link_cmp_total left to) (not-given free c.args.file not_left))

pub invariant_of-self-2 : goal.invariant_of-self-2
invariant_of-self-2 c = (shown-AreLinks _ c.link.new.places c.link.new.index (moved c)).1

pub returns-clause-ok : goal.returns-clause-ok
returns-clause-ok c =
    (shown-AreLinks _ c.link.new.places c.link.new.index (moved c)).0
    ∙ ap (λ m. insert (remove m (c.args.dir.0, c.args.name.now)) (c.args.to_dir.0, c.args.to_name.now) c.args.file) c.self.view_is
