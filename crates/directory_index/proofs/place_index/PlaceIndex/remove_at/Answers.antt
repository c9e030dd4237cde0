-- The number is taken out of the maps.
use Rattle.std.proofs.Common.{◌≡◌, ℕ, List, None, refl, sym, subst, ◌∙◌, if◌then◌else◌}
use Rattle.std.specs.Prelude.{◌==◌, ◌&&◌, not}
use Rattle.directory_index.specs.Names.{at_key, is_at_key, written}
use Rattle.directory_index.specs.Standing.{is_place}
use Rattle.directory_index.specs.declared.place_index.PlaceIndex.{PlaceIndex}
use Rattle.directory_index.proofs.Naming.{names-removed}
use Rattle.directory_index.proofs.PlaceChanges.{below-apart, places-removed, stood-below}
use Rattle.directory_index.proofs.place_index.PlaceIndex.remove_at.Goals as goal

pub returns-clause-removed : goal.returns-clause-removed
returns-clause-removed c at below is stood had =
    let old : PlaceIndex = c.args.self.now in
    let new : PlaceIndex = record { names = c.remove.new.self; latest = old.latest } in
    let other = sym c.is_latest.ensures ∙ c.if-is_latest.false in
    places-removed at below old new c.args.dir c.args.name.now c.args.number is other refl stood
    (names-removed below old.names c.remove.new.self c.args.dir c.args.name.now c.args.number
    (stood-below at below old c.args.dir c.args.name.now c.args.number is other stood) (below-apart at below old is)
    (subst (λ (x : ℕ). (k : ℕ) → at_key c.remove.new.self.keys k ≡ (if k == x && is_at_key old.names.keys x c.args.number then None else at_key old.names.keys k)) c.requires.key c.remove.ensures.keys)
    (subst (λ (x : ℕ). (d : ℕ) (q : List ℕ) → written c.remove.new.self.others d q ≡ (if is_place d q c.args.dir c.args.name.now && not (is_at_key old.names.keys x c.args.number) then None else written old.names.others d q)) c.requires.key c.remove.ensures.others)
    is.names)
