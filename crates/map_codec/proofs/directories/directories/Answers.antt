-- The directory of one entry after another is looked for.
use Rattle.std.proofs.Common.{◌≡◌, ◌+◌, [], ◌∷◌, length, length-append, refl, ap, sym, subst, ◌∙◌, arith, true, List, Option, ℕ}
use Rattle.std.proofs.lemmas.Option.{get_or_from_slice_get}
use Rattle.std.specs.Prelude.{slice_get}
use Rattle.eden_base.specs.declared.place.Place.{Place}
use Rattle.entry_table.specs.declared.kept.Kept.{Kept}
use Rattle.map_codec.specs.Named.{IsDirectoryOf, TellsDirectory}
use Rattle.map_codec.specs.Raising.{has_parent}
use Rattle.map_codec.proofs.DirectoryLaws.{each_of_none, each_pushed, had_there}
use Rattle.map_codec.proofs.directories.directories.Goals.{in-Unwanted, in-At}
use Rattle.map_codec.proofs.directories.directories.Goals as goal

-- no directory is missing, and it has its entry here
abbrev HasDirectory : List Kept → Place → Option ℕ → Type 0
HasDirectory es place at = (has_parent es place ≡ true) × IsDirectoryOf es place at

pub loop-kept-preserved : goal.loop-kept-preserved
loop-kept-preserved c =
    let places = c.loop-kept.places.items in
    let place = c.match-directory_of.place in
    let es = c.args.entries.now in
    let i = c.loop-kept.kept-index in
    let item = c.kept-item.result in
    let of_this : HasDirectory es item.place place = elim c.match-directory_of.branch [
      | in-Unwanted w ↦ subst (HasDirectory es item.place) (sym w.place-is) (subst (TellsDirectory es item.place) w.in-Unwanted.is c.directory_of.ensures)
      | in-At w ↦ subst (HasDirectory es item.place) (sym w.place-is) (subst (TellsDirectory es item.place) w.in-At.is c.directory_of.ensures)
    ] in
    let longer : length c.push_reserved.new.self.items ≡ length places + 1 = ap length c.push_reserved.ensures.items ∙ length-append places (place ∷ []) in
    record {
      have = had_there (λ (kept : Kept). has_parent es kept.place) es i item c.loop-kept-test.true c.kept-item.is of_this.0 c.loop-kept.invariant.have;
      room = omega (arith, c.push_reserved.ensures.capacity, c.loop-kept.invariant.room);
      count = omega (arith, c.push_reserved.ensures.len, c.loop-kept.invariant.count);
      len = omega (arith, longer, c.loop-kept.invariant.len);
      each = rw c.push_reserved.ensures.items (each_pushed (λ (kept : Kept) (at : Option ℕ). IsDirectoryOf es kept.place at) es places place
          (λ kept there. subst (λ (k : Kept). IsDirectoryOf es k.place place) (c.kept-item.is ∙ get_or_from_slice_get es i kept item (ap (slice_get es) (sym c.loop-kept.invariant.len) ∙ there)) of_this.1)
          c.loop-kept.invariant.each);
    }

pub loop-kept-init : goal.loop-kept-init
loop-kept-init c =
    let places = c.in_ok-places.ensures in
    record {
      have = refl;
      room = omega (arith, places.capacity);
      count = places.len;
      len = ap length places.items;
      each = each_of_none (λ (kept : Kept) (at : Option ℕ). IsDirectoryOf c.args.entries.now kept.place at) c.args.entries.now c.in_ok-places.places.items places.items;
    }
