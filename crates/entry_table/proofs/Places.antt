-- The test whether an entry stands at a place, and what it says.
use Rattle.std.proofs.Common.{◌≡◌, ℕ, true, List, refl, sym, ap, ◌∙◌}
use Rattle.std.proofs.lemmas.Bool.{and_parts}
use Rattle.std.specs.Cmp.Lexicographic.{pointwise, same_text}
use Rattle.std.specs.Prelude.{◌==◌, nat_eq}
use Rattle.directory_index.proofs.Written.{names-alike}
use Rattle.eden_base.proofs.NumberTests.{eq-true, true-eq}
use Rattle.eden_base.specs.declared.place.Place.{Place}
use Rattle.eden_base.specs.declared.place.Place.TheVariants.{Linked, Unlinked}
use Rattle.entry_table.specs.Entries.{stands_at, is_place}
use Rattle.entry_table.specs.declared.kept.Kept.{Kept}

-- what has a place passes its test
pub place-stands : (parent : ℕ) (name : List ℕ) (kept : Kept) → kept.place ≡ Linked (record { 0 = parent }) name → stands_at parent name kept ≡ true
place-stands parent name kept e = ap (is_place parent name) e ∙ (let t : (parent == parent) ≡ true = eq-true parent parent refl in rw (t, names-alike name) refl)

-- what passes it has the place
pub stands-place : (parent : ℕ) (name : List ℕ) (kept : Kept) → stands_at parent name kept ≡ true → kept.place ≡ Linked (record { 0 = parent }) name
stands-place parent name kept h = place_in kept.place refl h where
  place_in : (place : Place) → kept.place ≡ place → is_place parent name place ≡ true → kept.place ≡ Linked (record { 0 = parent }) name
  place_in (Unlinked file) p e = absurd (let none : ⊥ = cc in none)
  place_in (Linked dir linked) p e =
      let b = and_parts (dir.0 == parent) (pointwise nat_eq linked name) e in
      let same : dir.0 ≡ parent = true-eq dir.0 parent b.0 in
      let alike : linked ≡ name = same_text linked name (sym b.1) in
      p ∙ (λ i. Linked (record { 0 = same i }) (alike i))
