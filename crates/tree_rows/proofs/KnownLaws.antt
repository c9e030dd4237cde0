-- Where the numbers of an index are known to stand, as one comes or goes.
use Rattle.std.proofs.Common.{◌≡◌, ℕ, Bool, true, false, cond, List, Option, Some, None, is_some, refl, sym, ap, ◌∙◌, inl, inr, ◌⊎◌}
use Rattle.std.specs.Prelude.{nat_eq}
use Rattle.std.specs.HashMap as hash
use Rattle.std.specs.Option.{option_map}
use Rattle.eden_base.proofs.NumberTests.{eq-true, eq-false}
use Rattle.directory_index.proofs.Standings.{inserted-was, removed-was}
use Rattle.directory_index.specs.Standing.{inserted, removed, AreApart, AreKnown, Standing, StandsNowhere}
use Rattle.tree_rows.specs.Known.{dir_and_name, place_in}
use Rattle.tree_rows.specs.declared.known.KnownPlace.{KnownPlace}
use Rattle.tree_rows.specs.declared.known.KnownPlaces.{KnownPlaces}

-- a test that found nothing
pub none-there : {X : Type 0} (o : Option X) (test : Bool) → test ≡ is_some o → test ≡ false → o ≡ None
none-there None test is f = refl
none-there (Some x) test is f = let no : ⊥ = cc in absurd no

module _ (at : Standing) (old new : KnownPlaces) (known : AreKnown at (place_in old)) where
  -- a number that isn't known stands nowhere
  pub unknown-nowhere : (number : ℕ) → hash.get nat_eq old.places number ≡ None → StandsNowhere at number
  unknown-nowhere number none d q e =
      let there = known d q number e in
      let nowhere : place_in old number ≡ None = ap (option_map dir_and_name) none in
      let no : ⊥ = cc in no

  -- a number that came
  pub known-inserted : (dir : ℕ) (name : List ℕ) (number : ℕ) (place : KnownPlace) → place.dir ≡ dir → place.name.items ≡ name → hash.get nat_eq old.places number ≡ None →
      ((q : ℕ) → hash.get nat_eq new.places q ≡ cond (nat_eq number q) (Some place) (hash.get nat_eq old.places q)) → AreKnown (inserted at dir name number) (place_in new)
  known-inserted dir name number place dir_is name_is none after d q n e = in_ (inserted-was at dir name number d q n e) where
    in_ : ((n ≡ number) × ((d ≡ dir) × (q ≡ name))) ⊎ (at d q ≡ Some n) → place_in new n ≡ Some (d, q)
    in_ (inl p) =
        let t : nat_eq number n ≡ true = eq-true number n (sym p.0) in
        let here : hash.get nat_eq new.places n ≡ Some place = after n ∙ (rw t refl) in
        ap (option_map dir_and_name) here ∙ ap Some (λ i. ((dir_is ∙ sym p.1.0) i, (name_is ∙ sym p.1.1) i))
    in_ (inr a) =
        let f : nat_eq number n ≡ false = eq-false number n (λ same. unknown-nowhere number none d q (a ∙ ap Some (sym same))) in
        let here : hash.get nat_eq new.places n ≡ hash.get nat_eq old.places n = after n ∙ (rw f refl) in
        ap (option_map dir_and_name) here ∙ known d q n a

  -- a number that went
  pub known-removed : (dir : ℕ) (name : List ℕ) (number : ℕ) → AreApart at → at dir name ≡ Some number →
      ((q : ℕ) → hash.get nat_eq new.places q ≡ cond (nat_eq number q) None (hash.get nat_eq old.places q)) → AreKnown (removed at dir name) (place_in new)
  known-removed dir name number apart there after d q n e =
      let was = removed-was at dir name number d q n e in
      let f : nat_eq number n ≡ false = eq-false number n (λ same. let p = apart d dir q name n was.0 (there ∙ ap Some same) in was.1 p.0 p.1) in
      let here : hash.get nat_eq new.places n ≡ hash.get nat_eq old.places n = after n ∙ (rw f refl) in
      ap (option_map dir_and_name) here ∙ known d q n was.0
