-- An index of places, and what it is an index of.
use Rattle.std.proofs.Common.{◌≡◌, ℕ, Bool, true, false, List, Option, Some, None, if◌then◌else◌, refl, sym, ap, subst, ◌∙◌, inl, inr, ◌⊎◌}
use Rattle.eden_base.proofs.NumberTests.{eq-true}
use Rattle.directory_index.proofs.Naming.{names-alike_of, names-inserted}
use Rattle.directory_index.proofs.Standings.{inserted-here, inserted-still, inserted-was, moved, place-or, removed-apart, removed-was}
use Rattle.directory_index.specs.Keys.{key_of}
use Rattle.directory_index.specs.Names.{AreNamesOf}
use Rattle.directory_index.specs.PlaceIndex.{is_latest, AddsLatest, ArePlacesOf, IsAdded}
use Rattle.directory_index.specs.Standing.{inserted, is_place, removed, AreApart, Standing}
use Rattle.directory_index.specs.declared.link.Link.{Link}
use Rattle.directory_index.specs.declared.place_index.PlaceIndex.{PlaceIndex}

-- what the maps have stands
pub below-stands : (below at : Standing) (latest : Option Link) → AddsLatest below latest at → (d : ℕ) (q : List ℕ) (n : ℕ) → below d q ≡ Some n → at d q ≡ Some n
below-stands below at None adds d q n e = adds d q ∙ e
below-stands below at (Some link) adds d q n e = adds.4 d q ∙ inserted-still below link.dir adds.0 link.number adds.2 d q n e

-- and so does the link that was inserted last
pub latest-stands : (below at : Standing) (link : Link) → (adds : AddsLatest below (Some link) at) → at link.dir adds.0 ≡ Some link.number
latest-stands below at link adds = adds.4 link.dir adds.0 ∙ inserted-here below link.dir adds.0 link.number

-- what stands is in the maps, or is the link that was inserted last
pub stands-either : (below at : Standing) (latest : Option Link) → AddsLatest below latest at → (d : ℕ) (q : List ℕ) (n : ℕ) → at d q ≡ Some n →
    (below d q ≡ Some n) ⊎ ((link : Link) × (latest ≡ Some link) × (link.number ≡ n) × (link.dir ≡ d) × (link.key ≡ key_of d q))
stands-either below at None adds d q n e = inl (sym (adds d q) ∙ e)
stands-either below at (Some link) adds d q n e = in_ (inserted-was below link.dir adds.0 link.number d q n (sym (adds.4 d q) ∙ e)) where
  in_ : ((n ≡ link.number) × ((d ≡ link.dir) × (q ≡ adds.0))) ⊎ (below d q ≡ Some n) → (below d q ≡ Some n) ⊎ ((l : Link) × (Some link ≡ Some l) × (l.number ≡ n) × (l.dir ≡ d) × (l.key ≡ key_of d q))
  in_ (inl p) = inr (link, refl, sym p.0, sym p.1.0, sym adds.1 ∙ ap (λ (x : ℕ). key_of x adds.0) (sym p.1.0) ∙ ap (key_of d) (sym p.1.1))
  in_ (inr p) = inl p

-- an index in which nothing stands beside the maps
pub places-settled : (at : Standing) (index : PlaceIndex) → index.latest ≡ None → AreNamesOf at index.names → AreApart at → ArePlacesOf at at index
places-settled at index none names apart = record {
  names = names;
  latest = subst (λ (o : Option Link). AddsLatest at o at) (sym none) (λ d q. refl);
  apart = apart;
}

-- the numbers of the maps are apart
pub below-apart : (at below : Standing) (index : PlaceIndex) → ArePlacesOf at below index → AreApart below
below-apart at below index is d e q p n a b = is.apart d e q p n (below-stands below at index.latest is.latest d q n a) (below-stands below at index.latest is.latest e p n b)

-- a number that was not inserted last is in the maps
pub stood-below : (at below : Standing) (index : PlaceIndex) (dir : ℕ) (name : List ℕ) (number : ℕ) → ArePlacesOf at below index → is_latest index.latest number ≡ false → at dir name ≡ Some number → below dir name ≡ Some number
stood-below at below index dir name number is other stood = in_ (stands-either below at index.latest is.latest dir name number stood) where
  in_ : (below dir name ≡ Some number) ⊎ ((link : Link) × (index.latest ≡ Some link) × (link.number ≡ number) × (link.dir ≡ dir) × (link.key ≡ key_of dir name)) → below dir name ≡ Some number
  in_ (inl e) = e
  in_ (inr w) = let t : is_latest index.latest number ≡ true = ap (λ o. is_latest o number) w.1 ∙ eq-true w.0.number number w.2 in absurd (let no : ⊥ = cc in no)

-- another number was removed
pub places-removed : (at below : Standing) (old new : PlaceIndex) (dir : ℕ) (name : List ℕ) (number : ℕ) → (is : ArePlacesOf at below old) → is_latest old.latest number ≡ false →
    new.latest ≡ old.latest → at dir name ≡ Some number → AreNamesOf (removed below dir name) new.names → ArePlacesOf (removed at dir name) (removed below dir name) new
places-removed at below old new dir name number is other latest stood names =
    record {
      names = names;
      latest = subst (λ (l : Option Link). AddsLatest (removed below dir name) l (removed at dir name)) (sym latest) (adds_in old.latest is.latest (stood-below at below old dir name number is other stood));
      apart = removed-apart at dir name number is.apart;
    } where
      adds_in : (o : Option Link) → AddsLatest below o at → below dir name ≡ Some number → AddsLatest (removed below dir name) o (removed at dir name)
      adds_in None adds here_ = λ d q. ap (λ (x : Option ℕ). if is_place d q dir name then None else x) (adds d q)
      adds_in (Some link) adds here_ =
          let apart_ : (link.dir ≡ dir) → (adds.0 ≡ name) → ⊥ = λ x y. let none : below dir name ≡ None = sym (moved below link.dir dir adds.0 name x y) ∙ adds.2 in let no : ⊥ = cc in no in (
            adds.0,
            adds.1,
            free adds (is_place link.dir adds.0 dir name) refl,
            λ d q e. adds.3 d q (removed-was below dir name number d q link.number e).0,
            λ d q. swap d q adds apart_ (place-or d q dir name) (place-or d q link.dir adds.0),
          ) where
            free : (a : AddsLatest below (Some link) at) → (b : Bool) → is_place link.dir a.0 dir name ≡ b → removed below dir name link.dir a.0 ≡ None
            free a true t = rw t refl
            free a false t = rw t a.2

            swap : (d : ℕ) (q : List ℕ) → (a : AddsLatest below (Some link) at) → ((link.dir ≡ dir) → (a.0 ≡ name) → ⊥) →
                ((is_place d q dir name ≡ true) × ((d ≡ dir) × (q ≡ name))) ⊎ ((is_place d q dir name ≡ false) × ((d ≡ dir) → (q ≡ name) → ⊥)) →
                ((is_place d q link.dir a.0 ≡ true) × ((d ≡ link.dir) × (q ≡ a.0))) ⊎ ((is_place d q link.dir a.0 ≡ false) × ((d ≡ link.dir) → (q ≡ a.0) → ⊥)) →
                removed at dir name d q ≡ inserted (removed below dir name) link.dir a.0 link.number d q
            swap d q a other (inl p) (inl r) = absurd (other (sym r.1.0 ∙ p.1.0) (sym r.1.1 ∙ p.1.1))
            swap d q a other (inl p) (inr r) = rw (p.0, r.0) refl
            swap d q a other (inr p) (inl r) = let is_ : inserted below link.dir a.0 link.number d q ≡ Some link.number = rw r.0 refl in rw (p.0, r.0) (a.4 d q ∙ is_)
            swap d q a other (inr p) (inr r) = let is_ : inserted below link.dir a.0 link.number d q ≡ below d q = rw r.0 refl in rw (p.0, r.0) (a.4 d q ∙ is_)

-- the link that was inserted last goes into the maps
module _ (at below : Standing) (old new : PlaceIndex) (is : ArePlacesOf at below old) (link : Link) (latest : old.latest ≡ Some link) where
  pub adds : AddsLatest below (Some link) at
  adds = subst (λ (o : Option Link). AddsLatest below o at) latest is.latest

  -- it stands under a name
  pub link-name : (name : List ℕ) × (at link.dir name ≡ Some link.number)
  link-name = (adds.0, latest-stands below at link adds)

  -- it is in the maps now
  pub places-moved : ((name : List ℕ) → at link.dir name ≡ Some link.number → IsAdded old.names new.names true link name) → new.latest ≡ None → ArePlacesOf at at new
  places-moved added none =
      let all : (λ (d : ℕ) (q : List ℕ). inserted below link.dir adds.0 link.number d q) ≡ at = λ i d q. sym (adds.4 d q) i in
      places-settled at new none
      (subst (λ (s : Standing). AreNamesOf s new.names) all
      (names-inserted below old.names new.names link adds.0 adds.1 adds.2 adds.3 (added adds.0 (latest-stands below at link adds)) is.names))
      is.apart

  -- or it stays beside them
  pub places-kept : ((name : List ℕ) → at link.dir name ≡ Some link.number → IsAdded old.names new.names false link name) → new.latest ≡ old.latest → ArePlacesOf at below new
  places-kept added same =
      let none = added adds.0 (latest-stands below at link adds) in
      record {
        names = names-alike_of below old.names new.names none.keys none.others is.names;
        latest = subst (λ (o : Option Link). AddsLatest below o at) (sym same) is.latest;
        apart = is.apart;
      }
