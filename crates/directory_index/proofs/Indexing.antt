-- The numbers of directories, and an index with them.
use Rattle.std.proofs.Common.{◌≡◌, ℕ, Bool, true, false, List, Some, None, refl, sym, ap, subst, ◌∙◌, inl, inr, ◌⊎◌}
use Rattle.std.proofs.lemmas.Bool.{and_parts, not-true}
use Rattle.std.specs.Prelude.{◌==◌, ◌&&◌, ◌||◌, not}
use Rattle.eden_base.proofs.NumberTests.{eq-true, true-eq}
use Rattle.directory_index.proofs.PlaceChanges.{adds, below-apart, stood-below}
use Rattle.directory_index.proofs.Standings.{inserted-here, inserted-still, inserted-was, moved, place-or, removed-still, removed-was, same-number}
use Rattle.directory_index.specs.Children.{is_child}
use Rattle.directory_index.specs.Index.{AreChildrenOf, IsIndexOf}
use Rattle.directory_index.specs.PlaceIndex.{is_latest, ArePlacesOf}
use Rattle.directory_index.specs.Standing.{inserted, is_place, nothing, removed, AreApart, Standing, StandsIn}
use Rattle.directory_index.specs.declared.children.Children.{Children}
use Rattle.directory_index.specs.declared.directory_index.DirectoryIndex.{DirectoryIndex}
use Rattle.directory_index.specs.declared.link.Link.{Link}

-- directories without numbers are those of nothing
pub children-of_nothing : (children : Children) → ((dir number : ℕ) → is_child children dir number ≡ false) → AreChildrenOf nothing children
children-of_nothing children none = record {
  each = λ dir n w. let e = w.1 in let no : ⊥ = cc in absurd no;
  no_others = λ dir n t. let f = none dir n in let no : ⊥ = cc in absurd no;
}

-- directories that have the same are those of the same
pub children-alike : (at : Standing) (old new : Children) → ((d n : ℕ) → is_child new d n ≡ is_child old d n) → AreChildrenOf at old → AreChildrenOf at new
children-alike at old new same children = record {
  each = λ d n w. same d n ∙ children.each d n w;
  no_others = λ d n t. children.no_others d n (sym (same d n) ∙ t);
}

-- a number came to a directory
pub children-inserted : (at : Standing) (old new : Children) (dir : ℕ) (name : List ℕ) (number : ℕ) → at dir name ≡ None →
    ((d n : ℕ) → is_child new d n ≡ ((d == dir && n == number) || is_child old d n)) → AreChildrenOf at old → AreChildrenOf (inserted at dir name number) new
children-inserted at old new dir name number free added children = record {
  each = λ d n w. each_in d n (inserted-was at dir name number d w.0 n w.1);
  no_others = λ d n t. no_others_in d n (d == dir && n == number) refl (sym (added d n) ∙ t);
} where
  each_in : (d n : ℕ) → {q : List ℕ} → ((n ≡ number) × ((d ≡ dir) × (q ≡ name))) ⊎ (at d q ≡ Some n) → is_child new d n ≡ true
  each_in d n (inl p) = let x = eq-true d dir p.1.0 in let y = eq-true n number p.0 in added d n ∙ (rw (x, y) refl)
  each_in d n {q} (inr a) = let t = children.each d n (q, a) in added d n ∙ (rw t (or-true (d == dir && n == number))) where
    or-true : (b : Bool) → (b || true) ≡ true
    or-true true = refl
    or-true false = refl

  no_others_in : (d n : ℕ) (b : Bool) → (d == dir && n == number) ≡ b → (b || is_child old d n) ≡ true → StandsIn (inserted at dir name number) d n
  no_others_in d n true t e =
      let both = and_parts (d == dir) (n == number) t in
      (name, ap (λ (x : ℕ). inserted at dir name number x name) (true-eq d dir both.0) ∙ inserted-here at dir name number ∙ ap Some (sym (true-eq n number both.1)))
  no_others_in d n false t e = let w = children.no_others d n e in (w.0, inserted-still at dir name number free d w.0 n w.1)

-- a number went from a directory
pub children-removed : (at : Standing) (old new : Children) (dir : ℕ) (name : List ℕ) (number : ℕ) → at dir name ≡ Some number → AreApart at →
    ((d n : ℕ) → is_child new d n ≡ (not (d == dir && n == number) && is_child old d n)) → AreChildrenOf at old → AreChildrenOf (removed at dir name) new
children-removed at old new dir name number stood apart went children = record {
  each = λ d n w. let was = removed-was at dir name number d w.0 n w.1 in each_in d n w.0 was.0 was.1 (d == dir && n == number) refl;
  no_others = λ d n t. no_others_in d n (d == dir && n == number) refl (sym (went d n) ∙ t);
} where
  each_in : (d n : ℕ) (q : List ℕ) → at d q ≡ Some n → ((d ≡ dir) → (q ≡ name) → ⊥) → (b : Bool) → (d == dir && n == number) ≡ b → is_child new d n ≡ true
  each_in d n q a elsewhere true t =
      let both = and_parts (d == dir) (n == number) t in
      let p = apart d dir q name n a (stood ∙ ap Some (sym (true-eq n number both.1))) in absurd (elsewhere p.0 p.1)
  each_in d n q a elsewhere false t = let e = children.each d n (q, a) in went d n ∙ (rw t e)

  no_others_in : (d n : ℕ) (b : Bool) → (d == dir && n == number) ≡ b → (not b && is_child old d n) ≡ true → StandsIn (removed at dir name) d n
  no_others_in d n true t e = let no : ⊥ = cc in absurd no
  no_others_in d n false t e =
      let w = children.no_others d n e in (
        w.0,
        removed-still at dir name number d w.0 n (λ x y.
            let same = same-number n number (sym w.1 ∙ moved at d dir w.0 name x y ∙ stood) in
            let s = eq-true d dir x in
            let r = eq-true n number same in
            let yes : (d == dir && n == number) ≡ true = rw s r in
            let no : ⊥ = cc in no) w.1,
      )

-- nothing stood where nothing is to stand
pub index-same : (at : Standing) (index : DirectoryIndex) (dir : ℕ) (name : List ℕ) → at dir name ≡ None → IsIndexOf at index → IsIndexOf (removed at dir name) index
index-same at index dir name none is = subst (λ (s : Standing). IsIndexOf s index) (λ i d q. same d q (place-or d q dir name) i) is where
  same : (d : ℕ) (q : List ℕ) → ((is_place d q dir name ≡ true) × ((d ≡ dir) × (q ≡ name))) ⊎ ((is_place d q dir name ≡ false) × ((d ≡ dir) → (q ≡ name) → ⊥)) → at d q ≡ removed at dir name d q
  same d q (inl w) = moved at d dir q name w.1.0 w.1.1 ∙ none ∙ (rw w.0 refl)
  same d q (inr w) = rw w.0 refl

-- the link that was inserted last goes into the maps
module _ (at : Standing) (old new : DirectoryIndex) (is : IsIndexOf at old) (link : Link) (latest : old.places.latest ≡ Some link) where
  pub index-moved : ArePlacesOf at at new.places → ((d n : ℕ) → is_child new.children d n ≡ ((d == link.dir && n == link.number) || is_child old.children d n)) → IsIndexOf at new
  index-moved places came =
      let last = adds at is.below old.places old.places is.places link latest in
      let all : (λ (d : ℕ) (q : List ℕ). inserted is.below link.dir last.0 link.number d q) ≡ at = λ i d q. sym (last.4 d q) i in
      record {
        below = at;
        places = places;
        children = subst (λ (s : Standing). AreChildrenOf s new.children) all
            (children-inserted is.below old.children new.children link.dir last.0 link.number last.2 came is.children);
      }

-- another number than the one inserted last was removed
pub index-removed : (at : Standing) (old new : DirectoryIndex) (dir : ℕ) (name : List ℕ) (number : ℕ) → (is : IsIndexOf at old) → not (is_latest old.places.latest number) ≡ true → at dir name ≡ Some number →
    ArePlacesOf (removed at dir name) (removed is.below dir name) new.places → ((d n : ℕ) → is_child new.children d n ≡ (not (d == dir && n == number) && is_child old.children d n)) → IsIndexOf (removed at dir name) new
index-removed at old new dir name number is other stood places went = record {
  below = removed is.below dir name;
  places = places;
  children = children-removed is.below old.children new.children dir name number (stood-below at is.below old.places dir name number is.places (not-true (is_latest old.places.latest number) other) stood)
      (below-apart at is.below old.places is.places) went is.children;
}
