-- The places of added links, and the links that they make, as links come and go.
use Rattle.std.proofs.Common.{◌≡◌, nat_eq, ℕ, Bool, true, false, cond, List, [], ◌∷◌, map, Option, Some, None, MatchOption, refl, sym, ap, ◌∙◌, inl, inr, ◌⊎◌}
use Rattle.std.proofs.lemmas.Map.Keys.{IsDistinct-head, IsDistinct-tail}
use Rattle.std.specs.Cmp.{tied_itself}
use Rattle.std.specs.FinMap.{FinMap, empty, find, get, get-empty, get-from_entries, insert, remove, same_map}
use Rattle.std.specs.List.{AllByRecursion, IsDistinct}
use Rattle.std.specs.Map.{keys_of, lookup}
use Rattle.std.specs.Ordering.{eq_by_cmp, is_eq}
use Rattle.eden_base.proofs.NumberTests.{eq-true, true-eq}
use Rattle.eden_base.specs.declared.number.FileId.{FileId}
use Rattle.manifest.specs.Tree.{link_cmp}
use Rattle.manifest.proofs.FlatLemmas.{link_cmp-same, link_cmp_total}
use Rattle.manifest.proofs.ManifestTree.{same_id}
use Rattle.manifest.proofs.MapLemmas.{get-insert_cases, get-insert_other, get-insert_same, get-remove_cases, get-remove_other, tied_key}
use Rattle.checkout.proofs.LinkLaws.{given_from_link, link_from_given}
use Rattle.checkout.specs.Added.{gives, link_of, links_of, ArePlacesOf}
use Rattle.checkout.specs.declared.added.places.AddedPlace.{AddedPlace}

abbrev pub place : ℕ × List ℕ → AddedPlace
place k = record { dir = record { 0 = k.0 }; name = k.1 }

abbrev pub key : AddedPlace → ℕ × List ℕ
key p = (p.dir.0, p.name)

abbrev pub file_of : ℕ → FileId
file_of n = record { 0 = n }

-- two numbers are the same, or not
pub same_or_not : (a b : ℕ) → (a ≡ b) ⊎ (a ≡ b → ⊥)
same_or_not a b =
    elim (nat_eq a b) as (λ t. nat_eq a b ≡ t → (a ≡ b) ⊎ (a ≡ b → ⊥)) [
      | true ↦ λ e. inl (true-eq a b e)
      | false ↦ λ e. inr (λ same. let t = eq-true a b same in let no : ⊥ = cc in no)
    ] refl

pub not-eq : (a b : ℕ) → (a ≡ b → ⊥) → nat_eq a b ≡ false
not-eq a b apart =
    elim (nat_eq a b) as (λ t. nat_eq a b ≡ t → t ≡ false) [
      | true ↦ λ e. absurd (apart (true-eq a b e))
      | false ↦ λ e. refl
    ] refl

pub eq-not : (a b : ℕ) → nat_eq a b ≡ false → a ≡ b → ⊥
eq-not a b e same = let t = eq-true a b same in let no : ⊥ = cc in no

-- the file is the other, or isn't
pub same_or_other : (f g : FileId) → (f ≡ g) ⊎ (f.0 ≡ g.0 → ⊥)
same_or_other f g = elim (same_or_not f.0 g.0) [ inl e ↦ inl (same_id f g e) | inr apart ↦ inr apart ]

pub same_file : (a b : FileId) → Some a ≡ Some b → a ≡ b
same_file a b e = cc

-- a key that is found is another than one that is apart from all keys
pub other_key : (k q : ℕ) (es : List (ℕ × AddedPlace)) (p : AddedPlace) → AllByRecursion (λ y. nat_eq k y ≡ false) (keys_of es) → lookup (nat_eq q) es ≡ Some p → q ≡ k → ⊥
other_key k q [] p h e same = let no : ⊥ = cc in no
other_key k q (x ∷ es) p h e same =
    elim (nat_eq q x.0) as (λ b. nat_eq q x.0 ≡ b → cond b (Some x.1) (lookup (nat_eq q) es) ≡ Some p → ⊥) [
      | true ↦ λ t _. eq-not k x.0 h.0 (sym same ∙ true-eq q x.0 t)
      | false ↦ λ t g. other_key k q es p h.1 g same
    ] refl e

-- a file that is found at a place has this place
pub found_place : (es : List (ℕ × AddedPlace)) → IsDistinct nat_eq (keys_of es) → (k : ℕ × List ℕ) (f : FileId) → find link_cmp k (map link_of es) ≡ Some f → lookup (nat_eq f.0) es ≡ Some (place k)
found_place [] h k f e = let no : ⊥ = cc in absurd no
found_place (x ∷ es) h k f e =
    elim (eq_by_cmp link_cmp k (key x.1)) as (λ b. eq_by_cmp link_cmp k (key x.1) ≡ b → cond b (Some (file_of x.0)) (find link_cmp k (map link_of es)) ≡ Some f → cond (nat_eq f.0 x.0) (Some x.1) (lookup (nat_eq f.0) es) ≡ Some (place k)) [
      | true ↦ λ t g.
          let same : x.0 ≡ f.0 = ap (λ (y : FileId). y.0) (same_file (file_of x.0) f g) in
          rw (eq-true f.0 x.0 (sym same)) (ap (λ (y : ℕ × List ℕ). Some (place y)) (sym (tied_key link_cmp-same k (key x.1) t)))
      | false ↦ λ t g.
          let rest = found_place es (IsDistinct-tail nat_eq x.0 (keys_of es) h) k f g in
          rw (not-eq f.0 x.0 (other_key x.0 f.0 es (place k) (IsDistinct-head nat_eq x.0 (keys_of es) h) rest)) rest
    ] refl e

-- where a file has its place some file is found
place_found : (es : List (ℕ × AddedPlace)) (q : ℕ) (p : AddedPlace) → lookup (nat_eq q) es ≡ Some p → find link_cmp (key p) (map link_of es) ≡ None → ⊥
place_found [] q p e none = let no : ⊥ = cc in no
place_found (x ∷ es) q p e none =
    elim (nat_eq q x.0) as (λ b. cond b (Some x.1) (lookup (nat_eq q) es) ≡ Some p → ⊥) [
      | true ↦ λ g.
          let same : x.1 ≡ p = cc in
          let tie = ap (λ y. eq_by_cmp link_cmp (key p) (key y)) same ∙ ap is_eq (tied_itself link_cmp_total (key p)) in
          let there = ap (λ b. cond b (Some (file_of x.0)) (find link_cmp (key p) (map link_of es))) (sym tie) ∙ none in
          let no : ⊥ = cc in no
      | false ↦ λ g. elim (eq_by_cmp link_cmp (key p) (key x.1)) as (λ b. cond b (Some (file_of x.0)) (find link_cmp (key p) (map link_of es)) ≡ None → ⊥) [
        | true ↦ λ n. let no : ⊥ = cc in no
        | false ↦ λ n. place_found es q p g n
      ] none
    ] e

-- the places of links make these links
pub links_of-is : (es : List (ℕ × AddedPlace)) → IsDistinct nat_eq (keys_of es) → (m : FinMap link_cmp FileId) → ArePlacesOf m (λ q. lookup (nat_eq q) es) → links_of es ≡ m
links_of-is es h m are = same_map link_cmp_total link_cmp-same _ _ (λ k. get-from_entries link_cmp_total (map link_of es) k ∙ at k (find link_cmp k (map link_of es)) refl (get m k) refl) where
  at : (k : ℕ × List ℕ) (o : Option FileId) → find link_cmp k (map link_of es) ≡ o → (w : Option FileId) → get m k ≡ w → find link_cmp k (map link_of es) ≡ get m k
  at k (Some f) e w v = e ∙ sym (are.no_others f.0 (place k) (found_place es h k f e))
  at k None e None v = e ∙ sym v
  at k None e (Some f) v = absurd (place_found es f.0 (place k) (are.each k.0 k.1 f v) e)

-- a file is not given where no link gives it
pub not-given : (links : FinMap link_cmp FileId) (file : FileId) → ((k : ℕ × List ℕ) → get links k ≡ Some file → ⊥) → gives links file ≡ false
not-given links file none = in_ (gives links file) refl where
  in_ : (b : Bool) → gives links file ≡ b → b ≡ false
  in_ false e = refl
  in_ true e = let w = link_from_given links file e in absurd (none (w.0.0, w.1) w.2)

-- places that are the same
pub alike-ArePlacesOf : (m : FinMap link_cmp FileId) (at now : ℕ → Option AddedPlace) → ((q : ℕ) → now q ≡ at q) → ArePlacesOf m at → ArePlacesOf m now
alike-ArePlacesOf m at now same are = record {
  each = λ d n f h. same f.0 ∙ are.each d n f h;
  no_others = λ q p h. are.no_others q p (sym (same q) ∙ h);
}

-- no links have no places
pub none-ArePlacesOf : (at : ℕ → Option AddedPlace) → ((q : ℕ) → at q ≡ None) → ArePlacesOf empty at
none-ArePlacesOf at none = record {
  each = λ d n f h. let e = get-empty {X = FileId} link_cmp (d, n) in let no : ⊥ = cc in absurd no;
  no_others = λ q p h. let e = none q in let no : ⊥ = cc in absurd no;
}

module _ (links : FinMap link_cmp FileId) (at : ℕ → Option AddedPlace) (are : ArePlacesOf links at) where
  -- a file has one place
  pub one_place : (k l : ℕ × List ℕ) (f : FileId) → get links k ≡ Some f → get links l ≡ Some f → k ≡ l
  one_place k l f h g =
      let both = sym (are.each k.0 k.1 f h) ∙ are.each l.0 l.1 f g in
      let same : place k ≡ place l = cc in
      ap key same

  -- a file without a place has no link
  pub no_link : (file : FileId) → at file.0 ≡ None → (k : ℕ × List ℕ) → get links k ≡ Some file → ⊥
  no_link file none k h = let e = are.each k.0 k.1 file h in let no : ⊥ = cc in no

  -- no link gives a file without a place
  pub gives-places : (file : FileId) → MatchOption (at file.0) (gives links file ≡ false) (λ p. get links (key p) ≡ Some file)
  gives-places file = in_ (at file.0) refl where
    in_ : (o : Option AddedPlace) → at file.0 ≡ o → MatchOption o (gives links file ≡ false) (λ p. get links (key p) ≡ Some file)
    in_ (Some p) e = are.no_others file.0 p e
    in_ None e = not-given links file (no_link file e)

  -- a file that no link gives has no place
  pub no_place : (file : FileId) → gives links file ≡ false → at file.0 ≡ None
  no_place file none =
      elim (at file.0) as (λ o. at file.0 ≡ o → o ≡ None) [
        | None ↦ λ _. refl
        | Some p ↦ λ e.
            let given = given_from_link links p.dir p.name file (are.no_others file.0 p e) in
            let no : ⊥ = cc in absurd no
      ] refl

  -- a link that went
  pub removed-ArePlacesOf : (now : ℕ → Option AddedPlace) (k : ℕ × List ℕ) (file : FileId) → get links k ≡ Some file → ((q : ℕ) → now q ≡ cond (nat_eq file.0 q) None (at q)) → ArePlacesOf (remove links k) now
  removed-ArePlacesOf now k file there updated = record {
    each = λ d n f h.
        let w = get-remove_cases link_cmp_total link_cmp-same links k (d, n) f h in
        let apart : file.0 ≡ f.0 → ⊥ = λ same. w.1 (one_place (d, n) k file (w.0 ∙ ap (λ (x : FileId). Some x) (sym (same_id file f same))) there) in
        updated f.0 ∙ ap (λ b. cond b None (at f.0)) (not-eq file.0 f.0 apart) ∙ are.each d n f w.0;
    no_others = λ q p h. elim (same_or_not file.0 q) [
      | inl same ↦ let none = updated q ∙ ap (λ b. cond b None (at q)) (eq-true file.0 q same) in let no : ⊥ = cc in absurd no
      | inr apart ↦
          let was = are.no_others q p (sym (updated q ∙ ap (λ b. cond b None (at q)) (not-eq file.0 q apart)) ∙ h) in
          get-remove_other link_cmp_total link_cmp-same links k (key p) (λ e. apart (ap (λ (x : FileId). x.0) (same_file file (file_of q) (sym there ∙ sym (ap (get links) e) ∙ was)))) ∙ was
    ];
  }

  -- a link that came to a free place
  pub inserted-ArePlacesOf : (now : ℕ → Option AddedPlace) (to : ℕ × List ℕ) (file : FileId) → get links to ≡ None → at file.0 ≡ None →
      ((q : ℕ) → now q ≡ cond (nat_eq file.0 q) (Some (place to)) (at q)) → ArePlacesOf (insert links to file) now
  inserted-ArePlacesOf now to file free none updated = record {
    each = λ d n f h. elim (get-insert_cases link_cmp_total link_cmp-same links to file (d, n) f h) [
      | inl w ↦ here f.0 (ap (λ (x : FileId). x.0) w.1) ∙ ap (λ k. Some (place k)) (sym w.0)
      | inr w ↦ let was = are.each d n f w in other f.0 (λ same. let gone = ap at (sym same) ∙ none in let no : ⊥ = cc in no) ∙ was
    ];
    no_others = λ q p h. elim (same_or_not file.0 q) [
      | inl same ↦
          let both = sym h ∙ here q same in
          let at_to : p ≡ place to = cc in
          ap (λ x. get (insert links to file) (key x)) at_to ∙ get-insert_same link_cmp_total links to file ∙ ap (λ n. Some (file_of n)) same
      | inr apart ↦
          let was = are.no_others q p (sym (other q apart) ∙ h) in
          get-insert_other link_cmp_total link_cmp-same links to file (key p) (λ e. let there = sym (ap (get links) e) ∙ was in let no : ⊥ = cc in no) ∙ was
    ];
  }
    where
      here : (q : ℕ) → file.0 ≡ q → now q ≡ Some (place to)
      here q same = updated q ∙ ap (λ b. cond b (Some (place to)) (at q)) (eq-true file.0 q same)

      other : (q : ℕ) → (file.0 ≡ q → ⊥) → now q ≡ at q
      other q apart = updated q ∙ ap (λ b. cond b (Some (place to)) (at q)) (not-eq file.0 q apart)
