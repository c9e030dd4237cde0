-- The added links as they are listed: one for each place, in some order.
use Rattle.std.proofs.Common.{◌≡◌, nat_eq, ℕ, cond, List, [], ◌∷◌, map, Option, Some, None, refl, sym, ap, subst, ◌∙◌}
use Rattle.std.proofs.lemmas.List.Sorted.{IsPermutation-append_comm, IsPermutation-append_left, IsPermutation-cons, IsPermutation-refl, IsPermutation-sym, IsPermutation-trans}
use Rattle.std.proofs.lemmas.Map.Keys.{IsDistinct-head, IsDistinct-tail}
use Rattle.std.specs.FinMap.{entries, entries-insert, find, get-entries, get-from_entries, put}
use Rattle.std.specs.FinMap.Entries.{by_order}
use Rattle.std.specs.List.{IsDistinct}
use Rattle.std.specs.List.Sorted.{IsPermutation}
use Rattle.std.specs.Map.{keys_of, lookup}
use Rattle.std.specs.Ordering.{is_eq}
use Rattle.std.specs.declared.cmp.Ordering.TheVariants.{Less, Equal, Greater}
use Rattle.eden_base.proofs.NumberTests.{eq-true}
use Rattle.eden_base.specs.declared.number.FileId.{FileId}
use Rattle.manifest.specs.Tree.{link_cmp}
use Rattle.manifest.proofs.FlatLemmas.{link_cmp-same, link_cmp_total}
use Rattle.manifest.proofs.OrderedMaps.{entries-rising}
use Rattle.checkout.proofs.AddedPlaces.{file_of, found_place, key, not-eq, other_key, same_file}
use Rattle.checkout.specs.Added.{link_of, links_of, ArePlacesOf}
use Rattle.checkout.specs.declared.added.places.AddedPlace.{AddedPlace}

abbrev Link : Type 0
Link = (ℕ × List ℕ) × FileId

-- two links change places
turned : (x y : Link) (xs : List Link) → IsPermutation (x ∷ y ∷ xs) (y ∷ x ∷ xs)
turned x y xs = IsPermutation-append_left xs (x ∷ y ∷ []) (y ∷ x ∷ []) (IsPermutation-append_comm (x ∷ []) (y ∷ []))

-- a link with a new place, in its order
put-moves : (k : ℕ × List ℕ) (v : FileId) (es : List Link) → find link_cmp k es ≡ None → IsPermutation ((k, v) ∷ es) (put link_cmp k v es)
put-moves k v [] h = IsPermutation-refl ((k, v) ∷ [])
put-moves k v (e ∷ es) h =
    elim (link_cmp k e.0) as (λ r. cond (is_eq r) (Some e.1) (find link_cmp k es) ≡ None → IsPermutation ((k, v) ∷ e ∷ es) (by_order r ((k, v) ∷ e ∷ es) ((e.0, v) ∷ es) (e ∷ put link_cmp k v es))) [
      | Less ↦ λ _. IsPermutation-refl ((k, v) ∷ e ∷ es)
      | Equal ↦ λ g. let no : ⊥ = cc in absurd no
      | Greater ↦ λ g. IsPermutation-trans ((k, v) ∷ e ∷ es) (e ∷ (k, v) ∷ es) (e ∷ put link_cmp k v es) (turned (k, v) e es) (IsPermutation-cons e ((k, v) ∷ es) (put link_cmp k v es) (put-moves k v es g))
    ] h

-- no two files have one place
abbrev HaveOwn : List (ℕ × AddedPlace) → Type 0
HaveOwn es = (q r : ℕ) (p : AddedPlace) → lookup (nat_eq q) es ≡ Some p → lookup (nat_eq r) es ≡ Some p → q ≡ r

own-links : (es : List (ℕ × AddedPlace)) → IsDistinct nat_eq (keys_of es) → HaveOwn es → IsPermutation (entries (links_of es)) (map link_of es)
own-links [] h own = subst (λ xs. IsPermutation xs []) (sym (entries-rising link_cmp_total link_cmp-same [] tt)) (IsPermutation-refl [])
own-links (x ∷ es) h own =
    let all = entries (links_of es) in
    let new : find link_cmp (key x.1) all ≡ None = sym (get-entries (links_of es) (key x.1)) ∙ get-from_entries link_cmp_total (map link_of es) (key x.1) ∙ none (find link_cmp (key x.1) (map link_of es)) refl in
    subst (λ xs. IsPermutation xs (link_of x ∷ map link_of es)) (sym (entries-insert link_cmp_total (links_of es) (key x.1) (file_of x.0)))
    (IsPermutation-trans (put link_cmp (key x.1) (file_of x.0) all) (link_of x ∷ all) (link_of x ∷ map link_of es)
    (IsPermutation-sym (link_of x ∷ all) (put link_cmp (key x.1) (file_of x.0) all) (put-moves (key x.1) (file_of x.0) all new))
    (IsPermutation-cons (link_of x) all (map link_of es) (own-links es rest (λ q r p e f. own q r p (later q p e) (later r p f)))))
  where
    rest : IsDistinct nat_eq (keys_of es)
    rest = IsDistinct-tail nat_eq x.0 (keys_of es) h

    another : (q : ℕ) (p : AddedPlace) → lookup (nat_eq q) es ≡ Some p → q ≡ x.0 → ⊥
    another q p e = other_key x.0 q es p (IsDistinct-head nat_eq x.0 (keys_of es) h) e

    later : (q : ℕ) (p : AddedPlace) → lookup (nat_eq q) es ≡ Some p → cond (nat_eq q x.0) (Some x.1) (lookup (nat_eq q) es) ≡ Some p
    later q p e = ap (λ b. cond b (Some x.1) (lookup (nat_eq q) es)) (not-eq q x.0 (another q p e)) ∙ e

    none : (o : Option FileId) → find link_cmp (key x.1) (map link_of es) ≡ o → o ≡ None
    none None e = refl
    none (Some f) e =
        let there = found_place es rest (key x.1) f e in
        let first = ap (λ b. cond b (Some x.1) (lookup (nat_eq x.0) es)) (eq-true x.0 x.0 refl) in
        absurd (another f.0 x.1 there (own f.0 x.0 x.1 (later f.0 x.1 there) first))

-- the links that places make
pub all-links : (es : List (ℕ × AddedPlace)) → IsDistinct nat_eq (keys_of es) → ArePlacesOf (links_of es) (λ q. lookup (nat_eq q) es) → IsPermutation (entries (links_of es)) (map link_of es)
all-links es h are = own-links es h (λ q r p e f. ap (λ (x : FileId). x.0) (same_file (file_of q) (file_of r) (sym (are.no_others q p e) ∙ are.no_others r p f)))
