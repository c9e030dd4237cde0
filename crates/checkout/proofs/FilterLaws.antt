-- What is left of a list by a test.
use Rattle.std.proofs.Common.{◌≡◌, Bool, true, false, cond, List, [], ◌∷◌, map, refl, sym, ap, subst, ◌∙◌, inl, inr, arith}
use Rattle.std.proofs.lemmas.List.Elements.{Contains-append_right}
use Rattle.std.proofs.lemmas.Map.Keys.{IsDistinct-cons, IsDistinct-head, IsDistinct-tail}
use Rattle.std.specs.List.{AllByRecursion, Contains, IsDistinct, filter}
use Rattle.checkout.proofs.OneList.{contains_cases}

-- what is left was there and passes
pub contains-filter : {X : Type 0} (p : X → Bool) (xs : List X) (x : X) → Contains (filter p xs) x → Contains xs x × (p x ≡ true)
contains-filter p [] x (k, within, is) = absurd (omega arith)
contains-filter p (y ∷ ys) x h =
    elim (p y) as (λ b. p y ≡ b → Contains (cond b (y ∷ filter p ys) (filter p ys)) x → Contains (y ∷ ys) x × (p x ≡ true)) [
      | true ↦ λ e k. elim (contains_cases y x (filter p ys) k) [
        | inl same ↦ ((0, omega arith, same), ap p (sym same) ∙ e)
        | inr later ↦ let r = contains-filter p ys x later in (Contains-append_right (y ∷ []) ys x r.0, r.1)
      ]
      | false ↦ λ e k. let r = contains-filter p ys x k in (Contains-append_right (y ∷ []) ys x r.0, r.1)
    ] refl h

-- what was there and passes is left
pub filter-contains : {X : Type 0} (p : X → Bool) (xs : List X) (x : X) → Contains xs x → p x ≡ true → Contains (filter p xs) x
filter-contains p [] x (k, within, is) t = absurd (omega arith)
filter-contains p (y ∷ ys) x h t =
    elim (contains_cases y x ys h) [
      | inl same ↦ subst (λ b. Contains (cond b (y ∷ filter p ys) (filter p ys)) x) (sym (ap p same ∙ t)) (0, omega arith, same)
      | inr later ↦
          let r = filter-contains p ys x later t in
          elim (p y) as (λ b. Contains (cond b (y ∷ filter p ys) (filter p ys)) x) [ true ↦ Contains-append_right (y ∷ []) (filter p ys) x r | false ↦ r ]
    ]

all-filter : {X K : Type 0} (place : X → K) (P : K → Type 0) (p : X → Bool) (xs : List X) → AllByRecursion P (map place xs) → AllByRecursion P (map place (filter p xs))
all-filter place P p [] all = tt
all-filter place P p (x ∷ xs) all =
    let rest = all-filter place P p xs all.1 in
    elim (p x) as (λ b. AllByRecursion P (map place (cond b (x ∷ filter p xs) (filter p xs)))) [ true ↦ (all.0, rest) | false ↦ rest ]

-- places that are apart stay so
pub distinct-filter : {X K : Type 0} (e : K → K → Bool) (place : X → K) (p : X → Bool) (xs : List X) → IsDistinct e (map place xs) → IsDistinct e (map place (filter p xs))
distinct-filter e place p [] apart = apart
distinct-filter e place p (x ∷ xs) apart =
    let rest = distinct-filter e place p xs (IsDistinct-tail e (place x) (map place xs) apart) in
    elim (p x) as (λ b. IsDistinct e (map place (cond b (x ∷ filter p xs) (filter p xs)))) [
      | true ↦ IsDistinct-cons e (place x) (map place (filter p xs)) (all-filter place (λ y. e (place x) y ≡ false) p xs (IsDistinct-head e (place x) (map place xs) apart)) rest
      | false ↦ rest
    ]
