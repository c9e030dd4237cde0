-- What tests say of the members of a list, after one was changed, taken out or added.
use Rattle.std.proofs.Common.{◌≡◌, suc, Bool, true, false, cond, ◌||◌, List, [], ◌∷◌, ◌++◌, Option, Some, None, refl, sym, ap, ◌∙◌, subst, length, inl, inr, ◌⊎◌}
use Rattle.std.proofs.Math.Bool.{or-true}
use Rattle.std.specs.Prelude.{IsSome}
use Rattle.std.specs.List.{list_any}
use Rattle.eden_base.specs.First.{first_where, changed_where, without_where}

pub some-IsSome : {X : Type 0} (o : Option X) (x : X) → o ≡ Some x → IsSome o
some-IsSome o x e = subst (λ p. IsSome p) (sym e) refl

pub some-is : {X : Type 0} (o : Option X) → IsSome o → (x : X) × (o ≡ Some x)
some-is None h = absurd (let none : ⊥ = cc in none)
some-is (Some x) h = (x, refl)

-- an option is a value or none
pub some-or : {X : Type 0} (o : Option X) → ((x : X) × (o ≡ Some x)) ⊎ (o ≡ None)
some-or None = inr refl
some-or (Some x) = inl (x, refl)

pub some-same : {X : Type 0} (o : Option X) (x y : X) → o ≡ Some x → o ≡ Some y → x ≡ y
some-same o x y e f = let s : Some x ≡ Some y = sym e ∙ f in cc

pub some-none : {X : Type 0} (o : Option X) (x : X) → o ≡ Some x → o ≡ None → ⊥
some-none o x e f = let s : Some x ≡ None = sym e ∙ f in let none : ⊥ = cc in none

-- what is found passes
pub first-passes : {X : Type 0} (xs : List X) (p : X → Bool) (x : X) → first_where p xs ≡ Some x → p x ≡ true
first-passes [] p x h = absurd (let none : ⊥ = cc in none)
first-passes (y ∷ xs) p x h = passes_in y xs p x (p y) refl h (first-passes xs p x) where
  passes_in : {X : Type 0} (y : X) (xs : List X) (p : X → Bool) (x : X) → (b : Bool) → p y ≡ b → cond b (Some y) (first_where p xs) ≡ Some x →
      (first_where p xs ≡ Some x → p x ≡ true) → p x ≡ true
  passes_in y xs p x true e h rest = let same : y ≡ x = cc in subst (λ z. p z ≡ true) same e
  passes_in y xs p x false e h rest = rest h

-- what is found is some member
pub any-first : {X : Type 0} (xs : List X) (p q : X → Bool) (x : X) → first_where p xs ≡ Some x → q x ≡ true → list_any q xs ≡ true
any-first [] p q x h t = absurd (let none : ⊥ = cc in none)
any-first (y ∷ xs) p q x h t = first_in y xs p q x (p y) h t (any-first xs p q x) where
  first_in : {X : Type 0} (y : X) (xs : List X) (p q : X → Bool) (x : X) → (b : Bool) → cond b (Some y) (first_where p xs) ≡ Some x → q x ≡ true →
      (first_where p xs ≡ Some x → q x ≡ true → list_any q xs ≡ true) → list_any q (y ∷ xs) ≡ true
  first_in y xs p q x true h t rest = let same : x ≡ y = cc in let here : q y ≡ true = subst (λ z. q z ≡ true) same t in rw here refl
  first_in y xs p q x false h t rest = rw (rest h t) (or-true (q y))

-- a test that no member passes fails at each that is found
pub first-none : {X : Type 0} (xs : List X) (p q : X → Bool) (x : X) → first_where q xs ≡ None → first_where p xs ≡ Some x → q x ≡ false
first-none [] p q x n h = absurd (let none : ⊥ = cc in none)
first-none (y ∷ xs) p q x n h = none_in y xs p q x (p y) (q y) refl n h (first-none xs p q x) where
  none_in : {X : Type 0} (y : X) (xs : List X) (p q : X → Bool) (x : X) → (b c : Bool) → q y ≡ c → cond c (Some y) (first_where q xs) ≡ None → cond b (Some y) (first_where p xs) ≡ Some x →
      (first_where q xs ≡ None → first_where p xs ≡ Some x → q x ≡ false) → q x ≡ false
  none_in y xs p q x b true e n h rest = absurd (let none : ⊥ = cc in none)
  none_in y xs p q x true false e n h rest = let same : y ≡ x = cc in subst (λ z. q z ≡ false) same e
  none_in y xs p q x false false e n h rest = rest n h

-- whether some member passes, after a change that the test doesn't see, a removal and an addition
pub any-changed : {X : Type 0} (xs : List X) (p q : X → Bool) (change : X → X) → ((x : X) → q (change x) ≡ q x) → list_any q (changed_where p change xs) ≡ list_any q xs
any-changed [] p q change blind = refl
any-changed (x ∷ xs) p q change blind = any_in x xs p q change blind (p x) (any-changed xs p q change blind) where
  any_in : {X : Type 0} (x : X) (xs : List X) (p q : X → Bool) (change : X → X) → ((y : X) → q (change y) ≡ q y) → (b : Bool) → list_any q (changed_where p change xs) ≡ list_any q xs →
      list_any q (cond b (change x ∷ xs) (x ∷ changed_where p change xs)) ≡ (q x || list_any q xs)
  any_in x xs p q change blind true rest = ap (λ b. b || list_any q xs) (blind x)
  any_in x xs p q change blind false rest = ap (λ b. q x || b) rest

pub any-without : {X : Type 0} (xs : List X) (p q : X → Bool) → ((x : X) → first_where p xs ≡ Some x → q x ≡ false) → list_any q xs ≡ true → list_any q (without_where p xs) ≡ true
any-without [] p q d h = h
any-without (x ∷ xs) p q d h = any_in x xs p q (p x) d h (any-without xs p q) where
  any_in : {X : Type 0} (x : X) (xs : List X) (p q : X → Bool) (b : Bool) → ((y : X) → cond b (Some x) (first_where p xs) ≡ Some y → q y ≡ false) → (q x || list_any q xs) ≡ true →
      (((y : X) → first_where p xs ≡ Some y → q y ≡ false) → list_any q xs ≡ true → list_any q (without_where p xs) ≡ true) → list_any q (cond b xs (x ∷ without_where p xs)) ≡ true
  any_in x xs p q true d h rest = let out : q x ≡ false = d x refl in rw out at h
  any_in x xs p q false d h rest = split_in (q x) h (rest d) where
    split_in : (c : Bool) → (c || list_any q xs) ≡ true → (list_any q xs ≡ true → list_any q (without_where p xs) ≡ true) → (c || list_any q (without_where p xs)) ≡ true
    split_in true k r = refl
    split_in false k r = r k

pub any-append : {X : Type 0} (xs : List X) (q : X → Bool) (x : X) → list_any q xs ≡ true → list_any q (xs ++ x ∷ []) ≡ true
any-append [] q x h = absurd (let none : ⊥ = cc in none)
any-append (y ∷ xs) q x h = append_in (q y) h (any-append xs q x) where
  append_in : (c : Bool) → (c || list_any q xs) ≡ true → (list_any q xs ≡ true → list_any q (xs ++ x ∷ []) ≡ true) → (c || list_any q (xs ++ x ∷ [])) ≡ true
  append_in true h' rest = refl
  append_in false h' rest = rest h'

-- a list without one of its members is one shorter, and a changed one as long
pub length-without_where : {X : Type 0} (xs : List X) (p : X → Bool) (x : X) → first_where p xs ≡ Some x → suc (length (without_where p xs)) ≡ length xs
length-without_where [] p x h = absurd (let none : ⊥ = cc in none)
length-without_where (y ∷ xs) p x h = length_in y xs p x (p y) h (length-without_where xs p x) where
  length_in : {X : Type 0} (y : X) (xs : List X) (p : X → Bool) (x : X) (b : Bool) → cond b (Some y) (first_where p xs) ≡ Some x →
      (first_where p xs ≡ Some x → suc (length (without_where p xs)) ≡ length xs) → suc (length (cond b xs (y ∷ without_where p xs))) ≡ suc (length xs)
  length_in y xs p x true h rest = refl
  length_in y xs p x false h rest = ap suc (rest h)
