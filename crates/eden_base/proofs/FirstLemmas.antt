-- Where the first member that passes a test stands, and what changing it or taking it out leaves.
use Rattle.std.proofs.Common.{◌≡◌, ℕ, zero, suc, ◌<◌, Bool, true, false, cond, List, [], ◌∷◌, ◌++◌, length, Option, Some, None, is_some, refl, sym, ap, ◌∙◌, arith, subst}
use Rattle.std.specs.Prelude.{slice_index_or, if◌then◌else◌}
use Rattle.std.specs.Option.{option_map}
use Rattle.std.specs.List.{AllByRecursion}
use Rattle.eden_base.specs.First.{first_where, changed_where, without_where, IsFirstPlace}

-- the index of the first member that passes, if one does
abbrev pub place_where : {X : Type 0} → (X → Bool) → List X → Option ℕ
place_where p [] = None
place_where p (x ∷ xs) = if p x then Some 0 else option_map suc (place_where p xs)

found_here : {X : Type 0} (p : X → Bool) (x : X) (xs : List X) → p x ≡ true → IsFirstPlace p (x ∷ xs) 0
found_here p x xs e = record {
  bound = omega arith;
  value = λ d. rw e refl;
  change = λ f d. rw e refl;
  removal = rw e refl;
}

found_behind : {X : Type 0} (p : X → Bool) (x : X) (xs : List X) (i : ℕ) → p x ≡ false → IsFirstPlace p xs i → IsFirstPlace p (x ∷ xs) (suc i)
found_behind p x xs i e rest = record {
  bound = let h : i < length xs = rest.bound in omega arith;
  value = λ d. rw e (rest.value d);
  change = λ f d. rw e (ap (λ ys. x ∷ ys) (rest.change f d));
  removal = rw e (ap (λ ys. x ∷ ys) rest.removal);
}

found_in : {X : Type 0} (p : X → Bool) (x : X) (xs : List X) (i : ℕ) (b : Bool) (o : Option ℕ) → p x ≡ b →
    ((j : ℕ) → o ≡ Some j → IsFirstPlace p xs j) → cond b (Some 0) (option_map suc o) ≡ Some i → IsFirstPlace p (x ∷ xs) i
found_in p x xs i true o e rest h = let z : 0 ≡ i = cc in subst (IsFirstPlace p (x ∷ xs)) z (found_here p x xs e)
found_in p x xs i false None e rest h = absurd (let none : ⊥ = cc in none)
found_in p x xs i false (Some j) e rest h = let z : suc j ≡ i = cc in subst (IsFirstPlace p (x ∷ xs)) z (found_behind p x xs j e (rest j refl))

-- a place that was found is a place of the list
pub place_where-is_place : {X : Type 0} (p : X → Bool) (xs : List X) (i : ℕ) → place_where p xs ≡ Some i → IsFirstPlace p xs i
place_where-is_place p [] i h = absurd (let none : ⊥ = cc in none)
place_where-is_place p (x ∷ xs) i h = found_in p x xs i (p x) (place_where p xs) refl (place_where-is_place p xs) h

nothing_in : {X : Type 0} (p : X → Bool) (x : X) (xs : List X) (b : Bool) (o : Option ℕ) → p x ≡ b →
    (o ≡ None → first_where p xs ≡ None) → cond b (Some 0) (option_map suc o) ≡ None → first_where p (x ∷ xs) ≡ None
nothing_in p x xs true o e rest h = absurd (let none : ⊥ = cc in none)
nothing_in p x xs false None e rest h = rw e (rest refl)
nothing_in p x xs false (Some j) e rest h = absurd (let none : ⊥ = cc in none)

-- without such an index, no member passes
pub place_where-none : {X : Type 0} (p : X → Bool) (xs : List X) → place_where p xs ≡ None → first_where p xs ≡ None
place_where-none p [] h = refl
place_where-none p (x ∷ xs) h = nothing_in p x xs (p x) (place_where p xs) refl (place_where-none p xs) h

here_in : {X : Type 0} (p : X → Bool) (x : X) (xs : List X) (i : ℕ) (d : X) (b : Bool) → p x ≡ b → b ≡ false →
    place_where p xs ≡ Some i → place_where p (x ∷ xs) ≡ Some (suc i)
here_in p x xs i d b e f rest = rw (e, f, rest) refl

-- the first place where a member passes
pub place_where-here : {X : Type 0} (p : X → Bool) (xs : List X) (i : ℕ) (d : X) → i < length xs →
    ((j : ℕ) → j < i → p (slice_index_or xs j d) ≡ false) → p (slice_index_or xs i d) ≡ true → place_where p xs ≡ Some i
place_where-here p [] i d bound before here = absurd (omega arith)
place_where-here p (x ∷ xs) zero d bound before here = rw here refl
place_where-here p (x ∷ xs) (suc i) d bound before here =
    here_in p x xs i d _ refl (before 0 (omega arith)) (place_where-here p xs i d (omega arith) (λ j h. before (suc j) (omega arith)) here)

-- if no member passes, there is no such index
pub place_where-nowhere : {X : Type 0} (p : X → Bool) (xs : List X) (d : X) →
    ((j : ℕ) → j < length xs → p (slice_index_or xs j d) ≡ false) → place_where p xs ≡ None
place_where-nowhere p [] d none = refl
place_where-nowhere p (x ∷ xs) d none = let e : p x ≡ false = none 0 (omega arith) in let rest : place_where p xs ≡ None = place_where-nowhere p xs d (λ j h. none (suc j) (omega arith)) in rw (e, rest) refl

-- the first member that passes stands at a place of the list
pub IsFirstPlace-here : {X : Type 0} (p : X → Bool) (xs : List X) (i : ℕ) (d : X) → i < length xs →
    ((j : ℕ) → j < i → p (slice_index_or xs j d) ≡ false) → p (slice_index_or xs i d) ≡ true → IsFirstPlace p xs i
IsFirstPlace-here p xs i d bound before here = place_where-is_place p xs i (place_where-here p xs i d bound before here)

-- no member passes
pub first_where-nowhere : {X : Type 0} (p : X → Bool) (xs : List X) (d : X) →
    ((j : ℕ) → j < length xs → p (slice_index_or xs j d) ≡ false) → first_where p xs ≡ None
first_where-nowhere p xs d none = place_where-none p xs (place_where-nowhere p xs d none)

without_in : {X : Type 0} (p : X → Bool) (x : X) (xs : List X) (b : Bool) → cond b (Some x) (first_where p xs) ≡ None →
    (first_where p xs ≡ None → without_where p xs ≡ xs) → cond b xs (x ∷ without_where p xs) ≡ x ∷ xs
without_in p x xs true h rest = absurd (let none : ⊥ = cc in none)
without_in p x xs false h rest = ap (λ ys. x ∷ ys) (rest h)

-- if no member passes, none is taken out
pub without_where-none : {X : Type 0} (p : X → Bool) (xs : List X) → first_where p xs ≡ None → without_where p xs ≡ xs
without_where-none p [] h = refl
without_where-none p (x ∷ xs) h = without_in p x xs (p x) h (without_where-none p xs)

-- what each member has, by what it had
pub Each-kept : {X : Type 0} (P Q : X → Type 0) (xs : List X) → AllByRecursion P xs → ((y : X) → P y → Q y) → AllByRecursion Q xs
Each-kept P Q [] each keeps = tt
Each-kept P Q (x ∷ xs) each keeps = (keeps x each.0, Each-kept P Q xs each.1 keeps)

without_each : {X : Type 0} (P : X → Type 0) (x : X) (xs ys : List X) (b : Bool) → P x → AllByRecursion P xs → AllByRecursion P ys → AllByRecursion P (cond b xs (x ∷ ys))
without_each P x xs ys true here each rest = each
without_each P x xs ys false here each rest = (here, rest)

pub Each-without_where : {X : Type 0} (p : X → Bool) (P : X → Type 0) (xs : List X) → AllByRecursion P xs → AllByRecursion P (without_where p xs)
Each-without_where p P [] each = tt
Each-without_where p P (x ∷ xs) each = without_each P x xs (without_where p xs) (p x) each.0 each.1 (Each-without_where p P xs each.1)

pub Each-append : {X : Type 0} (P : X → Type 0) (xs ys : List X) → AllByRecursion P xs → AllByRecursion P ys → AllByRecursion P (xs ++ ys)
Each-append P [] ys each more = more
Each-append P (x ∷ xs) ys each more = (each.0, Each-append P xs ys each.1 more)

append_in : {X : Type 0} (p : X → Bool) (x : X) (xs ys : List X) (b : Bool) → first_where p (xs ++ ys) ≡ (if is_some (first_where p xs) then first_where p xs else first_where p ys) →
    cond b (Some x) (first_where p (xs ++ ys)) ≡ (if is_some (cond b (Some x) (first_where p xs)) then cond b (Some x) (first_where p xs) else first_where p ys)
append_in p x xs ys true h = refl
append_in p x xs ys false h = h

-- the first member that passes in two lists, one after the other
pub first_where-append : {X : Type 0} (p : X → Bool) (xs ys : List X) → first_where p (xs ++ ys) ≡ (if is_some (first_where p xs) then first_where p xs else first_where p ys)
first_where-append p [] ys = refl
first_where-append p (x ∷ xs) ys = append_in p x xs ys (p x) (first_where-append p xs ys)

-- the member that was changed, where it still passes
pub first_where-changed_same : {X : Type 0} (p : X → Bool) (change : X → X) (xs : List X) → ((x : X) → p (change x) ≡ p x) → first_where p (changed_where p change xs) ≡ option_map change (first_where p xs)
first_where-changed_same p change [] keeps = refl
first_where-changed_same p change (x ∷ xs) keeps = same_in p change x xs keeps (p x) refl (first_where-changed_same p change xs keeps) where
  same_in : {X : Type 0} (p : X → Bool) (change : X → X) (x : X) (xs : List X) → ((y : X) → p (change y) ≡ p y) → (b : Bool) → p x ≡ b → first_where p (changed_where p change xs) ≡ option_map change (first_where p xs) →
      first_where p (cond b (change x ∷ xs) (x ∷ changed_where p change xs)) ≡ option_map change (cond b (Some x) (first_where p xs))
  same_in p change x xs keeps true e rest = let here : p (change x) ≡ true = keeps x ∙ e in rw here refl
  same_in p change x xs keeps false e rest = rw e rest

-- the first that passes another test, which the change doesn't touch
pub first_where-changed_other : {X : Type 0} (p q : X → Bool) (change : X → X) (xs : List X) → ((x : X) → q (change x) ≡ q x) → ((x : X) → p x ≡ true → q x ≡ false) →
    first_where q (changed_where p change xs) ≡ first_where q xs
first_where-changed_other p q change [] blind apart = refl
first_where-changed_other p q change (x ∷ xs) blind apart = other_in p q change x xs blind apart (p x) (q x) refl refl (first_where-changed_other p q change xs blind apart) where
  other_in : {X : Type 0} (p q : X → Bool) (change : X → X) (x : X) (xs : List X) → ((y : X) → q (change y) ≡ q y) → ((y : X) → p y ≡ true → q y ≡ false) → (b c : Bool) → p x ≡ b → q x ≡ c →
      first_where q (changed_where p change xs) ≡ first_where q xs → first_where q (cond b (change x ∷ xs) (x ∷ changed_where p change xs)) ≡ cond c (Some x) (first_where q xs)
  other_in p q change x xs blind apart true true e f rest = absurd (let g : q x ≡ false = apart x e in let h : true ≡ false = sym f ∙ g in let none : ⊥ = cc in none)
  other_in p q change x xs blind apart true false e f rest = let here : q (change x) ≡ false = blind x ∙ f in rw here refl
  other_in p q change x xs blind apart false true e f rest = rw f refl
  other_in p q change x xs blind apart false false e f rest = rw f rest

-- the first that passes another test, without a member that doesn't pass it
pub first_where-without_other : {X : Type 0} (p q : X → Bool) (xs : List X) → ((x : X) → p x ≡ true → q x ≡ false) → first_where q (without_where p xs) ≡ first_where q xs
first_where-without_other p q [] apart = refl
first_where-without_other p q (x ∷ xs) apart = other_in p q x xs apart (p x) (q x) refl refl (first_where-without_other p q xs apart) where
  other_in : {X : Type 0} (p q : X → Bool) (x : X) (xs : List X) → ((y : X) → p y ≡ true → q y ≡ false) → (b c : Bool) → p x ≡ b → q x ≡ c →
      first_where q (without_where p xs) ≡ first_where q xs → first_where q (cond b xs (x ∷ without_where p xs)) ≡ cond c (Some x) (first_where q xs)
  other_in p q x xs apart true true e f rest = absurd (let g : q x ≡ false = apart x e in let h : true ≡ false = sym f ∙ g in let none : ⊥ = cc in none)
  other_in p q x xs apart true false e f rest = refl
  other_in p q x xs apart false true e f rest = rw f refl
  other_in p q x xs apart false false e f rest = rw f rest
