-- The version that is chosen is the greatest that both daemons have.
use Rattle.std.proofs.Common.{◌≡◌, ◌⊎◌, ℕ, ◌==◌, ◌≤◌, max, Bool, true, false, List, [], ◌∷◌, fold, filter, Some, if◌then◌else◌, refl, sym, subst, ◌∙◌, inl, inr, arith, rules}
use Rattle.std.proofs.lemmas.Bool.{or_right}
use Rattle.std.specs.List.{reduce}
use Rattle.takeover_core.specs.declared.heard.Heard.TheVariants.{Say}
use Rattle.takeover_core.specs.declared.message.Message.TheVariants.{Offer, Choice}
use Rattle.takeover_core.specs.declared.phase.Phase.{Phase}
use Rattle.takeover_core.specs.declared.phase.Phase.TheVariants.{Serving, Draining, Pinged, Making, Handed}
use Rattle.takeover_core.specs.Laws.{ChoosesGreatestCommon}
use Rattle.takeover_core.specs.Phases.{Hear, heard}
use Rattle.takeover_core.specs.Versions.{is_among, greatest_common}
use Rattle.takeover_core.proofs.Rows.{node_of}

-- an answer that begins a session has the greatest common version
chosen : (versions : List ℕ) (n : ℕ) (phase : Phase) (offered : List ℕ) (s v : ℕ) → heard (node_of versions n phase) (Hear (Offer offered)) ≡ Say (Choice s v) → greatest_common versions offered ≡ Some v
chosen vs n (Serving g) offered s v e = grind (arith, rules)
chosen vs n (Draining g t w) offered s v e = cc
chosen vs n (Pinged g t w) offered s v e = cc
chosen vs n (Making g t w) offered s v e = cc
chosen vs n (Handed g t) offered s v e = cc
chosen vs n phase offered s v e = cc

-- a value is the greatest of those in a list that pass a test
record IsGreatest (p : ℕ → Bool) (xs : List ℕ) (v : ℕ) : Type 0 where
  among : is_among xs v ≡ true
  passes : p v ≡ true
  bound : (w : ℕ) → p w ≡ true → is_among xs w ≡ true → w ≤ v

-- a value is the greatest of a start and of those in a list that pass a test
record IsTop (p : ℕ → Bool) (xs : List ℕ) (start v : ℕ) : Type 0 where
  above : start ≤ v
  reached : (v ≡ start) ⊎ ((is_among xs v ≡ true) × (p v ≡ true))
  bound : (w : ℕ) → p w ≡ true → is_among xs w ≡ true → w ≤ v

-- one of the two is the greater
max_either : (a b : ℕ) → (max a b ≡ a) ⊎ (max a b ≡ b)
max_either a b = grind (arith, rules)

-- the first of a list is among it, and so is what is among the rest
pub among_first : (xs : List ℕ) (x : ℕ) → is_among (x ∷ xs) x ≡ true
among_first xs x = grind (arith, rules)

among_rest : (x : ℕ) (xs : List ℕ) (w : ℕ) → is_among xs w ≡ true → is_among (x ∷ xs) w ≡ true
among_rest x xs w e = or_right (x == w) (is_among xs w) e

among_either : (x : ℕ) (xs : List ℕ) (w : ℕ) → is_among (x ∷ xs) w ≡ true → (x ≡ w) ⊎ (is_among xs w ≡ true)
among_either x xs w e = grind (arith, rules)

top_first : (p : ℕ → Bool) (x : ℕ) (xs : List ℕ) (start v : ℕ) (b : Bool) → p x ≡ b → ((a : ℕ) → fold max a (filter p xs) ≡ v → IsTop p xs a v) → fold max start (if b then x ∷ filter p xs else filter p xs) ≡ v → IsTop p (x ∷ xs) start v
top_first p x xs start v true passes rest e =
    let top : IsTop p xs (max start x) v = rest (max start x) e in
    let above : max start x ≤ v = top.above in
    record {
      above = omega arith;
      reached =
          elim top.reached [
            | inl is ↦
                elim (max_either start x) [
                  | inl before ↦ inl (is ∙ before)
                  | inr here ↦ inr (subst (λ (w : ℕ). (is_among (x ∷ xs) w ≡ true) × (p w ≡ true)) (sym (is ∙ here)) (among_first xs x, passes))
                ]
            | inr later ↦ inr (among_rest x xs v later.0, later.1)
          ];
      bound =
          λ w good among.
          elim (among_either x xs w among) [ inl here ↦ omega (arith, above, here) | inr later ↦ top.bound w good later ];
    }
top_first p x xs start v false passes rest e =
    let top : IsTop p xs start v = rest start e in
    record {
      above = top.above;
      reached =
          elim top.reached [ inl is ↦ inl is | inr later ↦ inr (among_rest x xs v later.0, later.1) ];
      bound =
          λ w good among.
          elim (among_either x xs w among) [
            | inl here ↦ let none : ⊥ = cc in absurd none
            | inr later ↦ top.bound w good later
          ];
    }

top : (p : ℕ → Bool) (xs : List ℕ) (start v : ℕ) → fold max start (filter p xs) ≡ v → IsTop p xs start v
top p [] start v e = record { above = omega (arith, e); reached = inl (sym e); bound = λ w good among. cc }
top p (x ∷ xs) start v e = top_first p x xs start v (p x) refl (λ a h. top p xs a v h) e

-- the greatest of those that pass
greatest_first : (p : ℕ → Bool) (x : ℕ) (xs : List ℕ) (v : ℕ) (b : Bool) → p x ≡ b → (reduce max (filter p xs) ≡ Some v → IsGreatest p xs v) → reduce max (if b then x ∷ filter p xs else filter p xs) ≡ Some v → IsGreatest p (x ∷ xs) v
greatest_first p x xs v true passes rest e =
    let is : fold max x (filter p xs) ≡ v = cc in
    let top : IsTop p xs x v = top p xs x v is in
    record {
      among = elim top.reached [ inl here ↦ subst (λ (w : ℕ). is_among (x ∷ xs) w ≡ true) (sym here) (among_first xs x) | inr later ↦ among_rest x xs v later.0 ];
      passes = elim top.reached [ inl here ↦ subst (λ (w : ℕ). p w ≡ true) (sym here) passes | inr later ↦ later.1 ];
      bound =
          λ w good among.
          elim (among_either x xs w among) [ inl here ↦ omega (arith, top.above, here) | inr later ↦ top.bound w good later ];
    }
greatest_first p x xs v false passes rest e =
    let top : IsGreatest p xs v = rest e in
    record {
      among = among_rest x xs v top.among;
      passes = top.passes;
      bound =
          λ w good among.
          elim (among_either x xs w among) [
            | inl here ↦ let none : ⊥ = cc in absurd none
            | inr later ↦ top.bound w good later
          ];
    }

greatest : (p : ℕ → Bool) (xs : List ℕ) (v : ℕ) → reduce max (filter p xs) ≡ Some v → IsGreatest p xs v
greatest p [] v e = let none : ⊥ = cc in absurd none
greatest p (x ∷ xs) v e = greatest_first p x xs v (p x) refl (λ h. greatest p xs v h) e

pub chooses_greatest_common_lem : ChoosesGreatestCommon
chooses_greatest_common_lem node offered s v e =
    let top : IsGreatest (is_among node.versions) offered v =
    greatest (is_among node.versions) offered v (chosen node.versions node.sessions node.phase offered s v e) in
    record { own_has = top.passes; offered_has = top.among; greatest = top.bound }
