-- Positions of a list, and what is there.
use Rattle.std.proofs.Common.{◌≡◌, ℕ, suc, zero, ◌-◌, ◌≤◌, Bool, true, false, List, [], ◌∷◌, length, Option, Some, None, set, refl, sym, ap, ◌∙◌, if◌then◌else◌, inl, inr, arith}
use Rattle.std.proofs.lemmas.Option.{slice_get_past}
use Rattle.std.specs.Prelude.{slice_get, ◌==◌}
use Rattle.daemon.specs.Server.{at_position}
use Rattle.daemon.specs.Serving.{IsIndex, HasNone}

-- a list is unchanged if a member is written at its own index
pub set-there : {X : Type 0} (xs : List X) (i : ℕ) (x : X) → slice_get xs i ≡ Some x → set xs i x ≡ xs
set-there [] i x h = refl
set-there {X} (y ∷ xs) zero x h = let same : x ≡ y = cc in ap (λ (z : X). z ∷ xs) same
set-there {X} (y ∷ xs) (suc i) x h = ap (λ (zs : List X). y ∷ zs) (set-there xs i x h)

-- no position is 0
at-zero : {X : Type 0} (xs : List X) (position : ℕ) → position ≡ 0 → at_position xs position ≡ None
at-zero xs zero h = refl
at-zero xs (suc position) h = absurd (omega arith)

-- a position beyond the list has no member
at-beyond : {X : Type 0} (xs : List X) (position : ℕ) (b : Bool) → length xs ≤ position - 1 → (if b then None else slice_get xs (position - 1)) ≡ None
at-beyond xs position true h = refl
at-beyond xs position false h = slice_get_past xs (position - 1) h

-- if a list has no such position, no member is at it
pub at-none : {X : Type 0} (xs : List X) (position : ℕ) → HasNone (length xs) position → at_position xs position ≡ None
at-none xs position (inl zeroth) = at-zero xs position zeroth
at-none xs position (inr beyond) = at-beyond xs position (position == 0) beyond

-- the member at a position is the one at the position's index
pub at-index : {X : Type 0} (xs : List X) (position index : ℕ) → IsIndex (length xs) position index → at_position xs position ≡ slice_get xs index
at-index xs position index h =
    ap (λ (b : Bool). if b then None else slice_get xs (position - 1)) h.counted ∙ ap (λ (i : ℕ). slice_get xs i) (sym h.is)

-- an option that is never there is none
pub none-unless : {X : Type 0} (o : Option X) → ((x : X) → o ≡ Some x → ⊥) → o ≡ None
none-unless None never = refl
none-unless (Some x) never = absurd (never x refl)
