-- How often a number is in a bag after another number was taken out.
use Rattle.std.proofs.Common.{◌≡◌, ℕ, ◌+◌, ◌-◌, ◌≤◌, Bool, true, false, List, [], ◌∷◌, refl, sym, ap, ◌∙◌, arith}
use Rattle.std.specs.Prelude.{◌==◌, if◌then◌else◌}
use Rattle.eden_base.proofs.NumberTests.{true-eq, false-ne}
use Rattle.world.specs.World.{times, without_times}

-- A number is taken out `k` times, and each other number stays.
pub times-without : (held : List ℕ) (n k j : ℕ) → times j (without_times k n held) ≡ (if n == j then times j held - k else times j held)
times-without [] n k j = in_ (n == j) where
  in_ : (b : Bool) → 0 ≡ (if b then 0 - k else 0)
  in_ true = omega arith
  in_ false = refl
times-without (m ∷ held) n k j = in_ (m == n) (k == 0) refl refl (times-without held n (k - 1) j) (times-without held n k j) where
  same_in : (i : ℕ) → m ≡ n → (m == i) ≡ (n == i)
  same_in i e = ap (λ x. x == i) e

  apart_in : (b c : Bool) → (m == n) ≡ false → (m == j) ≡ b → (n == j) ≡ c → (x y : ℕ) → x ≡ (if c then y - k else y) → (if b then 1 else 0) + x ≡ (if c then (if b then 1 else 0) + y - k else (if b then 1 else 0) + y)
  apart_in true true f g h x y e = absurd (false-ne m n f (true-eq m j g ∙ sym (true-eq n j h)))
  apart_in true false f g h x y e = ap (λ z. 1 + z) e
  apart_in false true f g h x y e = omega arith
  apart_in false false f g h x y e = ap (λ z. 0 + z) e

  none_in : (c : Bool) (x y : ℕ) → x ≡ 0 → y ≡ (if c then y - x else y)
  none_in true x y e = omega arith
  none_in false x y e = refl

  some_in : (c : Bool) → (k ≡ 0 → ⊥) → (x y : ℕ) → x ≡ (if c then y - (k - 1) else y) → x ≡ (if c then (if c then 1 else 0) + y - k else (if c then 1 else 0) + y)
  some_in true d x y e = let low : 1 ≤ k = omega (arith, d) in omega arith
  some_in false d x y e = omega arith

  in_ : (b c : Bool) → (m == n) ≡ b → (k == 0) ≡ c → times j (without_times (k - 1) n held) ≡ (if n == j then times j held - (k - 1) else times j held) →
      times j (without_times k n held) ≡ (if n == j then times j held - k else times j held) →
      times j (if b then (if c then m ∷ held else without_times (k - 1) n held) else m ∷ without_times k n held) ≡ (if n == j then (if m == j then 1 else 0) + times j held - k else (if m == j then 1 else 0) + times j held)
  in_ true true e f r s = none_in (n == j) k ((if m == j then 1 else 0) + times j held) (true-eq k 0 f)
  in_ true false e f r s = rw (same_in j (true-eq m n e)) (some_in (n == j) (false-ne k 0 f) (times j (without_times (k - 1) n held)) (times j held) r)
  in_ false c e f r s = apart_in (m == j) (n == j) e refl refl (times j (without_times k n held)) (times j held) s
