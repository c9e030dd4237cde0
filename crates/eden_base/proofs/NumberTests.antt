-- Tests whether numbers are equal, and what they say.
use Rattle.std.proofs.Common.{◌≡◌, ℕ, Bool, true, false, refl, sym, ◌∙◌, inl, inr, ◌⊎◌, arith}
use Rattle.std.specs.Prelude.{◌==◌}
use Rattle.std.proofs.lemmas.Bool.Decides.{nat_tests}

pub eq-true : (m n : ℕ) → m ≡ n → (m == n) ≡ true
eq-true m n e = grind (arith, nat_tests)

pub eq-false : (m n : ℕ) → (m ≡ n → ⊥) → (m == n) ≡ false
eq-false m n d = eq_in (m == n) refl where
  eq_in : (b : Bool) → (m == n) ≡ b → b ≡ false
  eq_in true e = absurd (d (grind (arith, nat_tests)))
  eq_in false e = refl

pub true-eq : (m n : ℕ) → (m == n) ≡ true → m ≡ n
true-eq m n e = grind (arith, nat_tests)

pub false-ne : (m n : ℕ) → (m == n) ≡ false → m ≡ n → ⊥
false-ne m n e = λ h. let t : (m == n) ≡ true = eq-true m n h in let none : true ≡ false = sym t ∙ e in cc

-- two numbers are equal or not
pub eq-or : (m n : ℕ) → (m ≡ n) ⊎ (m ≡ n → ⊥)
eq-or m n = or_in (m == n) refl where
  or_in : (b : Bool) → (m == n) ≡ b → (m ≡ n) ⊎ (m ≡ n → ⊥)
  or_in true e = inl (true-eq m n e)
  or_in false e = inr (false-ne m n e)
