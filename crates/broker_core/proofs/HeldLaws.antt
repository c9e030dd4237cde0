-- How often a number is held at first, after one more time, and after fewer.
use Rattle.std.proofs.Common.{◌≡◌, ℕ, ◌+◌, ◌-◌, ◌≤◌, Bool, true, false, cond, Option, Some, None, if◌then◌else◌, refl, ap, ◌∙◌, arith}
use Rattle.std.specs.Prelude.{◌==◌, nat_le}
use Rattle.std.specs.Option.{unwrap_or}
use Rattle.std.specs.Ordering.{nat_cmp, eq_by_cmp}
use Rattle.std.specs.Cmp.{nat_cmp_total, unsigned_tied}
use Rattle.std.specs.FinMap as map
use Rattle.std.specs.FinMap.{get-empty, get-insert, get-remove}
use Rattle.std.proofs.lemmas.Bool.Decides.{nat_tests}
use Rattle.broker_core.specs.Held.{HeldMap, held_count, none_held, raised, lowered}

-- the order tells the same numbers apart
tied : (m n : ℕ) → eq_by_cmp nat_cmp m n ≡ (n == m)
tied m n = grind (arith, nat_tests, unsigned_tied m n)

pub get_inserted : (held : HeldMap) (n c m : ℕ) → map.get (map.insert held n c) m ≡ (if n == m then Some c else map.get held m)
get_inserted held n c m = get-insert nat_cmp_total held n c m ∙ ap (λ (b : Bool). cond b (Some c) (map.get held m)) (tied m n)

pub get_removed : (held : HeldMap) (n m : ℕ) → map.get (map.remove held n) m ≡ (if n == m then None else map.get held m)
get_removed held n m = get-remove nat_cmp_total held n m ∙ ap (λ (b : Bool). cond b None (map.get held m)) (tied m n)

counted : (b : Bool) (o p : Option ℕ) → unwrap_or (cond b o p) 0 ≡ cond b (unwrap_or o 0) (unwrap_or p 0)
counted true o p = refl
counted false o p = refl

pub held_count-none : (m : ℕ) → held_count none_held m ≡ 0
held_count-none m = ap (λ (o : Option ℕ). unwrap_or o 0) (get-empty nat_cmp m)

held_count-inserted : (held : HeldMap) (n c m : ℕ) → held_count (map.insert held n c) m ≡ (if n == m then c else held_count held m)
held_count-inserted held n c m = ap (λ (o : Option ℕ). unwrap_or o 0) (get_inserted held n c m) ∙ counted (n == m) (Some c) (map.get held m)

held_count-removed : (held : HeldMap) (n m : ℕ) → held_count (map.remove held n) m ≡ (if n == m then 0 else held_count held m)
held_count-removed held n m = ap (λ (o : Option ℕ). unwrap_or o 0) (get_removed held n m) ∙ counted (n == m) None (map.get held m)

pub held_count-raised : (held : HeldMap) (n m : ℕ) → held_count (raised held n) m ≡ held_count held m + (if n == m then 1 else 0)
held_count-raised held n m = held_count-inserted held n (held_count held n + 1) m ∙ at_m (n == m) refl where
  at_m : (b : Bool) → (n == m) ≡ b → cond b (held_count held n + 1) (held_count held m) ≡ held_count held m + cond b 1 0
  at_m true e = let same : n ≡ m = grind (arith, nat_tests) in ap (λ j. held_count held j + 1) same
  at_m false e = omega arith

pub held_count-lowered : (held : HeldMap) (n k m : ℕ) → held_count (lowered held n k) m ≡ held_count held m - (if n == m then k else 0)
held_count-lowered held n k m = by_test (nat_le (held_count held n) k) refl where
  struck : (b : Bool) → (n == m) ≡ b → held_count held n ≤ k → cond b 0 (held_count held m) ≡ held_count held m - cond b k 0
  struck true e low = let same : n ≡ m = grind (arith, nat_tests) in let counts : held_count held n ≡ held_count held m = ap (held_count held) same in omega arith
  struck false e low = omega arith

  fewer : (b : Bool) → (n == m) ≡ b → cond b (held_count held n - k) (held_count held m) ≡ held_count held m - cond b k 0
  fewer true e = let same : n ≡ m = grind (arith, nat_tests) in ap (λ j. held_count held j - k) same
  fewer false e = omega arith

  by_test : (t : Bool) → nat_le (held_count held n) k ≡ t → held_count (cond t (map.remove held n) (map.insert held n (held_count held n - k))) m ≡ held_count held m - (if n == m then k else 0)
  by_test true e = held_count-removed held n m ∙ struck (n == m) refl (grind (arith, nat_tests))
  by_test false e = held_count-inserted held n (held_count held n - k) m ∙ fewer (n == m) refl
