-- The mark of a block's first file counts the whole block, once both halves are gone.
use Rattle.std.proofs.Common.{◌≡◌, ℕ, ◌+◌, ◌*◌, ◌<◌, ◌≤◌, ◌==◌, Bool, true, false, nat_lt, if◌then◌else◌, refl, sym, ap, subst, ◌∙◌, arith}
use Rattle.std.proofs.lemmas.Bool.Decides.{nat_tests}
use Rattle.checkout.specs.UnlinkedFiles.{AreMarks}
use Rattle.manifest.specs.Tally.{Tally, count_of}

module _ (gone : ℕ → Bool) (old new : Tally) (first second half : ℕ) (are : AreMarks gone old) (some : 1 ≤ half) (behind : second ≡ first + half)
    (at_first : half ≤ count_of old first) (at_second : half ≤ count_of old second) (set : (q : ℕ) → count_of new q ≡ (if q == first then half * 2 else count_of old q)) where
  block : (x : ℕ) → first ≤ x → x < first + half * 2 → gone x ≡ true
  block x low high = elim (nat_lt x second) as (λ b. nat_lt x second ≡ b → gone x ≡ true) [
    | true ↦ λ e.
        let less : x < second = grind (arith, nat_tests) in
        are.1 first x low (omega (arith, less, behind, at_first))
    | false ↦ λ e.
        let more : second ≤ x = grind (arith, nat_tests) in
        are.1 second x more (omega (arith, high, behind, at_second))
  ] refl

  marked : (q : ℕ) → nat_lt 0 (count_of new q) ≡ gone q
  marked q = ap (nat_lt 0) (set q) ∙ (elim (q == first) as (λ b. (q == first) ≡ b → nat_lt 0 (if b then half * 2 else count_of old q) ≡ gone q) [
    | true ↦ λ e.
        let same : q ≡ first = grind (arith, nat_tests) in
        let above : nat_lt 0 (half * 2) ≡ true = grind (arith, nat_tests) in
        above ∙ sym (block q (omega (arith, same)) (omega (arith, same, some)))
    | false ↦ λ e. are.0 q
  ] refl)

  reach : (q x : ℕ) → q ≤ x → x < q + count_of new q → gone x ≡ true
  reach q x low high = elim (q == first) as (λ b. (q == first) ≡ b → x < q + (if b then half * 2 else count_of old q) → gone x ≡ true) [
    | true ↦ λ e lt.
        let same : q ≡ first = grind (arith, nat_tests) in
        block x (omega (arith, same, low)) (omega (arith, same, lt))
    | false ↦ λ e lt. are.1 q x low lt
  ] refl (subst (λ n. x < q + n) (set q) high)

  pub AreMarks-joined : AreMarks gone new
  AreMarks-joined = (marked, reach)
