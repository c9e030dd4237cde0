-- At the end each bucket stands where it has to.
use Rattle.std.proofs.Common.{◌≡◌, ℕ, suc, zero, ◌+◌, ◌<◌, ◌*◌, ◌++◌, List, [], ◌∷◌, length, get_or, subst, ap, arith, ◌∙◌, sym}
use Rattle.std.proofs.lemmas.Grind.{common_steps}
use Rattle.std.proofs.Math.Nat.{mod-lt}
use Rattle.key_map.specs.Cells.{bits, empty_bucket, spread}
use Rattle.key_map.specs.declared.bucket.Bucket.{Bucket}
use Rattle.key_map.proofs.CellLemmas.{doubled_same}
use Rattle.key_map.proofs.buckets.doubled.Goals as goal

-- a list whose members are given by their places, with the next member behind it
pushed : (xs : List Bucket) (x : Bucket) (at : ℕ → Bucket) → ((i : ℕ) → i < length xs → get_or xs i empty_bucket ≡ at i) → x ≡ at (length xs) → (i : ℕ) → i < length xs + 1 → get_or (xs ++ x ∷ []) i empty_bucket ≡ at i
pushed [] x at are is zero less = is
pushed [] x at are is (suc i) less = absurd (omega arith)
pushed (y ∷ xs) x at are is zero less = are 0 (omega arith)
pushed (y ∷ xs) x at are is (suc i) less = pushed xs x (λ j. at (suc j)) (λ j below. are (suc j) (omega arith)) is i (omega arith)

pub loop-place-preserved : goal.loop-place-preserved
loop-place-preserved c =
    let was = c.loop-place.invariant in
    let wide = c.loop-place.wide.items in
    let at = spread c.args.buckets.now c.args.shift c.in-Some.len in
    let is = c.kept_at.ensures.bucket ∙ ap at (sym was.long) in
    let pushed_so = pushed wide c.kept_at.result at (λ i less. was.buckets i (omega (arith, was.long))) is in
    record {
      long = omega (arith, c.in_ok-push.ensures.len);
      buckets = λ i less. ap (λ xs. get_or xs i empty_bucket) c.in_ok-push.ensures.items ∙ pushed_so i (omega (arith, was.long));
    }

pub returns : goal.returns
returns c = record {
  same = λ k.
      let some = c.requires.some in
      let twice : c.in-Some.len ≡ length c.args.buckets.now * 2 = grind (arith, common_steps) in
      let done : c.loop-place.place ≡ length c.args.buckets.now * 2 = grind (arith, common_steps) in
      let long = c.loop-place.invariant.long in
      doubled_same c.args.buckets.now c.loop-place.wide.items c.args.shift k
      (mod-lt (bits c.args.shift k) (omega arith))
      (omega arith)
      (λ i less. subst (λ (n : ℕ). get_or c.loop-place.wide.items i empty_bucket ≡ spread c.args.buckets.now c.args.shift n i) twice (c.loop-place.invariant.buckets i (omega arith)));
}
