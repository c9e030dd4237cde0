-- Ids that rise once they are sorted are apart in any order.
use Rattle.std.proofs.Common.{◌≤◌, length, rules, arith}
use Rattle.std.proofs.lemmas.Cmp.{eq_by_cmp_equiv, nat_cmp_total}
use Rattle.std.proofs.lemmas.List.Sorted.{IsPermutation-sym}
use Rattle.std.proofs.lemmas.Map.Keys.{IsDistinct-from_sorted, IsDistinct-IsPermutation, sorted_from_strictly_increasing}
use Rattle.std.specs.Ordering.{eq_by_cmp, nat_cmp}
use Rattle.checkout.proofs.changes.by_other.are_apart.Goals as goal

pub returns : goal.returns
returns c =
    let sorted = c.sort_unstable.new.self.items in
    let all : length sorted ≤ c.loop-i.i = search rules in
    record {
      apart = λ _. IsDistinct-IsPermutation (eq_by_cmp nat_cmp) (λ x y. (eq_by_cmp_equiv nat_cmp_total).symm x y) sorted c.args.ids.items
          (IsPermutation-sym c.args.ids.items sorted c.sort_unstable.ensures.permutation)
          (IsDistinct-from_sorted nat_cmp sorted (sorted_from_strictly_increasing sorted (λ k lt. c.loop-i.invariant k 0 (omega (arith, lt, all)))));
    }
