use Rattle.std.proofs.Common.{sym, ◌∙◌}
use Rattle.std.proofs.lemmas.List.Sorted.{list_any-IsPermutation, IsNonDecreasingBy-from_sort}
use Rattle.map_image.specs.Usage.{is_number}
use Rattle.map_image.proofs.usage.sorted.Goals as goal

pub returns : goal.returns
returns c = λ entries has.
    let old = c.args.parents.items in
    let new = c.sort_unstable.new.self.items in
    record {
      has = λ n. sym (list_any-IsPermutation (is_number n) old new c.sort_unstable.ensures.permutation) ∙ has n;
      rise = λ i j le lt. IsNonDecreasingBy-from_sort (λ x. x) new c.sort_unstable.ensures.sorted i j 0 le lt;
    }
