-- The closure answers by the order of the places.
use Rattle.std.proofs.Common.{rules, ◌≡◌, ap}
use Rattle.std.proofs.lemmas.List.Sorted.{answers_always, ranks_by}
use Rattle.std.specs.Ordering.{is_lt}
use Rattle.checkout.specs.Changes.{place_of}
use Rattle.manifest.specs.Tree.{link_cmp}
use Rattle.manifest.proofs.FlatLemmas.{link_cmp_total}
use Rattle.checkout.proofs.order.sort.Goals as goal

pub returns-clause-sorted : goal.returns-clause-sorted
returns-clause-sorted c =
    c.sort_unstable_by.ensures.sorted (λ a b. is_lt (link_cmp (place_of a) (place_of b))) (ranks_by link_cmp_total place_of) (answers_always _ _ _ (λ f a r g called. let by : r ≡ link_cmp (place_of a.0.now) (place_of a.1.0.now) = search rules in ap is_lt by))
