-- The number stands where a search finds it, or nowhere.
use Rattle.std.proofs.Common.{◌∙◌, sym, ap, subst}
use Rattle.std.specs.List.Sorted.{IsBinarySearchResult}
use Rattle.std.specs.Ordering.{nat_cmp}
use Rattle.directory_index.specs.Rising.{is_in, IsRising}
use Rattle.directory_index.proofs.Gaps.{found-at, left-out, removed-has, removed-rises}
use Rattle.directory_index.proofs.rising.remove.Goals as goal

pub returns-in-Ok-clause-rising : goal.returns-in-Ok-clause-rising
returns-in-Ok-clause-rising c =
    let xs = c.args.numbers.now.items in
    let at = found-at xs c.requires.rising c.args.number c.in-Ok.index c.binary_search.result c.in-Ok.is
    (subst (λ ys. IsBinarySearchResult (λ y. nat_cmp y c.args.number) ys c.binary_search.result) c.as_slice.ensures c.binary_search.ensures.position) in
    subst IsRising (sym c.remove.ensures.items) (removed-rises xs c.requires.rising c.args.number c.in-Ok.index at.0 at.1)

pub returns-in-Ok-clause-removed : goal.returns-in-Ok-clause-removed
returns-in-Ok-clause-removed c n =
    let xs = c.args.numbers.now.items in
    let at = found-at xs c.requires.rising c.args.number c.in-Ok.index c.binary_search.result c.in-Ok.is
    (subst (λ ys. IsBinarySearchResult (λ y. nat_cmp y c.args.number) ys c.binary_search.result) c.as_slice.ensures c.binary_search.ensures.position) in
    ap (is_in n) c.remove.ensures.items ∙ removed-has xs c.requires.rising c.args.number c.in-Ok.index at.0 at.1 n

pub returns-in_default-clause-removed : goal.returns-in_default-clause-removed
returns-in_default-clause-removed c =
    left-out c.args.numbers.now.items c.requires.rising c.args.number c.in_default.field-0 c.binary_search.result c.in_default.is
    (subst (λ ys. IsBinarySearchResult (λ y. nat_cmp y c.args.number) ys c.binary_search.result) c.as_slice.ensures c.binary_search.ensures.position)
