-- A map as the entries by which it is kept, in the order of their keys.
use Rattle.std.proofs.Common.{◌≡◌, T, List, [], ◌∷◌, sym, subst, ◌∙◌}
use Rattle.std.proofs.Math.Facts.{yes_and}
use Rattle.std.proofs.lemmas.Map.Keys.{sorted_head, sorted_tail}
use Rattle.std.specs.Cmp.{IsTotalOrder}
use Rattle.std.specs.FinMap.{IsAntisymmetric, entries, entries_sorted, from_entries, get-entries, get-from_entries, is_sorted}
use Rattle.std.specs.FinMap.Entries.{below_all, same_entries}
use Rattle.std.specs.List.{AllByRecursion}
use Rattle.std.specs.List.Sorted.{IsStrictlySortedBy}
use Rattle.std.specs.Map.{keys_of}
use Rattle.std.specs.Ordering.{is_lt}
use Rattle.std.specs.declared.cmp.Ordering.{Ordering}
use Rattle.std.specs.declared.cmp.Ordering.TheVariants.{Less}

-- a list that rises is the entries of its map
pub entries-rising : {K X : Type 0} {R : K → K → Ordering} (o : IsTotalOrder R) → IsAntisymmetric R → (es : List (K × X)) → T (is_sorted R es) → entries (from_entries {R = R} es) ≡ es
entries-rising {R = R} o same es h =
    let m = from_entries {R = R} es in
    same_entries R o same (entries m) es (entries_sorted m) h (λ q. sym (get-entries m q) ∙ get-from_entries o es q)

is_less : (o : Ordering) → o ≡ Less → T (is_lt o)
is_less o e = subst (λ r. T (is_lt r)) (sym e) tt

module _ {K X : Type 0} (R : K → K → Ordering) (o : IsTotalOrder R) where
  above : (k : K) (es : List (K × X)) → AllByRecursion (λ y. R k y ≡ Less) (keys_of es) → T (below_all R k es)
  above k [] h = tt
  above k (e ∷ es) h = yes_and _ _ (is_less _ h.0) (above k es h.1)

  rise : (es : List (K × X)) → IsStrictlySortedBy R (keys_of es) → T (is_sorted R es)
  rise [] h = tt
  rise (e ∷ es) h = yes_and _ _ (above e.0 es (sorted_head R e.0 (keys_of es) h)) (rise es (sorted_tail R e.0 (keys_of es) h))

  module _ (same : IsAntisymmetric R) where
    -- entries in order are those of their map
    pub entries-ordered : (es : List (K × X)) → IsStrictlySortedBy R (keys_of es) → entries (from_entries {R = R} es) ≡ es
    entries-ordered es h = entries-rising o same es (rise es h)
