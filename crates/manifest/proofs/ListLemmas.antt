-- Lists that are gone through from the front, and the entries of an index by number.
use Rattle.std.proofs.Common.{◌≡◌, ℕ, List, [], ◌∷◌, ◌++◌, ap, ◌∙◌}
use Rattle.std.proofs.lemmas.List.{append_assoc}
use Rattle.std.specs.Ordering.{nat_cmp}
use Rattle.std.specs.Cmp.{nat_cmp_total}
use Rattle.std.specs.FinMap.{entries, from_entries, nat_cmp-IsAntisymmetric}
use Rattle.std.specs.List.Sorted.{IsStrictlySortedBy}
use Rattle.std.specs.Map.{keys_of}
use Rattle.manifest.proofs.OrderedMaps.{entries-ordered}

-- one that is listed is no longer left
pub listed_one_more : {X : Type 0} (old new rest all : List X) (x : X) → old ++ x ∷ rest ≡ all → new ≡ old ++ x ∷ [] → new ++ rest ≡ all
listed_one_more old new rest all x so_far pushed = ap (λ xs. xs ++ rest) pushed ∙ append_assoc old (x ∷ []) rest ∙ so_far

-- so for several at once
pub listed_more : {X : Type 0} (old new these rest all : List X) → old ++ (these ++ rest) ≡ all → new ≡ old ++ these → new ++ rest ≡ all
listed_more old new these rest all so_far written = ap (λ xs. xs ++ rest) written ∙ append_assoc old these rest ∙ so_far

-- entries by rising number are those of their map
pub entries-by_number : {X : Type 0} (es : List (ℕ × X)) → IsStrictlySortedBy nat_cmp (keys_of es) → entries (from_entries {R = nat_cmp} es) ≡ es
entries-by_number es h = entries-ordered nat_cmp nat_cmp_total nat_cmp-IsAntisymmetric es h
