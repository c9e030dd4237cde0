-- A list of which each member is changed in turn.
use Rattle.std.proofs.Common.{◌≡◌, ℕ, suc, zero, ◌+◌, ◌<◌, List, [], ◌∷◌, ◌++◌, length, map, take, drop, slice_set, slice_index_or, sym, ap, ◌∙◌, add-one, arith}

changed_next : {A : Type 0} (f : A → A) (old : List A) (i : ℕ) (w : A) → i < length old → slice_index_or (map f (take i old) ++ drop i old) i w ≡ w → slice_set (map f (take i old) ++ drop i old) i (f w) ≡ map f (take (suc i) old) ++ drop (suc i) old
changed_next f [] i w within is = absurd (omega (arith, within))
changed_next f (x ∷ old) zero w within is = ap (λ y. f y ∷ old) (sym is)
changed_next f (x ∷ old) (suc i) w within is = ap (λ l. f x ∷ l) (changed_next f old i w (omega (arith, within)) is)

-- the members before a place are changed, and so is the one there
pub changed_more : {A : Type 0} (f : A → A) (old xs : List A) (i : ℕ) (w y : A) → xs ≡ map f (take i old) ++ drop i old → i < length old → w ≡ slice_index_or xs i w → y ≡ f w → slice_set xs i y ≡ map f (take (i + 1) old) ++ drop (i + 1) old
changed_more f old xs i w y front within is new =
    let here = sym (is ∙ ap (λ l. slice_index_or l i w) front) in
    ap (λ l. slice_set l i y) front
    ∙ ap (λ v. slice_set (map f (take i old) ++ drop i old) i v) new
    ∙ changed_next f old i w within here
    ∙ ap (λ n. map f (take n old) ++ drop n old) (sym (add-one i))
