-- Lines with one more at their end.
use Rattle.std.proofs.Common.{◌≡◌, ℕ, zero, suc, ◌≤◌, ◌<◌, List, [], ◌∷◌, ◌++◌, length, Some, None, refl, sym, ap, ◌∙◌, ◌⊎◌, inl, inr, arith}
use Rattle.std.proofs.lemmas.List.{length_push}
use Rattle.std.proofs.lemmas.Option.{slice_get_within}
use Rattle.std.specs.List.{slice_get}
use Rattle.std.specs.FinMap.{get}
use Rattle.eden_base.specs.Limits.{greatest_size}
use Rattle.eden_base.specs.Name.{IsNameText}
use Rattle.eden_base.specs.declared.number.FileId.{FileId}
use Rattle.manifest.specs.Manifest.{Line, IsDirBefore, AreLines, most_files}
use Rattle.manifest.specs.Tree.{links_from}
use Rattle.manifest.proofs.ManifestTree.{AreApart, link_of_line}

pub apart : (lines : List Line) → AreLines lines → AreApart lines
apart lines h = record { apart = λ i j a b lt at_i at_j. (h.each i a at_i).place_is_new j b lt at_j }

-- what stands in the longer list
pub slice_get-push : (lines : List Line) (l : Line) (i : ℕ) (x : Line) → slice_get (lines ++ l ∷ []) i ≡ Some x → (slice_get lines i ≡ Some x) ⊎ ((i ≡ length lines) × (l ≡ x))
slice_get-push [] l zero x h = inr (refl, cc)
slice_get-push [] l (suc i) x h = absurd (cc)
slice_get-push (y ∷ ys) l zero x h = inl h
slice_get-push (y ∷ ys) l (suc i) x h = elim (slice_get-push ys l i x h) [ inl e ↦ inl e | inr w ↦ inr (omega (arith, w.0), w.1) ]

slice_get-front : (lines : List Line) (l : Line) (i : ℕ) (x : Line) → slice_get lines i ≡ Some x → slice_get (lines ++ l ∷ []) i ≡ Some x
slice_get-front [] l i x h = absurd (cc)
slice_get-front (y ∷ ys) l zero x h = h
slice_get-front (y ∷ ys) l (suc i) x h = slice_get-front ys l i x h

dir_before-front : (lines : List Line) (l : Line) (i : ℕ) (dir : FileId) → IsDirBefore lines i dir → IsDirBefore (lines ++ l ∷ []) i dir
dir_before-front lines l i dir (inl e) = inl e
dir_before-front lines l i dir (inr w) = inr (w.0, w.1, w.2, w.3, slice_get-front lines l w.0 w.1 w.4, w.5)

-- a line at a new place, in a directory that is there
pub AreLines-push : (lines : List Line) (l : Line) → AreLines lines → length lines < most_files → l.file.size ≤ greatest_size → IsNameText l.name → IsDirBefore lines (length lines) l.dir → get (links_from 2 lines) (l.dir.0, l.name) ≡ None → AreLines (lines ++ l ∷ [])
AreLines-push lines l are few size name dir new = record {
  few = let e = length_push lines l in omega arith;
  each = λ i x here. elim (slice_get-push lines l i x here) [
    | inl at ↦ let old = are.each i x at in record {
      name = old.name;
      size = old.size;
      dir_before = dir_before-front lines l i x.dir old.dir_before;
      place_is_new = λ j other lt there. elim (slice_get-push lines l j other there) [
        | inl before ↦ old.place_is_new j other lt before
        | inr w ↦ absurd (let b = slice_get_within lines i x at in omega (arith, w.0))
      ];
    }
    | inr last ↦ let e : x ≡ l = sym last.1 in record {
      name = rw e name;
      size = rw e size;
      dir_before = rw (e, last.0) (dir_before-front lines l (length lines) l.dir dir);
      place_is_new = λ j other lt there same_dir same_name. elim (slice_get-push lines l j other there) [
        | inl before ↦
            let found = link_of_line lines 2 j other (apart lines are) before in
            let d = ap (λ (y : Line). y.dir.0) e in
            let n = ap (λ (y : Line). y.name) e in
            let sd = ap (λ (f : FileId). f.0) same_dir in
            let k : ◌≡◌ {A = ℕ × List ℕ} (other.dir.0, other.name) (l.dir.0, l.name) = λ t. ((sd ∙ d) t, (same_name ∙ n) t) in
            absurd (let g = ap (get (links_from 2 lines)) k in cc (found, new, g))
        | inr w ↦ absurd (omega (arith, w.0, last.0))
      ];
    }
  ];
}
