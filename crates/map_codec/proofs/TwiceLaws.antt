-- Files of which one stands twice: a sort brings it beside itself.
use Rattle.std.proofs.Common.{◌≡◌, ◌<◌, ◌≤◌, ◌+◌, ◌-◌, ℕ, suc, zero, Bool, true, false, cond, List, [], ◌∷◌, length, slice_get, get_or, Some, refl, sym, ap, ◌∙◌, arith}
use Rattle.std.specs.Prelude.{◌==◌}
use Rattle.std.specs.List.{sum_by, AllAdjacentBelow}
use Rattle.std.specs.List.Sorted.{IsNonDecreasingBy, IsPermutation}
use Rattle.std.proofs.lemmas.List.Sorted.{sum_by-IsPermutation, IsPermutation-sym}
use Rattle.std.proofs.lemmas.List.Sums.{sum_by-cons}
use Rattle.std.proofs.lemmas.Option.{get_or_from_slice_get, slice_get-get_or, slice_get_within}
use Rattle.eden_base.proofs.NumberTests.{eq-true, true-eq}
use Rattle.eden_base.specs.declared.number.FileId.{FileId}
use Rattle.manifest.proofs.ManifestTree.{same_id}
use Rattle.map_codec.specs.Raising.{IsTwice}

-- 1 for this file
abbrev one_for : ℕ → FileId → ℕ
one_for n file = cond (file.0 == n) 1 0

-- how often it stands among these
abbrev times : ℕ → List FileId → ℕ
times n files = sum_by (one_for n) files

stands_once : (files : List FileId) (i : ℕ) (file : FileId) → slice_get files i ≡ Some file → 1 ≤ times file.0 files
stands_once [] i file here = absurd (cc)
stands_once (f ∷ files) zero file here =
    let it : f ≡ file = cc in
    let one : one_for file.0 f ≡ 1 = ap (λ (b : Bool). cond b 1 0) (eq-true f.0 file.0 (ap (λ (g : FileId). g.0) it)) in
    omega (arith, one, sum_by-cons (one_for file.0) f files)
stands_once (f ∷ files) (suc i) file here =
    omega (arith, stands_once files i file here, sum_by-cons (one_for file.0) f files)

stands_twice : (files : List FileId) (i j : ℕ) (file : FileId) → i < j → slice_get files i ≡ Some file → slice_get files j ≡ Some file → 2 ≤ times file.0 files
stands_twice [] i j file lt here there = absurd (cc)
stands_twice (f ∷ files) i zero file lt here there = absurd (omega (arith, lt))
stands_twice (f ∷ files) zero (suc j) file lt here there =
    let it : f ≡ file = cc in
    let one : one_for file.0 f ≡ 1 = ap (λ (b : Bool). cond b 1 0) (eq-true f.0 file.0 (ap (λ (g : FileId). g.0) it)) in
    omega (arith, one, stands_once files j file there, sum_by-cons (one_for file.0) f files)
stands_twice (f ∷ files) (suc i) (suc j) file lt here there =
    omega (arith, stands_twice files i j file (omega (arith, lt)) here there, sum_by-cons (one_for file.0) f files)

-- a file of a number, where it stands
record Stands (n : ℕ) (files : List FileId) : Type 0 where
  pub place : ℕ
  pub file : FileId
  pub here : slice_get files place ≡ Some file
  pub is : file.0 ≡ n

found_once : (n : ℕ) (files : List FileId) → 1 ≤ times n files → Stands n files
found_once n [] le = absurd (omega (arith, le))
found_once n (f ∷ files) le = in_ (f.0 == n) refl (found_once n files) where
  in_ : (b : Bool) → (f.0 == n) ≡ b → (1 ≤ times n files → Stands n files) → Stands n (f ∷ files)
  in_ true e more = record { place = 0; file = f; here = refl; is = true-eq f.0 n e }
  in_ false e more =
      let none : one_for n f ≡ 0 = ap (λ (b : Bool). cond b 1 0) e in
      let r = more (omega (arith, le, none, sum_by-cons (one_for n) f files)) in
      record { place = suc r.place; file = r.file; here = r.here; is = r.is }

found_twice : (n : ℕ) (files : List FileId) → 2 ≤ times n files → IsTwice files
found_twice n [] le = absurd (omega (arith, le))
found_twice n (f ∷ files) le = in_ (f.0 == n) refl (found_twice n files) where
  in_ : (b : Bool) → (f.0 == n) ≡ b → (2 ≤ times n files → IsTwice files) → IsTwice (f ∷ files)
  in_ true e more =
      let one : one_for n f ≡ 1 = ap (λ (b : Bool). cond b 1 0) e in
      let r = found_once n files (omega (arith, le, one, sum_by-cons (one_for n) f files)) in
      let it : r.file ≡ f = same_id r.file f (r.is ∙ sym (true-eq f.0 n e)) in
      record { one = 0; other = suc r.place; file = f; before = omega arith; one_stands = refl; other_stands = r.here ∙ ap (λ (g : FileId). Some g) it }
  in_ false e more =
      let none : one_for n f ≡ 0 = ap (λ (b : Bool). cond b 1 0) e in
      let r = more (omega (arith, le, none, sum_by-cons (one_for n) f files)) in
      let lt = r.before in
      record { one = suc r.one; other = suc r.other; file = r.file; before = omega (arith, lt); one_stands = r.one_stands; other_stands = r.other_stands }

-- a file stands twice in a list, in whatever order the list is
pub twice_in_any_order : (xs ys : List FileId) → IsPermutation xs ys → IsTwice ys → IsTwice xs
twice_in_any_order xs ys moved twice =
    let n = twice.file.0 in
    found_twice n xs (omega (arith, stands_twice ys twice.one twice.other twice.file twice.before twice.one_stands twice.other_stands, sum_by-IsPermutation (one_for n) xs ys moved))

pub twice_back : (xs ys : List FileId) → IsPermutation xs ys → IsTwice xs → IsTwice ys
twice_back xs ys moved = twice_in_any_order ys xs (IsPermutation-sym xs ys moved)

-- two files that are not one
abbrev pub AreNotOne : FileId → FileId → Type 0
AreNotOne f g = f.0 ≡ g.0 → ⊥

-- if files rise and no two neighbours are the same, then no file stands twice
pub none_twice : (files : List FileId) → IsNonDecreasingBy (λ (f : FileId). f.0) files → AllAdjacentBelow AreNotOne files (length files) → IsTwice files → ⊥
none_twice files rise apart twice =
    let i = twice.one in
    let lt = twice.before in
    let end : twice.other < length files = slice_get_within files twice.other twice.file twice.other_stands in
    let file = twice.file in
    let here : get_or files i file ≡ file = get_or_from_slice_get files i file file twice.one_stands in
    let there : get_or files twice.other file ≡ file = get_or_from_slice_get files twice.other file file twice.other_stands in
    let up : (get_or files i file).0 ≤ (get_or files (i + 1) file).0 = rise i (i + 1) file (omega arith) (omega (arith, lt, end)) in
    let on : (get_or files (i + 1) file).0 ≤ (get_or files twice.other file).0 = rise (i + 1) twice.other file (omega (arith, lt)) end in
    let first : (get_or files i file).0 ≡ file.0 = ap (λ (f : FileId). f.0) here in
    let last : (get_or files twice.other file).0 ≡ file.0 = ap (λ (f : FileId). f.0) there in
    apart i file (omega (arith, lt, end)) (omega (arith, up, on, first, last))

-- neighbours that are one file stand twice
pub neighbours_twice : (files : List FileId) (i : ℕ) (f g : FileId) → 1 ≤ i → i < length files → f ≡ get_or files (i - 1) f → g ≡ get_or files i g → f.0 ≡ g.0 → IsTwice files
neighbours_twice files i f g low lt before here same = record {
  one = i - 1;
  other = i;
  file = f;
  before = omega (arith, low);
  one_stands = slice_get-get_or files (i - 1) f (omega (arith, lt)) ∙ ap (λ (h : FileId). Some h) (sym before);
  other_stands = slice_get-get_or files i g lt ∙ ap (λ (h : FileId). Some h) (sym here ∙ same_id g f (sym same));
}
