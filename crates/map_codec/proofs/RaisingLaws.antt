-- What was found of entries, one rule after the other, is what stands against them.
use Rattle.std.proofs.Common.{◌≡◌, ◌&&◌, ℕ, suc, zero, Bool, true, false, List, [], ◌∷◌, length, slice_get, Some, refl, sym, ap, ◌∙◌, arith}
use Rattle.std.proofs.lemmas.Bool.{and_parts}
use Rattle.std.specs.List.{AllByRecursion, list_all}
use Rattle.eden_base.specs.declared.number.FileId.{FileId}
use Rattle.manifest.specs.Tree.{Tree}
use Rattle.entry_table.proofs.FileLemmas.{IsFileOf-same}
use Rattle.entry_table.specs.Entries.{AreFilesOf, IsFileOf}
use Rattle.entry_table.specs.declared.kept.Kept.{Kept}
use Rattle.map_codec.specs.Named.{EachNames}
use Rattle.map_codec.specs.Raising.{AreOfOneFile, HasFile, HaveFiles, IsTwice, are_right_marks, is_right_mark}

-- what holds of each entry, and a mark that is right
both_of_each : (tree : Tree) (all es : List Kept) → AllByRecursion (λ (kept : Kept). (file : FileId) × IsFileOf tree all kept.number.0 file) es → list_all (λ (kept : Kept). is_right_mark tree kept.place) es ≡ true → AllByRecursion (HasFile tree all) es
both_of_each tree all [] names marks = tt
both_of_each tree all (x ∷ es) names marks =
    let p = and_parts (is_right_mark tree x.place) (list_all (λ (kept : Kept). is_right_mark tree kept.place) es) marks in
    ((names.0, p.0), both_of_each tree all es names.1 p.1)

pub each_has_file : (tree : Tree) (es : List Kept) → EachNames tree es → are_right_marks tree es ≡ true → HaveFiles tree es
each_has_file tree es names marks = both_of_each tree es es names marks

names_of_each : (tree : Tree) (all es : List Kept) → AllByRecursion (HasFile tree all) es → AllByRecursion (λ (kept : Kept). (file : FileId) × IsFileOf tree all kept.number.0 file) es
names_of_each tree all [] have = tt
names_of_each tree all (x ∷ es) have = (have.0.0, names_of_each tree all es have.1)

-- if one entry names no file, then not each entry has one
pub one_names_none : (tree : Tree) (es : List Kept) → (EachNames tree es → ⊥) → HaveFiles tree es → ⊥
one_names_none tree es none have = none (names_of_each tree es es have)

marks_of_each : (tree : Tree) (all es : List Kept) → AllByRecursion (HasFile tree all) es → list_all (λ (kept : Kept). is_right_mark tree kept.place) es ≡ true
marks_of_each tree all [] have = refl
marks_of_each tree all (x ∷ es) have =
    ap (λ (b : Bool). b && list_all (λ (kept : Kept). is_right_mark tree kept.place) es) have.0.1 ∙ marks_of_each tree all es have.1

-- if one mark is wrong, then not each entry has a file
pub one_mark_wrong : (tree : Tree) (es : List Kept) → are_right_marks tree es ≡ false → HaveFiles tree es → ⊥
one_mark_wrong tree es wrong have = let right = marks_of_each tree es es have in let c : true ≡ false = sym right ∙ wrong in absurd (cc)

-- a list that is as long has a member at each place
there_too : {X Y : Type 0} (xs : List X) (ys : List Y) (i : ℕ) (x : X) → length ys ≡ length xs → slice_get xs i ≡ Some x → (y : Y) × (slice_get ys i ≡ Some y)
there_too [] ys i x len h = absurd (cc)
there_too (x ∷ xs) [] i z len h = absurd (omega (arith, len))
there_too (x ∷ xs) (y ∷ ys) zero z len h = (y, refl)
there_too (x ∷ xs) (y ∷ ys) (suc i) z len h = there_too xs ys i z (omega (arith, len)) h

-- files that were found tell that each entry names one
names_from : (tree : Tree) (all es : List Kept) (files : List FileId) → length files ≡ length es →
    ((i : ℕ) (kept : Kept) (file : FileId) → slice_get es i ≡ Some kept → slice_get files i ≡ Some file → IsFileOf tree all kept.number.0 file) →
    AllByRecursion (λ (kept : Kept). (file : FileId) × IsFileOf tree all kept.number.0 file) es
names_from tree all [] files len each = tt
names_from tree all (x ∷ es) [] len each = absurd (omega (arith, len))
names_from tree all (x ∷ es) (f ∷ files) len each =
    ((f, each 0 x f refl refl), names_from tree all es files (omega (arith, len)) (λ i. each (suc i)))

module _ (tree : Tree) (es : List Kept) (files : List FileId) (are : AreFilesOf tree es files) where
  pub found_names : EachNames tree es
  found_names = names_from tree es es files are.len are.each

  -- the file at the place of an entry is the one that it names
  file_there : (i : ℕ) (kept : Kept) (file : FileId) → slice_get es i ≡ Some kept → IsFileOf tree es kept.number.0 file → slice_get files i ≡ Some file
  file_there i kept file h named =
      let r = there_too es files i kept are.len h in
      r.1 ∙ ap (λ (f : FileId). Some f) (IsFileOf-same tree es kept.number.0 r.0 file (are.each i kept r.0 h r.1) named)

  -- files of which none stands twice are of one entry each
  pub files_apart : (IsTwice files → ⊥) → AreOfOneFile tree es → ⊥
  files_apart apart two = apart (record {
    one = two.one;
    other = two.other;
    file = two.file;
    before = two.before;
    one_stands = file_there two.one two.one_kept two.file two.one_stands two.one_names;
    other_stands = file_there two.other two.other_kept two.file two.other_stands two.other_names;
  })

  -- a file that stands twice is of two entries
  pub files_alike : IsTwice files → AreOfOneFile tree es
  files_alike twice =
      let a = there_too files es twice.one twice.file (sym are.len) twice.one_stands in
      let b = there_too files es twice.other twice.file (sym are.len) twice.other_stands in
      record {
        one = twice.one;
        other = twice.other;
        one_kept = a.0;
        other_kept = b.0;
        file = twice.file;
        before = twice.before;
        one_stands = a.1;
        other_stands = b.1;
        one_names = are.each twice.one a.0 twice.file a.1 twice.one_stands;
        other_names = are.each twice.other b.0 twice.file b.1 twice.other_stands;
      }
