-- Entries that may be raised over a tree fit together with it.
use Rattle.std.proofs.Common.{◌≡◌, ◌<◌, ◌≤◌, ◌+◌, ◌⊎◌, ◌&&◌, ◌↔◌, ℕ, zero, suc, Bool, true, false, cond, List, [], ◌∷◌, slice_get, Option, Some, None, IsSome, IsTrue, refl, sym, ap, subst, ◌∙◌, inl, inr, arith}
use Rattle.std.specs.Option.{option_map}
use Rattle.std.specs.Prelude.{nat_lt, nat_le, ◌==◌, is_some, not}
use Rattle.std.proofs.lemmas.Bool.{and_parts}
use Rattle.std.proofs.lemmas.Bool.Decides.{nat_tests}
use Rattle.std.specs.List.{AllByRecursion, list_all}
use Rattle.eden_base.proofs.MemberLemmas.{some-is, some-same, some-IsSome}
use Rattle.eden_base.specs.Limits.{end_of_numbers}
use Rattle.eden_base.specs.declared.number.FileId.{FileId}
use Rattle.eden_base.specs.declared.place.Place.{Place}
use Rattle.eden_base.specs.declared.place.Place.TheVariants.{Linked, Unlinked}
use Rattle.checkout.proofs.LinkLaws.{linked_from_child}
use Rattle.manifest.specs.Manifest.{File}
use Rattle.manifest.specs.Tree.{Tree, IsTree, child_of, file_of, kind_of}
use Rattle.checkout.specs.ChangedTree.{is_linked, is_unlinked}
use Rattle.entry_table.proofs.EntryLemmas.{entry_of-number, numbers-entry}
use Rattle.entry_table.proofs.EntryRuns.{each-entry}
use Rattle.entry_table.proofs.FileLemmas.{IsFileOf-same, linked-child, marked-same}
use Rattle.entry_table.specs.Entries.{AreNumbers, IsFileOf, entry_of, is_of_use}
use Rattle.entry_table.specs.declared.kept.Kept.{Kept}
use Rattle.fuse_ops.specs.Served.{served_of}
use Rattle.fuse_ops.specs.Soundness.{IsSound, IsUnlinkedPlace}
use Rattle.map_image.specs.Fit.{CountsFit, entry_follows, rises}
use Rattle.map_codec.specs.Raising.{AreRaisable, HasFile, is_next, is_right_mark}

-- ---- numbers

numbers_behind : (next : ℕ) (last : Kept) (es : List Kept) → last.number.0 < next → rises entry_follows (Some last) es ≡ true → list_all (λ (kept : Kept). nat_lt kept.number.0 next) es ≡ true → AreNumbers (last.number.0 + 1) next es
numbers_behind next last [] below r b = omega (arith, below)
numbers_behind next last (x ∷ es) below r b =
    let p = and_parts (nat_lt last.number.0 x.number.0) (rises entry_follows (Some x) es) r in
    let q = and_parts (nat_lt x.number.0 next) (list_all (λ (kept : Kept). nat_lt kept.number.0 next) es) b in
    let follows : nat_lt last.number.0 x.number.0 ≡ true = p.0 in
    let above : last.number.0 < x.number.0 = grind (arith, nat_tests) in
    let under : nat_lt x.number.0 next ≡ true = q.0 in
    let fits : x.number.0 < next = grind (arith, nat_tests) in
    (omega (arith, above), numbers_behind next x es fits p.1 q.1)

-- entries that rise stay below a next number that is above each
pub next_above : (next : ℕ) (es : List Kept) → 2 ≤ next → rises entry_follows None es ≡ true → list_all (λ (kept : Kept). nat_lt kept.number.0 next) es ≡ true → AreNumbers 2 next es
next_above next [] low r b = low
next_above next (x ∷ es) low r b =
    let p = and_parts (nat_lt 1 x.number.0) (rises entry_follows (Some x) es) r in
    let q = and_parts (nat_lt x.number.0 next) (list_all (λ (kept : Kept). nat_lt kept.number.0 next) es) b in
    let first : nat_lt 1 x.number.0 ≡ true = p.0 in
    let above : 1 < x.number.0 = grind (arith, nat_tests) in
    let under : nat_lt x.number.0 next ≡ true = q.0 in
    let fits : x.number.0 < next = grind (arith, nat_tests) in
    (omega (arith, above), numbers_behind next x es fits p.1 q.1)

pub record IsNext (next : ℕ) (es : List Kept) : Type 0 where
  pub low : 2 ≤ next
  pub fits : next ≤ end_of_numbers
  pub above : list_all (λ (kept : Kept). nat_lt kept.number.0 next) es ≡ true

pub next_parts : (next : ℕ) (es : List Kept) → is_next next es ≡ true → IsNext next es
next_parts next es h =
    let above : Bool = list_all (λ (kept : Kept). nat_lt kept.number.0 next) es in
    let p = and_parts (nat_le 2 next && nat_le next end_of_numbers) above h in
    let q = and_parts (nat_le 2 next) (nat_le next end_of_numbers) p.0 in
    let low : nat_le 2 next ≡ true = q.0 in
    let high : nat_le next end_of_numbers ≡ true = q.1 in
    record { low = (grind (arith, nat_tests)); fits = (grind (arith, nat_tests)); above = p.1 }

-- ---- where an entry stands in the list

pub entry_stands : (es : List Kept) (n : ℕ) (kept : Kept) → entry_of es n ≡ Some kept → (i : ℕ) × (slice_get es i ≡ Some kept)
entry_stands [] n kept h = absurd (cc)
entry_stands (x ∷ es) n kept h = in_ (x.number.0 == n) h (entry_stands es n kept) where
  in_ : (b : Bool) → cond b (Some x) (entry_of es n) ≡ Some kept → (entry_of es n ≡ Some kept → (i : ℕ) × (slice_get es i ≡ Some kept)) → (i : ℕ) × (slice_get (x ∷ es) i ≡ Some kept)
  in_ true e rest = (0, e)
  in_ false e rest = let r = rest e in (suc r.0, r.1)

below_or : (i j : ℕ) → (i < j) ⊎ ((j < i) ⊎ (i ≡ j))
below_or zero zero = inr (inr refl)
below_or zero (suc j) = inl (omega arith)
below_or (suc i) zero = inr (inl (omega arith))
below_or (suc i) (suc j) = elim (below_or i j) [
  | inl less ↦ inl (omega (arith, less))
  | inr (inl more) ↦ inr (inl (omega (arith, more)))
  | inr (inr same) ↦ inr (inr (ap suc same))
]

-- ---- the law

module _ (tree : Tree) (es : List Kept) (files : List FileId) (next limit : ℕ) (rise : rises entry_follows None es ≡ true) (of_use : list_all (is_of_use es) es ≡ true) (counts : CountsFit es) (may : AreRaisable tree es next) (is : IsTree tree) where
  next_is : IsNext next es
  next_is = next_parts next es may.next_is

  numbers : AreNumbers 2 next es
  numbers = next_above next es next_is.low rise next_is.above

  no_root : (n : ℕ) (kept : Kept) → entry_of es n ≡ Some kept → n ≡ 1 → ⊥
  no_root n kept e one = let r = (numbers-entry es 2 next n kept numbers e).0 in omega (arith, r, one)

  -- an entry's file, by its number
  has_file : (n : ℕ) (kept : Kept) → entry_of es n ≡ Some kept → ((file : FileId) × IsFileOf tree es n file) × (is_right_mark tree kept.place ≡ true)
  has_file n kept e =
      let h : HasFile tree es kept = each-entry es (HasFile tree es) n kept may.files e in
      ((h.0.0, subst (λ (k : ℕ). IsFileOf tree es k h.0.0) (entry_of-number es n kept e) h.0.1), h.1)

  -- the file in a mark is one of the tree, and no link gives it
  right : (n : ℕ) (kept : Kept) (mark : FileId) → entry_of es n ≡ Some kept → kept.place ≡ Unlinked mark → IsSome (file_of tree mark) × IsTrue (is_unlinked tree mark)
  right n kept mark e k =
      let p = and_parts (is_some (kind_of tree mark)) (is_unlinked tree mark) (ap (is_right_mark tree) (sym k) ∙ (has_file n kept e).1) in
      (there (file_of tree mark) p.0, p.1)
    where
      there : (o : Option File) → is_some (option_map (λ (f : File). f.kind) o) ≡ true → IsSome o
      there None h = absurd (cc)
      there (Some f) h = some-IsSome (Some f) f refl

  -- two entries of one file are one
  one_number : (p q : ℕ) (one other : Kept) (file : FileId) → entry_of es p ≡ Some one → entry_of es q ≡ Some other → IsFileOf tree es p file → IsFileOf tree es q file → p ≡ q
  one_number p q one other file e f at there =
      let i = entry_stands es p one e in
      let j = entry_stands es q other f in
      let named : IsFileOf tree es one.number.0 file = subst (λ (k : ℕ). IsFileOf tree es k file) (sym (entry_of-number es p one e)) at in
      let named_other : IsFileOf tree es other.number.0 file = subst (λ (k : ℕ). IsFileOf tree es k file) (sym (entry_of-number es q other f)) there in
      elim (below_or i.0 j.0) [
        | inl less ↦ absurd (may.apart (record { one = i.0; other = j.0; one_kept = one; other_kept = other; file = file; before = less; one_stands = i.1; other_stands = j.1; one_names = named; other_names = named_other }))
        | inr (inl more) ↦ absurd (may.apart (record { one = j.0; other = i.0; one_kept = other; other_kept = one; file = file; before = more; one_stands = j.1; other_stands = i.1; one_names = named_other; other_names = named }))
        | inr (inr same) ↦
            let alike : one ≡ other = some-same (slice_get es i.0) one other i.1 (ap (slice_get es) same ∙ j.1) in
            sym (entry_of-number es p one e) ∙ (ap (λ (k : Kept). k.number.0) alike ∙ entry_of-number es q other f)
      ]

  -- entries of one place name one file
  same_file : (p q : ℕ) (one other : Kept) (file other_file : FileId) → entry_of es p ≡ Some one → entry_of es q ≡ Some other → one.place ≡ other.place → IsFileOf tree es p file → IsFileOf tree es q other_file → file ≡ other_file
  same_file p q one other file other_file e f place at there = in_ one.place refl where
    in_ : (at_place : Place) → one.place ≡ at_place → file ≡ other_file
    in_ (Unlinked mark) k =
        marked-same tree es p one file mark (no_root p one e) e k at
        ∙ sym (marked-same tree es q other other_file mark (no_root q other f) f (sym place ∙ k) there)
    in_ (Linked dir name) k =
        let a = linked-child tree es p one dir name file (no_root p one e) e k at in
        let b = linked-child tree es q other dir name other_file (no_root q other f) f (sym place ∙ k) there in
        let above : a.dir_file ≡ b.dir_file = IsFileOf-same tree es dir.0 a.dir_file b.dir_file a.at b.at in
        some-same (child_of tree a.dir_file name) file other_file a.child (ap (λ (d : FileId). child_of tree d name) above ∙ b.child)

  -- an entry's file is one of the tree
  of_tree : (n : ℕ) (kept : Kept) (file : FileId) → entry_of es n ≡ Some kept → IsFileOf tree es n file → IsSome (file_of tree file)
  of_tree n kept file e at = in_ kept.place refl where
    in_ : (place : Place) → kept.place ≡ place → IsSome (file_of tree file)
    in_ (Linked dir name) k =
        let a = linked-child tree es n kept dir name file (no_root n kept e) e k at in
        is.links_give_files a.dir_file name file a.child
    in_ (Unlinked mark) k =
        subst (λ (f : FileId). IsSome (file_of tree f)) (sym (marked-same tree es n kept file mark (no_root n kept e) e k at)) (right n kept mark e k).0

  -- an entry has a mark exactly where no link gives its file
  alike : (n : ℕ) (kept : Kept) (file : FileId) → entry_of es n ≡ Some kept → IsFileOf tree es n file → IsUnlinkedPlace kept.place ↔ IsTrue (is_unlinked tree file)
  alike n kept file e at = in_ kept.place refl where
    not_linked : (b : Bool) → is_linked tree file ≡ true → IsTrue (b && not (is_linked tree file)) → ⊥
    not_linked true l h = absurd (let c : IsTrue (not true) = subst (λ (x : Bool). IsTrue (true && not x)) l h in let none : ⊥ = cc in none)
    not_linked false l h = absurd (let none : ⊥ = cc in none)

    in_ : (place : Place) → kept.place ≡ place → IsUnlinkedPlace kept.place ↔ IsTrue (is_unlinked tree file)
    in_ (Linked dir name) k =
        let a = linked-child tree es n kept dir name file (no_root n kept e) e k at in
        let linked = linked_from_child tree a.dir_file name file a.child in
        ((λ u. absurd (subst IsUnlinkedPlace k u)), (λ h. absurd (not_linked (not (file.0 == 1)) linked h)))
    in_ (Unlinked mark) k =
        let same = marked-same tree es n kept file mark (no_root n kept e) e k at in
        ((λ u. subst (λ (f : FileId). IsTrue (is_unlinked tree f)) (sym same) (right n kept mark e k).1), (λ h. subst IsUnlinkedPlace (sym k) tt))

  pub raised_sound : IsSound (served_of es files next limit tree)
  raised_sound = record {
    numbers = numbers;
    numbers_fit = next_is.fits;
    names_a_file = λ n some.
        let kept = some-is (entry_of es n) some in
        let h = (has_file n kept.0 kept.1).0 in
        (h.0, h.1, of_tree n kept.0 h.0 kept.1 h.1);
    places_are_apart = λ p q one other e f place.
        let a = (has_file p one e).0 in
        let b = (has_file q other f).0 in
        let same = same_file p q one other a.0 b.0 e f place a.1 b.1 in
        one_number p q one other a.0 e f a.1 (subst (IsFileOf tree es q) (sym same) b.1);
    files_are_apart = λ p q file some other at there.
        let a = some-is (entry_of es p) some in
        let b = some-is (entry_of es q) other in
        one_number p q a.0 b.0 file a.1 b.1 at there;
    unlinked_alike = alike;
    each_of_use = λ n kept e. each-entry es (λ (k : Kept). IsTrue (is_of_use es k)) n kept (all_true es (is_of_use es) of_use) e;
    counts_fit = λ n kept e. each-entry es (λ (k : Kept). k.count ≤ Rattle.eden_base.specs.Limits.greatest_count) n kept counts e;
  } where
    all_true : (xs : List Kept) (p : Kept → Bool) → list_all p xs ≡ true → AllByRecursion (λ (k : Kept). IsTrue (p k)) xs
    all_true [] p h = tt
    all_true (x ∷ xs) p h = let r = and_parts (p x) (list_all p xs) h in (r.0, all_true xs p r.1)
