-- Nothing stands against the entries of a daemon whose numbers and tree fit together.
use Rattle.std.proofs.Common.{◌≡◌, ◌<◌, ◌≤◌, ◌⊎◌, ◌&&◌, ◌||◌, ◌==◌, ℕ, suc, zero, Bool, true, false, List, [], ◌∷◌, length, slice_get, Option, Some, None, IsSome, is_some, refl, sym, ap, subst, ◌∙◌, inl, inr, arith}
use Rattle.std.proofs.lemmas.Bool.Decides.{nat_tests}
use Rattle.std.proofs.lemmas.Option.{get_or_from_slice_get}
use Rattle.std.specs.List.{AllByRecursion, list_all}
use Rattle.std.specs.Option.{option_map}
use Rattle.std.specs.Prelude.{nat_le, nat_lt}
use Rattle.eden_base.proofs.MemberLemmas.{some-IsSome}
use Rattle.eden_base.proofs.NumberTests.{eq-true}
use Rattle.eden_base.specs.Limits.{end_of_numbers}
use Rattle.eden_base.specs.declared.number.FileId.{FileId}
use Rattle.eden_base.specs.declared.place.Place.{Place}
use Rattle.eden_base.specs.declared.place.Place.TheVariants.{Linked, Unlinked}
use Rattle.manifest.specs.Manifest.{File}
use Rattle.manifest.specs.Tree.{Tree, file_of, kind_of}
use Rattle.checkout.specs.ChangedTree.{is_unlinked}
use Rattle.entry_table.proofs.EntryLemmas.{entry_of-number, numbers-bound, numbers-entry, numbers-rise}
use Rattle.entry_table.proofs.FileLemmas.{linked-child, marked-same, named-known}
use Rattle.entry_table.specs.Entries.{IsFileOf, entry_of, is_kept, is_known}
use Rattle.entry_table.specs.declared.kept.Kept.{Kept}
use Rattle.fuse_ops.proofs.FromEntries.{all-entries}
use Rattle.fuse_ops.specs.Served.{ServedState}
use Rattle.fuse_ops.specs.Soundness.{IsSound, IsUnlinkedPlace}
use Rattle.map_codec.specs.Raising.{AreOfOneFile, AreRaisable, HasFile, are_below, has_parent, is_right_mark}

-- a test holds of all where it holds of each
pub all_pass : (p : Kept → Bool) (es : List Kept) → AllByRecursion (λ (kept : Kept). p kept ≡ true) es → list_all p es ≡ true
all_pass p [] each = refl
all_pass p (x ∷ es) each = ap (λ (b : Bool). b && list_all p es) each.0 ∙ all_pass p es each.1

member : (P : Kept → Type 0) (es : List Kept) (i : ℕ) (kept : Kept) → AllByRecursion P es → slice_get es i ≡ Some kept → P kept
member P [] i kept each h = absurd (cc)
member P (x ∷ es) zero kept each h = let same : x ≡ kept = cc in subst P same each.0
member P (x ∷ es) (suc i) kept each h = member P es i kept each.1 h

at_place : (es : List Kept) (i : ℕ) (kept : Kept) → slice_get es i ≡ Some kept → i < length es
at_place [] i kept h = absurd (cc)
at_place (x ∷ es) zero kept h = omega arith
at_place (x ∷ es) (suc i) kept h = let r = at_place es i kept h in omega (arith, r)

module _ (served : ServedState) (sound : IsSound served) where
  abbrev es : List Kept
  es = served.map.entries

  abbrev tree : Tree
  tree = served.tree

  no_root : (n : ℕ) (kept : Kept) → entry_of es n ≡ Some kept → n ≡ 1 → ⊥
  no_root n kept e one = let r = (numbers-entry es 2 served.map.next n kept sound.numbers e).0 in omega (arith, r, one)

  named : (n : ℕ) (kept : Kept) → entry_of es n ≡ Some kept → (file : FileId) × IsFileOf tree es n file × IsSome (file_of tree file)
  named n kept e = sound.names_a_file n (some-IsSome (entry_of es n) kept e)

  known : (n : ℕ) → (n ≡ 1) ⊎ ((kept : Kept) × (entry_of es n ≡ Some kept)) → is_known es n ≡ true
  known n (inl one) = ap (λ (b : Bool). b || is_kept es n) (eq-true n 1 one)
  known n (inr there) =
      let kept : is_kept es n ≡ true = ap is_some there.1 in
      elim (n == 1) as (λ (b : Bool). (b || is_kept es n) ≡ true) [ true ↦ refl | false ↦ kept ]

  parent : (n : ℕ) (kept : Kept) → entry_of es n ≡ Some kept → has_parent es kept.place ≡ true
  parent n kept e = in_ kept.place refl where
    in_ : (place : Place) → kept.place ≡ place → has_parent es place ≡ true
    in_ (Unlinked mark) k = refl
    in_ (Linked dir name) k =
        let file = named n kept e in
        let above = linked-child tree es n kept dir name file.0 (no_root n kept e) e k file.1 in
        known dir.0 (named-known tree es dir.0 above.dir_file above.at)

  has_kind : (o : Option File) → IsSome o → is_some (option_map (λ (f : File). f.kind) o) ≡ true
  has_kind None some = absurd (cc)
  has_kind (Some f) some = refl

  mark : (n : ℕ) (kept : Kept) → entry_of es n ≡ Some kept → is_right_mark tree kept.place ≡ true
  mark n kept e = in_ kept.place refl where
    in_ : (place : Place) → kept.place ≡ place → is_right_mark tree place ≡ true
    in_ (Linked dir name) k = refl
    in_ (Unlinked marked) k =
        let file = named n kept e in
        let same : file.0 ≡ marked = marked-same tree es n kept file.0 marked (no_root n kept e) e k file.1 in
        let gone : is_unlinked tree file.0 ≡ true = (sound.unlinked_alike n kept file.0 e file.1).0 (subst IsUnlinkedPlace (sym k) tt) in
        subst (λ (f : FileId). (is_some (kind_of tree f) && is_unlinked tree f) ≡ true) same
        (ap (λ (b : Bool). b && is_unlinked tree file.0) (has_kind (file_of tree file.0) file.2) ∙ gone)

  file : (n : ℕ) (kept : Kept) → entry_of es n ≡ Some kept → HasFile tree es kept
  file n kept e =
      let f = named n kept e in
      ((f.0, subst (λ (k : ℕ). IsFileOf tree es k f.0) (sym (entry_of-number es n kept e)) f.1), mark n kept e)

  -- each entry is the one of its number
  of_number : AllByRecursion (λ (kept : Kept). entry_of es kept.number.0 ≡ Some kept) es
  of_number = all-entries (λ (kept : Kept). entry_of es kept.number.0 ≡ Some kept) 2 served.map.next [] es sound.numbers (λ n kept e.
      subst (λ (k : ℕ). entry_of es k ≡ Some kept) (sym (entry_of-number es n kept e)) e)

  apart : AreOfOneFile tree es → ⊥
  apart two =
      let a = member (λ (kept : Kept). entry_of es kept.number.0 ≡ Some kept) es two.one two.one_kept of_number two.one_stands in
      let b = member (λ (kept : Kept). entry_of es kept.number.0 ≡ Some kept) es two.other two.other_kept of_number two.other_stands in
      let same = sound.files_are_apart two.one_kept.number.0 two.other_kept.number.0 two.file (some-IsSome _ two.one_kept a) (some-IsSome _ two.other_kept b) two.one_names two.other_names in
      let rise = numbers-rise es 2 served.map.next sound.numbers two.one two.other two.one_kept two.before (at_place es two.other two.other_kept two.other_stands) in
      let at_one = ap (λ (k : Kept). k.number.0) (get_or_from_slice_get es two.one two.one_kept two.one_kept two.one_stands) in
      let at_other = ap (λ (k : Kept). k.number.0) (get_or_from_slice_get es two.other two.other_kept two.one_kept two.other_stands) in
      omega (arith, same, rise, at_one, at_other)

  below : are_below served.map.next es ≡ true
  below = all_pass (λ (kept : Kept). nat_lt kept.number.0 served.map.next) es (all-entries (λ (kept : Kept). nat_lt kept.number.0 served.map.next ≡ true) 2 served.map.next [] es sound.numbers (λ n kept e.
      let under : n < served.map.next = (numbers-entry es 2 served.map.next n kept sound.numbers e).1 in
      let same : kept.number.0 ≡ n = entry_of-number es n kept e in
      grind (arith, nat_tests)))

  pub sound_raises : AreRaisable tree es served.map.next
  sound_raises = record {
    parents = all_pass (λ (kept : Kept). has_parent es kept.place) es (all-entries (λ (kept : Kept). has_parent es kept.place ≡ true) 2 served.map.next [] es sound.numbers parent);
    files = all-entries (HasFile tree es) 2 served.map.next [] es sound.numbers file;
    apart = apart;
    next_is =
        (let low : 2 ≤ served.map.next = numbers-bound es 2 served.map.next sound.numbers in
        let high : served.map.next ≤ end_of_numbers = sound.numbers_fit in
        let two : nat_le 2 served.map.next ≡ true = grind (arith, nat_tests) in
        let fits : nat_le served.map.next end_of_numbers ≡ true = grind (arith, nat_tests) in
        ap (λ (b : Bool). b && nat_le served.map.next end_of_numbers && are_below served.map.next es) two
        ∙ ap (λ (b : Bool). b && are_below served.map.next es) fits ∙ below);
  }
