-- The entries after a number took a name from another, and which one may be of no use then.
use Rattle.std.proofs.Common.{◌≡◌, ℕ, Bool, true, false, ◌||◌, List, [], ◌∷◌, Option, Some, None, cond, refl, sym, ap, ◌∙◌, subst, inl, inr, ◌⊎◌}
use Rattle.std.proofs.Math.Bool.{or-true}
use Rattle.std.specs.Prelude.{nat_lt}
use Rattle.std.specs.List.{list_any}
use Rattle.std.specs.Option.{option_map}
use Rattle.eden_base.proofs.MemberLemmas.{some-same, first-passes, any-first}
use Rattle.eden_base.proofs.NumberTests.{eq-true, eq-false, eq-or}
use Rattle.eden_base.specs.declared.number.FileId.{FileId}
use Rattle.eden_base.specs.declared.number.Number.{Number}
use Rattle.eden_base.specs.declared.place.Place.TheVariants.{Linked}
use Rattle.eden_base.specs.First.{first_where, changed_where}
use Rattle.entry_table.specs.EntryPlaces.{AreOfUseBut}
use Rattle.entry_table.specs.Entries.{has_number, stands_at, entry_of, entry_at, is_in, is_kid_of, is_of_use, marked, moved_to, number_of_kept, AreNumbers, AreApart, IsLinked}
use Rattle.entry_table.specs.Table.{AreOfKept}
use Rattle.entry_table.specs.declared.kept.Kept.{Kept}
use Rattle.entry_table.proofs.EntryLemmas.{entry_of-first, entry_of-number, changed-first, changed-same, changed-other, numbers-changed}
use Rattle.entry_table.proofs.FileLemmas.{linked-marked}
use Rattle.entry_table.proofs.Places.{stands-place}
use Rattle.inode_map.specs.InodeMap.{displaced, moved, MayGiveWay}
use Rattle.inode_map.proofs.Keeping.{of-changed}
use Rattle.inode_map.proofs.Pruning.{any-changed_other, marked-others}

-- where none stands, none is changed
changed-nowhere : (es : List Kept) (p : Kept → Bool) (change : Kept → Kept) → first_where p es ≡ None → changed_where p change es ≡ es
changed-nowhere [] p change h = refl
changed-nowhere (x ∷ es) p change h = in_ (p x) h (changed-nowhere es p change) where
  in_ : (b : Bool) → cond b (Some x) (first_where p es) ≡ None → (first_where p es ≡ None → changed_where p change es ≡ es) → cond b (change x ∷ es) (x ∷ changed_where p change es) ≡ x ∷ es
  in_ true e rest = absurd (let none : ⊥ = cc in none)
  in_ false e rest = ap (λ (xs : List Kept). x ∷ xs) (rest e)

-- the entry that lost its name to another file
pub record Loser (es : List Kept) (parent : ℕ) (name : List ℕ) (file : FileId) : Type 0 where
  pub kept : Kept
  pub at : entry_at es parent name ≡ Some kept
  pub marks : displaced es parent name (Some file) ≡ changed_where (has_number kept.number.0) (marked file) es

pub displaced-none : (es : List Kept) (parent : ℕ) (name : List ℕ) (file : Option FileId) → entry_at es parent name ≡ None → displaced es parent name file ≡ es
displaced-none es parent name None e = refl
displaced-none es parent name (Some file) e = changed-nowhere es (stands_at parent name) (marked file) e

pub displaced-some : (es : List Kept) (low next parent : ℕ) (name : List ℕ) (file : FileId) (kept : Kept) → AreNumbers low next es → entry_at es parent name ≡ Some kept → displaced es parent name (Some file) ≡ changed_where (has_number kept.number.0) (marked file) es
displaced-some es low next parent name file kept are e = changed-first es low next (stands_at parent name) (marked file) kept are e

-- None or one entry lost its name.
pub displaced-cases : (es : List Kept) (low next parent : ℕ) (name : List ℕ) (file : Option FileId) → AreNumbers low next es → (displaced es parent name file ≡ es) ⊎ ((f : FileId) × (file ≡ Some f) × Loser es parent name f)
displaced-cases es low next parent name None are = inl refl
displaced-cases es low next parent name (Some file) are = in_ (entry_at es parent name) refl where
  in_ : (o : Option Kept) → entry_at es parent name ≡ o → (displaced es parent name (Some file) ≡ es) ⊎ ((f : FileId) × (Some file ≡ Some f) × Loser es parent name f)
  in_ None e = inl (displaced-none es parent name (Some file) e)
  in_ (Some kept) e = inr (file, refl, record { kept = kept; at = e; marks = displaced-some es low next parent name file kept are e })

-- the numbers are as they were
pub displaced-numbers : (es : List Kept) (low next parent : ℕ) (name : List ℕ) (file : Option FileId) → AreNumbers low next es → AreNumbers low next (displaced es parent name file)
displaced-numbers es low next parent name None are = are
displaced-numbers es low next parent name (Some file) are = numbers-changed es low next (stands_at parent name) (marked file) (λ x. refl) are

pub moved-numbers : (es : List Kept) (low next n : ℕ) (parent : Number) (name : List ℕ) (file : Option FileId) → AreNumbers low next es → AreNumbers low next (moved es n parent name file)
moved-numbers es low next n parent name file are =
    numbers-changed (displaced es parent.0 name file) low next (has_number n) (moved_to parent name) (λ x. refl) (displaced-numbers es low next parent.0 name file are)

-- and what is of entries still is
module _ {X : Type 0} (number : X → ℕ) (es : List Kept) (low next parent : ℕ) (name : List ℕ) (xs : List X) (are : AreNumbers low next es) (all : AreOfKept number es xs) where
  pub of-displaced : (file : Option FileId) → AreOfKept number (displaced es parent name file) xs
  of-displaced file = in_ (displaced-cases es low next parent name file are) where
    in_ : (displaced es parent name file ≡ es) ⊎ ((f : FileId) × (file ≡ Some f) × Loser es parent name f) → AreOfKept number (displaced es parent name file) xs
    in_ (inl same) = subst (λ (left : List Kept). AreOfKept number left xs) (sym same) all
    in_ (inr (f, is, loser)) =
        subst (λ (left : List Kept). AreOfKept number left xs) (sym (ap (displaced es parent name) is ∙ loser.marks))
        (of-changed number es loser.kept.number.0 (marked f) xs (λ x. refl) all)

-- the place is free then
pub displaced-free : (es : List Kept) (low next : ℕ) (parent : Number) (name : List ℕ) (file : FileId) (kept : Kept) → AreNumbers low next es → AreApart es → entry_at es parent.0 name ≡ Some kept →
    entry_at (changed_where (has_number kept.number.0) (marked file) es) parent.0 name ≡ None
displaced-free es low next parent name file kept are apart at = in_ (entry_at left parent.0 name) refl where
  left : List Kept
  left = changed_where (has_number kept.number.0) (marked file) es

  here : entry_of es kept.number.0 ≡ Some kept
  here = entry_of-first es low next (stands_at parent.0 name) kept are at

  gone : (now : Kept) → entry_of left now.number.0 ≡ Some now → now.place ≡ Linked parent name → (now.number.0 ≡ kept.number.0) ⊎ (now.number.0 ≡ kept.number.0 → ⊥) → ⊥
  gone now e place (inl same) =
      let there : entry_of left kept.number.0 ≡ Some (marked file kept) = changed-same es kept.number.0 (marked file) (λ x. refl) ∙ ap (option_map (marked file)) here in
      let is : now ≡ marked file kept = some-same (entry_of left kept.number.0) now (marked file kept) (subst (λ (k : ℕ). entry_of left k ≡ Some now) same e) there in
      linked-marked now.place parent name file place (ap (λ (k : Kept). k.place) is)
  gone now e place (inr other) =
      let was : entry_of es now.number.0 ≡ Some now = sym (changed-other es kept.number.0 now.number.0 (marked file) (λ x. refl) other) ∙ e in
      let is : now ≡ kept = some-same (entry_at es parent.0 name) now kept (apart now.number.0 now parent name was place) at in
      other (ap (λ (k : Kept). k.number.0) is)

  in_ : (o : Option Kept) → entry_at left parent.0 name ≡ o → o ≡ None
  in_ None e = refl
  in_ (Some now) e = absurd (gone now
      (entry_of-first left low next (stands_at parent.0 name) now (numbers-changed es low next (has_number kept.number.0) (marked file) (λ x. refl) are) e)
      (stands-place parent.0 name now (first-passes left (stands_at parent.0 name) now e)) (eq-or now.number.0 kept.number.0))

-- Where the new directory alone may be of no use, the old one alone may be once a number moved.
pub moved-others : (es : List Kept) (n : ℕ) (parent : Number) (name : List ℕ) (kept : Kept) (dir : Number) (left : List ℕ) → entry_of es n ≡ Some kept → kept.place ≡ Linked dir left → AreOfUseBut (Some parent.0) es →
    AreOfUseBut (Some dir.0) (changed_where (has_number n) (moved_to parent name) es)
moved-others es n parent name kept dir left here place useful m now e = dir_in (eq-or m dir.0) where
  new : List Kept
  new = changed_where (has_number n) (moved_to parent name) es

  there : entry_of new n ≡ Some (moved_to parent name kept)
  there = changed-same es n (moved_to parent name) (λ y. refl) ∙ ap (option_map (moved_to parent name)) here

  -- the entry as it was, which is counted as often
  was_in : (m ≡ n) ⊎ (m ≡ n → ⊥) → (x : Kept) × (entry_of es m ≡ Some x) × (now.count ≡ x.count) × (now.number ≡ x.number)
  was_in (inl same) =
      let is : now ≡ moved_to parent name kept = some-same (entry_of new n) now (moved_to parent name kept) (subst (λ (k : ℕ). entry_of new k ≡ Some now) same e) there in
      (kept, subst (λ (k : ℕ). entry_of es k ≡ Some kept) (sym same) here, ap (λ (x : Kept). x.count) is, ap (λ (x : Kept). x.number) is)
  was_in (inr other) = (now, sym (changed-other es n m (moved_to parent name) (λ y. refl) other) ∙ e, refl, refl)

  -- no kid of another directory is the one that moved
  fails : (m ≡ dir.0 → ⊥) → (x : Kept) → first_where (has_number n) es ≡ Some x → is_kid_of m x ≡ false
  fails other x f =
      let is : x ≡ kept = some-same (entry_of es n) x kept f here in
      ap (λ (y : Kept). is_kid_of m y) is ∙ ap (is_in m) place ∙ eq-false dir.0 m (λ s. other (sym s))

  -- the number that moved stands in the new directory
  entered : m ≡ parent.0 → list_any (is_kid_of m) new ≡ true
  entered same = any-first new (has_number n) (is_kid_of m) (moved_to parent name kept) there (eq-true parent.0 m (sym same))

  by_kids : list_any (is_kid_of m) new ≡ true → now.number.0 ≡ m → is_of_use new now ≡ true
  by_kids kids same = ap (λ (k : ℕ). nat_lt 0 now.count || list_any (is_kid_of k) new) same ∙ ap (λ d. nat_lt 0 now.count || d) kids ∙ or-true (nat_lt 0 now.count)

  use_in : (m ≡ dir.0 → ⊥) → (x : Kept) → entry_of es m ≡ Some x → now.count ≡ x.count → now.number.0 ≡ m → (b c : Bool) → nat_lt 0 x.count ≡ b → list_any (is_kid_of x.number.0) es ≡ c → (b || c) ≡ true → is_of_use new now ≡ true
  use_in other x f count same true c t k h = ap (λ (i : ℕ). nat_lt 0 i || list_any (is_kid_of now.number.0) new) count ∙ ap (λ d. d || list_any (is_kid_of now.number.0) new) t
  use_in other x f count same false false t k h = absurd (let none : ⊥ = cc in none)
  use_in other x f count same false true t k h =
      let is : x.number.0 ≡ m = entry_of-number es m x f in
      by_kids (any-changed_other es (has_number n) (is_kid_of m) (moved_to parent name) (fails other) (ap (λ (i : ℕ). list_any (is_kid_of i) es) (sym is) ∙ k)) same

  of_use_in : (m ≡ dir.0 → ⊥) → (x : Kept) → entry_of es m ≡ Some x → now.count ≡ x.count → now.number.0 ≡ m → (is_of_use es x ≡ true) ⊎ (Some parent.0 ≡ Some m) → is_of_use new now ≡ true
  of_use_in other x f count same (inl t) = use_in other x f count same (nat_lt 0 x.count) (list_any (is_kid_of x.number.0) es) refl refl t
  of_use_in other x f count same (inr is) = by_kids (entered (let up : parent.0 ≡ m = cc in sym up)) same

  dir_in : (m ≡ dir.0) ⊎ (m ≡ dir.0 → ⊥) → (is_of_use new now ≡ true) ⊎ (Some dir.0 ≡ Some m)
  dir_in (inl same) = inr (ap Some (sym same))
  dir_in (inr other) =
      let w = was_in (eq-or m n) in
      inl (of_use_in other w.0 w.1 w.2 (ap (λ (k : Number). k.0) w.3 ∙ entry_of-number es m w.0 w.1) (useful m w.0 w.1))

-- after a name was lost to another file, its directory alone may be of no use
pub displaced-others : (es : List Kept) (low next : ℕ) (parent : Number) (name : List ℕ) (file : Option FileId) → AreNumbers low next es → AreOfUseBut None es → AreOfUseBut (Some parent.0) (displaced es parent.0 name file)
displaced-others es low next parent name file are useful = in_ (displaced-cases es low next parent.0 name file are) where
  weaker : AreOfUseBut (Some parent.0) es
  weaker m now e = use_in (useful m now e) where
    use_in : (is_of_use es now ≡ true) ⊎ (None ≡ Some m) → (is_of_use es now ≡ true) ⊎ (Some parent.0 ≡ Some m)
    use_in (inl t) = inl t
    use_in (inr empty) = absurd (let none : ⊥ = cc in none)

  in_ : (displaced es parent.0 name file ≡ es) ⊎ ((f : FileId) × (file ≡ Some f) × Loser es parent.0 name f) → AreOfUseBut (Some parent.0) (displaced es parent.0 name file)
  in_ (inl same) = subst (λ (left : List Kept). AreOfUseBut (Some parent.0) left) (sym same) weaker
  in_ (inr (f, is, loser)) =
      subst (λ (left : List Kept). AreOfUseBut (Some parent.0) left) (sym (ap (displaced es parent.0 name) is ∙ loser.marks))
      (marked-others es loser.kept.number.0 f loser.kept parent name (entry_of-first es low next (stands_at parent.0 name) loser.kept are loser.at)
      (stands-place parent.0 name loser.kept (first-passes es (stands_at parent.0 name) loser.kept loser.at)) useful)

-- a number that gets a name from another is linked still
pub displaced-linked : (es : List Kept) (low next n parent : ℕ) (name : List ℕ) (file : Option FileId) → AreNumbers low next es → MayGiveWay es n file (entry_at es parent name) → IsLinked es n → IsLinked (displaced es parent name file) n
displaced-linked es low next n parent name file are may linked = in_ (displaced-cases es low next parent name file are) where
  in_ : (displaced es parent name file ≡ es) ⊎ ((f : FileId) × (file ≡ Some f) × Loser es parent name f) → IsLinked (displaced es parent name file) n
  in_ (inl same) = subst (λ (left : List Kept). IsLinked left n) (sym same) linked
  in_ (inr (f, is, loser)) =
      let way : MayGiveWay es n (Some f) (Some loser.kept) = subst (λ (o : Option FileId). MayGiveWay es n o (Some loser.kept)) is (subst (λ (o : Option Kept). MayGiveWay es n file o) loser.at may) in
      let still : entry_of (displaced es parent name file) n ≡ Some linked.0 =
      ap (λ (left : List Kept). entry_of left n) (ap (displaced es parent name) is ∙ loser.marks)
      ∙ changed-other es loser.kept.number.0 n (marked f) (λ x. refl) (λ same. way.0 (sym same)) ∙ linked.3 in
      (linked.0, linked.1, linked.2, still, linked.4)

-- nothing was found
pub none-found : (o : Option Kept) → None ≡ option_map number_of_kept o → o ≡ None
none-found None e = refl
none-found (Some kept) e = absurd (let none : ⊥ = cc in none)

-- what a caller finds at the place may give way: no entry, or another in whose directory nothing stands
pub free-way : (es : List Kept) (n : ℕ) (file : Option FileId) (o : Option Kept) → o ≡ None → MayGiveWay es n file o
free-way es n None o none = subst (λ (p : Option Kept). MayGiveWay es n None p) (sym none) tt
free-way es n (Some file) o none = subst (λ (p : Option Kept). MayGiveWay es n (Some file) p) (sym none) tt

pub other-way : (es : List Kept) (n : ℕ) (file : FileId) (other : Number) (o : Option Kept) → Some other ≡ option_map number_of_kept o → (other.0 ≡ n → ⊥) → list_any (is_kid_of other.0) es ≡ false → MayGiveWay es n (Some file) o
other-way es n file other None found apart kids = absurd (let none : ⊥ = cc in none)
other-way es n file other (Some kept) found apart kids =
    let same : kept.number ≡ other = cc in
    let k : kept.number.0 ≡ other.0 = ap (λ (m : Number). m.0) same in
    ((λ e. apart (sym k ∙ e)), ap (λ (m : ℕ). list_any (is_kid_of m) es) k ∙ kids)
