-- What a daemon knows fits together, but for numbers of no use; and what names a file in it.
use Rattle.std.proofs.Common.{◌≡◌, ℕ, ◌<◌, ◌≤◌, Bool, true, false, ◌&&◌, not, List, Some, None, refl, sym, ap, ◌∙◌, subst, inl, inr, ◌⊎◌, arith}
use Rattle.std.specs.Prelude.{◌==◌, ◌↔◌, IsSome, IsTrue}
use Rattle.eden_base.proofs.MemberLemmas.{some-IsSome, some-same, first-none}
use Rattle.eden_base.proofs.NumberTests.{eq-true}
use Rattle.eden_base.specs.Limits.{greatest_count, end_of_numbers}
use Rattle.eden_base.specs.declared.number.FileId.{FileId}
use Rattle.eden_base.specs.declared.place.Place.TheVariants.{Linked, Unlinked}
use Rattle.checkout.proofs.LinkLaws.{linked_from_child}
use Rattle.manifest.specs.Tree.{Tree, IsTree, child_of, root, file_of as tree_file}
use Rattle.checkout.specs.ChangedTree.{is_unlinked, is_linked}
use Rattle.entry_table.proofs.EntryLemmas.{numbers-entry, entry_of-first}
use Rattle.entry_table.proofs.FileLemmas.{IsFileOf-same, named-known}
use Rattle.entry_table.proofs.Places.{place-stands, stands-place}
use Rattle.entry_table.specs.EntryPlaces.{AreOfUseBut}
use Rattle.entry_table.specs.Entries.{has_number, stands_at, entry_of, entry_at, is_of_use, AreNumbers, IsFileOf, is_root, is_child, is_marked}
use Rattle.entry_table.specs.declared.kept.Kept.{Kept}
use Rattle.fuse_ops.specs.Served.{ServedState}
use Rattle.fuse_ops.specs.Soundness.{IsSound, IsUnlinkedPlace}

-- all of soundness but that each number is of use
pub record Fits (tree : Tree) (next : ℕ) (es : List Kept) : Type 0 where
  pub numbers : AreNumbers 2 next es
  pub numbers_fit : next ≤ end_of_numbers
  pub names_a_file : (n : ℕ) → IsSome (entry_of es n) → (file : FileId) × IsFileOf tree es n file × IsSome (tree_file tree file)
  pub places_are_apart : (m n : ℕ) (one other : Kept) → entry_of es m ≡ Some one → entry_of es n ≡ Some other → one.place ≡ other.place → m ≡ n
  pub files_are_apart : (m n : ℕ) (file : FileId) → IsSome (entry_of es m) → IsSome (entry_of es n) → IsFileOf tree es m file → IsFileOf tree es n file → m ≡ n
  pub unlinked_alike : (n : ℕ) (kept : Kept) (file : FileId) → entry_of es n ≡ Some kept → IsFileOf tree es n file → IsUnlinkedPlace kept.place ↔ IsTrue (is_unlinked tree file)
  pub counts_fit : (n : ℕ) (kept : Kept) → entry_of es n ≡ Some kept → kept.count ≤ greatest_count

-- soundness in these parts, both ways
pub sound-fits : (served : ServedState) → IsSound served → Fits served.tree served.map.next served.map.entries
sound-fits served s = record {
  numbers = s.numbers;
  numbers_fit = s.numbers_fit;
  names_a_file = s.names_a_file;
  places_are_apart = s.places_are_apart;
  files_are_apart = s.files_are_apart;
  unlinked_alike = s.unlinked_alike;
  counts_fit = s.counts_fit;
}

pub sound-of_use : (served : ServedState) → IsSound served → AreOfUseBut None served.map.entries
sound-of_use served s n kept e = inl (s.each_of_use n kept e)

pub fits-sound : (served : ServedState) → Fits served.tree served.map.next served.map.entries → AreOfUseBut None served.map.entries → IsSound served
fits-sound served f useful = record {
  numbers = f.numbers;
  numbers_fit = f.numbers_fit;
  names_a_file = f.names_a_file;
  places_are_apart = f.places_are_apart;
  files_are_apart = f.files_are_apart;
  unlinked_alike = f.unlinked_alike;
  each_of_use = λ n kept e. used n kept (useful n kept e);
  counts_fit = f.counts_fit;
} where
  used : (n : ℕ) (kept : Kept) → (is_of_use served.map.entries kept ≡ true) ⊎ (None ≡ Some n) → IsTrue (is_of_use served.map.entries kept)
  used n kept (inl t) = t
  used n kept (inr h) = absurd (let none : ⊥ = cc in none)

-- no entry is the root's
pub not-one : (es : List Kept) (next n : ℕ) (kept : Kept) → AreNumbers 2 next es → entry_of es n ≡ Some kept → n ≡ 1 → ⊥
not-one es next n kept are e one = let r = numbers-entry es 2 next n kept are e in omega (arith, r.0)

unlinked_is_no_root : (tree : Tree) (file : FileId) → IsTrue (is_unlinked tree file) → file.0 ≡ 1 → ⊥
unlinked_is_no_root tree file h one = let t : (file.0 == 1) ≡ true = eq-true file.0 1 one in let f : (not true && not (is_linked tree file)) ≡ true = subst (λ b. (not b && not (is_linked tree file)) ≡ true) t h in let none : ⊥ = cc in none

pub linked_is_not_unlinked : (tree : Tree) (file : FileId) → is_linked tree file ≡ true → IsTrue (is_unlinked tree file) → ⊥
linked_is_not_unlinked tree file e h = contradicts (not (file.0 == 1)) (subst (λ b. (not (file.0 == 1) && not b) ≡ true) e h) where
  contradicts : (b : Bool) → (b && not true) ≡ true → ⊥
  contradicts true k = let none : ⊥ = cc in none
  contradicts false k = let none : ⊥ = cc in none

marked-unlinked : (tree : Tree) (next : ℕ) (es : List Kept) → Fits tree next es → (n : ℕ) (kept : Kept) (file : FileId) → entry_of es n ≡ Some kept → kept.place ≡ Unlinked file → IsFileOf tree es n file → IsTrue (is_unlinked tree file)
marked-unlinked tree next es fits n kept file e l at = (fits.unlinked_alike n kept file e at).0 (subst IsUnlinkedPlace (sym l) tt)

-- no entry names the root
pub entry-no_root : (tree : Tree) (next : ℕ) (es : List Kept) → IsTree tree → Fits tree next es → (n : ℕ) (file : FileId) → (n ≡ 1 → ⊥) → IsFileOf tree es n file → file.0 ≡ 1 → ⊥
entry-no_root tree next es is fits n file other (is_root _ _ one same) r = other one
entry-no_root tree next es is fits n file other (is_child _ _ kept dir name above not e l up c) r = let low : 1 < file.0 = is.root_has_no_link above name file c in omega arith
entry-no_root tree next es is fits n file other (is_marked _ _ kept not e l) r = unlinked_is_no_root tree file (marked-unlinked tree next es fits n kept file e l (is_marked n file kept not e l)) r

pub root-named : (tree : Tree) (es : List Kept) (n : ℕ) (file : FileId) → n ≡ 1 → IsFileOf tree es n file → file.0 ≡ 1
root-named tree es n file one at = ap (λ (f : FileId). f.0) (IsFileOf-same tree es n file root at (is_root n root one refl))

-- Numbers that name one file are one number.
pub named-apart : (tree : Tree) (next : ℕ) (es : List Kept) → IsTree tree → Fits tree next es → (m n : ℕ) (file : FileId) → IsFileOf tree es m file → IsFileOf tree es n file → m ≡ n
named-apart tree next es is fits m n file a b = in_ (named-known tree es m file a) (named-known tree es n file b) where
  in_ : (m ≡ 1) ⊎ ((k : Kept) × (entry_of es m ≡ Some k)) → (n ≡ 1) ⊎ ((k : Kept) × (entry_of es n ≡ Some k)) → m ≡ n
  in_ (inl p) (inl q) = p ∙ sym q
  in_ (inl p) (inr (k, e)) = absurd (entry-no_root tree next es is fits n file (not-one es next n k fits.numbers e) b (root-named tree es m file p a))
  in_ (inr (k, e)) (inl q) = absurd (entry-no_root tree next es is fits m file (not-one es next m k fits.numbers e) a (root-named tree es n file q b))
  in_ (inr (k, e)) (inr (k', e')) = fits.files_are_apart m n file (some-IsSome (entry_of es m) k e) (some-IsSome (entry_of es n) k' e') a b

-- An entry whose file is the child of a number's file stands at that number and name.
pub entry-place : (tree : Tree) (next : ℕ) (es : List Kept) → IsTree tree → Fits tree next es → (n parent : ℕ) (kept : Kept) (dir file : FileId) (name : List ℕ) →
    IsFileOf tree es parent dir → child_of tree dir name ≡ Some file → entry_of es n ≡ Some kept → IsFileOf tree es n file → kept.place ≡ Linked (record { 0 = parent }) name
entry-place tree next es is fits n parent kept dir file name at child e (is_root _ _ one same) = absurd (not-one es next n kept fits.numbers e one)
entry-place tree next es is fits n parent kept dir file name at child e (is_marked _ _ kept' not e' l) =
    absurd (linked_is_not_unlinked tree file (linked_from_child tree dir name file child) (marked-unlinked tree next es fits n kept' file e' l (is_marked n file kept' not e' l)))
entry-place tree next es is fits n parent kept dir file name at child e (is_child _ _ kept' above named above_file not e' l up c) =
    let one = is.links_are_apart above_file dir named name file c child in
    let same : above.0 ≡ parent = named-apart tree next es is fits above.0 parent dir (subst (λ (f : FileId). IsFileOf tree es above.0 f) one.0 up) at in
    ap (λ (k : Kept). k.place) (some-same (entry_of es n) kept kept' e e') ∙ (l ∙ (λ i. Linked (record { 0 = same i }) (one.1 i)))

-- The number of an entry at a place names the file there.
pub place-file : (tree : Tree) (next : ℕ) (es : List Kept) → Fits tree next es → (parent : ℕ) (kept : Kept) (dir file : FileId) (name : List ℕ) →
    IsFileOf tree es parent dir → child_of tree dir name ≡ Some file → entry_at es parent name ≡ Some kept → IsFileOf tree es kept.number.0 file
place-file tree next es fits parent kept dir file name at child e =
    let entry : entry_of es kept.number.0 ≡ Some kept = entry_of-first es 2 next (stands_at parent name) kept fits.numbers e in
    let passes = Rattle.eden_base.proofs.MemberLemmas.first-passes es (stands_at parent name) kept e in
    is_child kept.number.0 file kept (record { 0 = parent }) name dir (not-one es next kept.number.0 kept fits.numbers entry) entry (stands-place parent name kept passes) at child

-- Where no entry stands at the place, no number names its file.
pub no-place-no_file : (tree : Tree) (next : ℕ) (es : List Kept) → IsTree tree → Fits tree next es → (parent : ℕ) (dir file : FileId) (name : List ℕ) →
    IsFileOf tree es parent dir → child_of tree dir name ≡ Some file → entry_at es parent name ≡ None → (m : ℕ) → IsFileOf tree es m file → ⊥
no-place-no_file tree next es is fits parent dir file name at child none m named = in_ (named-known tree es m file named) where
  in_ : (m ≡ 1) ⊎ ((k : Kept) × (entry_of es m ≡ Some k)) → ⊥
  in_ (inl one) = let low : 1 < file.0 = is.root_has_no_link dir name file child in let r : file.0 ≡ 1 = root-named tree es m file one named in omega arith
  in_ (inr (k, e)) =
      let t = place-stands parent name k (entry-place tree next es is fits m parent k dir file name at child e named) in
      let f = first-none es (has_number m) (stands_at parent name) k none e in
      let c : true ≡ false = sym t ∙ f in let gone : ⊥ = cc in gone
