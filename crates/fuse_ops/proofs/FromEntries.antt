-- What a daemon knows of its numbers is told by a list of entries that a map may have.
use Rattle.std.proofs.Common.{◌≡◌, ℕ, suc, List, [], ◌∷◌, ◌++◌, slice_get, Bool, cond, Option, Some, None, true, false, refl, sym, ap, ◌∙◌, subst}
use Rattle.std.specs.Prelude.{◌==◌}
use Rattle.std.proofs.lemmas.List.{append_assoc}
use Rattle.std.specs.List.{AllByRecursion}
use Rattle.eden_base.proofs.MemberLemmas.{first-none, first-passes}
use Rattle.eden_base.proofs.NumberTests.{true-eq}
use Rattle.eden_base.specs.declared.number.FileId.{FileId}
use Rattle.manifest.specs.Tree.{Tree}
use Rattle.entry_table.proofs.EntryLemmas.{entry_of-first}
use Rattle.entry_table.proofs.EntryRuns.{found-there}
use Rattle.entry_table.proofs.Places.{place-stands, stands-place}
use Rattle.entry_table.specs.Entries.{has_number, stands_at, by_number, entry_of, entry_at, file_remembered, is_of_use, AreApart, AreEntries, AreFilesOf, AreNumbers, IsFileOf}
use Rattle.entry_table.specs.declared.kept.Kept.{Kept}
use Rattle.fuse_ops.specs.Served.{ServedState, served_of}
use Rattle.fuse_ops.specs.Soundness.{AreRemembered, IsSound}

-- what holds of the entry of each number holds of each entry
pub all-entries : (P : Kept → Type 0) (low next : ℕ) (done rest : List Kept) → AreNumbers low next (done ++ rest) → ((n : ℕ) (kept : Kept) → entry_of (done ++ rest) n ≡ Some kept → P kept) → AllByRecursion P rest
all-entries P low next done [] are each = tt
all-entries P low next done (x ∷ rest) are each = (
  each x.number.0 x (found-there done x rest low next are),
  (let one = append_assoc done (x ∷ []) rest in
      all-entries P low next (done ++ x ∷ []) rest (subst (AreNumbers low next) (sym one) are) (λ n kept e. each n kept (ap (λ (all : List Kept). entry_of all n) (sym one) ∙ e))),
)

module _ (served : ServedState) (sound : IsSound served) where
  abbrev es : List Kept
  es = served.map.entries

  -- no other entry stands where one does
  sound-apart : AreApart es
  sound-apart n kept dir name entry place = in_ (entry_at es dir.0 name) refl where
    in_ : (o : Option Kept) → entry_at es dir.0 name ≡ o → o ≡ Some kept
    in_ None e =
        let f : stands_at dir.0 name kept ≡ false = first-none es (has_number n) (stands_at dir.0 name) kept e entry in
        let t : stands_at dir.0 name kept ≡ true = place-stands dir.0 name kept place in
        absurd (let none : ⊥ = cc in none)
    in_ (Some x) e =
        let there : entry_of es x.number.0 ≡ Some x = entry_of-first es 2 served.map.next (stands_at dir.0 name) x sound.numbers e in
        let at = stands-place dir.0 name x (first-passes es (stands_at dir.0 name) x e) in
        let same : x.number.0 ≡ n = sound.places_are_apart x.number.0 n x kept there entry (at ∙ sym place) in
        sym there ∙ ap (entry_of es) same ∙ entry

  pub sound-entries : AreEntries es served.map.next
  sound-entries = record {
    numbers = sound.numbers;
    last = sound.numbers_fit;
    apart = sound-apart;
    of_use = all-entries (λ (kept : Kept). is_of_use es kept ≡ true) 2 served.map.next [] es sound.numbers sound.each_of_use;
  }

-- the file that is remembered of a number, among those of entries, stands at the index of the number's entry
record IsOfEntry (es : List Kept) (fs : List FileId) (n : ℕ) (file : FileId) : Type 0 where
  pub i : ℕ
  pub kept : Kept
  pub number : kept.number.0 ≡ n
  pub stands : slice_get es i ≡ Some kept
  pub beside : slice_get fs i ≡ Some file

of-entry : (es : List Kept) (fs : List FileId) (n : ℕ) (file : FileId) → file_remembered (by_number es fs) n ≡ Some file → IsOfEntry es fs n file
of-entry [] fs n file e = absurd (let none : ⊥ = cc in none)
of-entry (x ∷ es) [] n file e = absurd (let none : ⊥ = cc in none)
of-entry (x ∷ es) (f ∷ fs) n file e = in_ (x.number.0 == n) refl e (of-entry es fs n file) where
  in_ : (b : Bool) → (x.number.0 == n) ≡ b → cond b (Some f) (file_remembered (by_number es fs) n) ≡ Some file →
      (file_remembered (by_number es fs) n ≡ Some file → IsOfEntry es fs n file) → IsOfEntry (x ∷ es) (f ∷ fs) n file
  in_ true t h more = record { i = 0; kept = x; number = true-eq x.number.0 n t; stands = refl; beside = h }
  in_ false t h more =
      let r = more h in
      record { i = suc r.i; kept = r.kept; number = r.number; stands = r.stands; beside = r.beside }

-- so it is the file that the number names
pub files-remembered : (tree : Tree) (es : List Kept) (fs : List FileId) (next limit : ℕ) → AreFilesOf tree es fs → AreRemembered (served_of es fs next limit tree)
files-remembered tree es fs next limit are n file e =
    let r = of-entry es fs n file e in
    subst (λ (m : ℕ). IsFileOf tree es m file) r.number (are.each r.i r.kept file r.stands r.beside)
