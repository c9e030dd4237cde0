-- Files that are found for entries one by one.
use Rattle.std.proofs.Common.{◌≡◌, ◌<◌, ℕ, List, [], ◌∷◌, ◌++◌, length, get_or, replicate, Option, Some, None, sym, ap, subst, ◌∙◌, inl, inr, ◌⊎◌, arith}
use Rattle.std.specs.Prelude.{slice_get}
use Rattle.std.proofs.Math.ListN.{set, length-set}
use Rattle.std.proofs.lemmas.List.{get_or-set_same, get_or-set_other, get_or-replicate, length-replicate}
use Rattle.std.proofs.lemmas.Option.{slice_get-get_or, slice_get_within, get_or_from_slice_get}
use Rattle.eden_base.proofs.MemberLemmas.{some-same}
use Rattle.eden_base.proofs.NumberTests.{eq-or}
use Rattle.eden_base.specs.declared.number.FileId.{FileId}
use Rattle.eden_base.specs.declared.number.Number.{Number}
use Rattle.eden_base.specs.declared.place.Place.TheVariants.{Linked}
use Rattle.manifest.specs.Tree.{Tree}
use Rattle.entry_table.specs.EntryPlaces.{StepsUp}
use Rattle.entry_table.specs.Entries.{IsFileOf, entry_of}
use Rattle.entry_table.specs.declared.kept.Kept.{Kept}
use Rattle.entry_table.proofs.Climbing.{step-read}
use Rattle.entry_table.proofs.EntryLemmas.{entry_of-number}
use Rattle.map_codec.specs.Named.{AreFound, IsPlaceOf, number_at}
use Rattle.map_codec.proofs.DirectoryLaws.{IsEachAt, each_pushed, number_there}

-- an entry names a file
abbrev pub IsFileAt : Tree → List Kept → Kept → FileId → Type 0
IsFileAt tree entries kept file = IsFileOf tree entries kept.number.0 file

-- no file is known yet
pub none_found : (tree : Tree) (entries : List Kept) (found : List (Option FileId)) → found ≡ replicate (length entries) None → AreFound tree entries found
none_found tree entries found is =
    let len : length found ≡ length entries = ap length is ∙ length-replicate (length entries) None in
    record {
      len = len;
      each = λ i kept file here there.
          let within : i < length entries = omega (arith, slice_get_within found i (Some file) there, len) in
          let read : get_or found i None ≡ Some file = get_or_from_slice_get found i (Some file) None there in
          let none : get_or found i None ≡ None = ap (λ (fs : List (Option FileId)). get_or fs i None) is ∙ get_or-replicate (length entries) i None None within in
          absurd (let no : ⊥ = cc in no);
    }

-- what is read at the place of a number is its entry
pub entry_read : (entries : List Kept) (n i : ℕ) (kept : Kept) → IsPlaceOf entries n i → kept ≡ get_or entries i kept → entry_of entries n ≡ Some kept
entry_read entries n i kept at is = at.entry ∙ ap Some (sym (get_or_from_slice_get entries i at.kept kept at.stands) ∙ sym is)

-- the linked entry that is read at the index of a number is a step up to its directory
pub step_at : (entries : List Kept) (n i : ℕ) (kept : Kept) (dir : Number) (name : List ℕ) → (n ≡ 1 → ⊥) → IsPlaceOf entries n i → kept ≡ get_or entries i kept → (get_or entries i kept).place ≡ Linked dir name → StepsUp entries n dir.0
step_at entries n i kept dir name other at is linked = step-read entries n kept dir name other (entry_read entries n i kept at is) (ap (λ (k : Kept). k.place) is ∙ linked)

module _ (tree : Tree) (entries : List Kept) (found : List (Option FileId)) (are : AreFound tree entries found) (n i : ℕ) (file : FileId) (at : IsPlaceOf entries n i) where
  within : i < length found
  within = omega (arith, slice_get_within entries i at.kept at.stands, are.len)

  -- the file of a number is written at its place
  pub one_found : IsFileOf tree entries n file → AreFound tree entries (set found i (Some file))
  one_found names = record {
    len = length-set found i (Some file) ∙ are.len;
    each = λ j kept other stands there. in_ j kept other stands there (eq-or j i);
  } where
    in_ : (j : ℕ) (kept : Kept) (other : FileId) → slice_get entries j ≡ Some kept → slice_get (set found i (Some file)) j ≡ Some (Some other) → (j ≡ i) ⊎ (j ≡ i → ⊥) → IsFileOf tree entries kept.number.0 other
    in_ j kept other stands there (inl same) =
        let here : slice_get (set found i (Some file)) i ≡ Some (Some file) =
        slice_get-get_or (set found i (Some file)) i None (omega (arith, within, length-set found i (Some file))) ∙ ap Some (get_or-set_same found i (Some file) None within) in
        let told : Some file ≡ Some other = some-same (slice_get (set found i (Some file)) i) (Some file) (Some other) here (subst (λ (k : ℕ). slice_get (set found i (Some file)) k ≡ Some (Some other)) same there) in
        let it : file ≡ other = cc in
        let entry : at.kept ≡ kept = some-same (slice_get entries i) at.kept kept at.stands (subst (λ (k : ℕ). slice_get entries k ≡ Some kept) same stands) in
        let number : n ≡ kept.number.0 = sym (entry_of-number entries n at.kept at.entry) ∙ ap (λ (k : Kept). k.number.0) entry in
        subst (λ (m : ℕ). IsFileOf tree entries m other) number (subst (λ (f : FileId). IsFileOf tree entries n f) it names)
    in_ j kept other stands there (inr apart) =
        let read : get_or (set found i (Some file)) j None ≡ Some other = get_or_from_slice_get (set found i (Some file)) j (Some other) None there in
        let was : get_or found j None ≡ Some other = sym (get_or-set_other found i j (Some file) None apart) ∙ read in
        let lt : j < length found = omega (arith, slice_get_within entries j kept stands, are.len) in
        are.each j kept other stands (slice_get-get_or found j None lt ∙ ap Some was)

-- the file of the next entry
pub next_file_found : (tree : Tree) (entries : List Kept) (files : List FileId) (n : ℕ) (file : FileId) → length files ≡ n → IsFileOf tree entries (number_at entries n).0 file → IsEachAt (IsFileAt tree entries) entries files
    → IsEachAt (IsFileAt tree entries) entries (files ++ file ∷ [])
next_file_found tree entries files n file len names each =
    each_pushed (IsFileAt tree entries) entries files file
    (λ kept there. subst (λ (m : Number). IsFileOf tree entries m.0 file) (number_there entries n kept (ap (slice_get entries) (sym len) ∙ there)) names) each
