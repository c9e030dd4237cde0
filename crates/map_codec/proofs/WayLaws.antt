-- Ways up by the places of entries.
use Rattle.std.proofs.Common.{All, ◌≡◌, ◌<◌, ◌≤◌, ℕ, true, List, [], ◌∷◌, ◌++◌, length, length-append, map, get_or, Option, Some, None, refl, sym, ap, subst, ◌∙◌, arith}
use Rattle.std.proofs.Math.Seq.{get_or-append_seam}
use Rattle.std.proofs.lemmas.List.{get_or_append_left, length-map, map-append}
use Rattle.std.proofs.lemmas.Option.{slice_get-get_or}
use Rattle.eden_base.specs.declared.number.FileId.{FileId}
use Rattle.eden_base.specs.declared.number.Number.{Number}
use Rattle.eden_base.specs.declared.place.Place.{Place}
use Rattle.eden_base.specs.declared.place.Place.TheVariants.{Linked, Unlinked}
use Rattle.manifest.specs.Tree.{Tree}
use Rattle.entry_table.specs.EntryPlaces.{Climbs, StepsUp}
use Rattle.entry_table.specs.Entries.{IsFileOf, entry_of, is_marked}
use Rattle.entry_table.specs.declared.kept.Kept.{Kept}
use Rattle.entry_table.proofs.Climbing.{Climbs-append, Climbs-split, long-no_file, step-name, step-no_mark}
use Rattle.map_image.specs.Fit.{rises, entry_follows}
use Rattle.map_codec.specs.Named.{AreDirectories, IsDirectoryAt, IsDirectoryOf, IsPlaceOf, NamesNone, number_at}
use Rattle.map_codec.proofs.DirectoryLaws.{not_root, place_inside, place_itself, place_number}
use Rattle.map_codec.proofs.NamedLaws.{entry_read, step_at}

-- the numbers of the entries on a way
abbrev pub numbers : List Kept → List ℕ → List Number
numbers entries way = map (number_at entries) way

none_is : (o : Option ℕ) → ((i : ℕ) → o ≡ Some i → ⊥) → o ≡ None
none_is None other = refl
none_is (Some i) other = absurd (other i refl)

-- one place more at the top of a way, and one fewer
pub way_longer : (entries : List Kept) (way : List ℕ) (n i up : ℕ) → Climbs entries n (numbers entries way) (number_at entries i).0 → StepsUp entries (number_at entries i).0 up → Climbs entries n (numbers entries (way ++ i ∷ [])) up
way_longer entries way n i up climbs step =
    subst (λ (ws : List Number). Climbs entries n ws up) (sym (map-append (number_at entries) way (i ∷ [])))
    (Climbs-append entries (numbers entries way) n (number_at entries i) up climbs step)

pub way_shorter : (entries : List Kept) (way : List ℕ) (n i up : ℕ) → Climbs entries n (numbers entries (way ++ i ∷ [])) up → Climbs entries n (numbers entries way) (number_at entries i).0 × StepsUp entries (number_at entries i).0 up
way_shorter entries way n i up climbs =
    Climbs-split entries (numbers entries way) n (number_at entries i) up (subst (λ (ws : List Number). Climbs entries n ws up) (map-append (number_at entries) way (i ∷ [])) climbs)

-- what holds of each place on a way holds of the last, and of those before it
pub place_last : (P : ℕ → Type 0) (way : List ℕ) (i : ℕ) → All P (way ++ i ∷ []) → P i
place_last P way i all = subst P (get_or-append_seam way i [] i) (all (length way) i (omega (arith, length-append way (i ∷ []))))

pub places_before : (P : ℕ → Type 0) (way : List ℕ) (i : ℕ) → All P (way ++ i ∷ []) → All P way
places_before P way i all = λ k d lt. subst P (get_or_append_left way (i ∷ []) d k lt) (all k d (omega (arith, lt, length-append way (i ∷ []))))

-- What is read at a place on the way.
module _ (entries : List Kept) (rise : rises entry_follows None entries ≡ true) (i : ℕ) (inside : i < length entries) (kept : Kept) (is : kept ≡ get_or entries i kept) where
  abbrev n : ℕ
  n = (number_at entries i).0

  here : IsPlaceOf entries n i
  here = place_itself entries i rise inside

  -- its number is not the root's, and has this entry
  pub other_than_root : n ≡ 1 → ⊥
  other_than_root = not_root entries n i rise here

  pub entry_here : entry_of entries n ≡ Some kept
  entry_here = entry_read entries n i kept here is

  -- a step up to its directory
  pub step_from : (dir : Number) (name : List ℕ) → (get_or entries i kept).place ≡ Linked dir name → StepsUp entries n dir.0
  step_from dir name linked = step_at entries n i kept dir name other_than_root here is linked

  -- the name of the step, and no mark
  pub name_here : (up : ℕ) (step : StepsUp entries n up) (dir : Number) (name : List ℕ) → (get_or entries i kept).place ≡ Linked dir name → step.name ≡ name
  name_here up step dir name linked = step-name entries n up kept dir name step entry_here (ap (λ (k : Kept). k.place) is ∙ linked)

  pub no_mark_here : (up : ℕ) (file : FileId) → StepsUp entries n up → (get_or entries i kept).place ≡ Unlinked file → ⊥
  no_mark_here up file step marked = step-no_mark entries n up kept file step entry_here (ap (λ (k : Kept). k.place) is ∙ marked)

  -- its mark names a file
  pub marked_here : (tree : Tree) (file : FileId) → (get_or entries i kept).place ≡ Unlinked file → IsFileOf tree entries n file
  marked_here tree file marked = is_marked n file kept other_than_root entry_here (ap (λ (k : Kept). k.place) is ∙ marked)

  -- a way with a step from it that is as long as the entries leads to no file
  pub no_way_on : (way : List ℕ) (first : ℕ) (dir : Number) (name : List ℕ) → Climbs entries first (numbers entries way) n → (get_or entries i kept).place ≡ Linked dir name → length entries ≤ length way → NamesNone entries first
  no_way_on way first dir name climbs linked long tree file named =
      long-no_file tree entries (numbers entries way) first (number_at entries i) dir.0 file climbs (step_from dir name linked)
      (omega (arith, long, length-map way (number_at entries))) named

  module _ (places : List (Option ℕ)) (are : AreDirectories entries places) (dir : Number) (name : List ℕ) (linked : (get_or entries i kept).place ≡ Linked dir name) where
    directory_read : (at : Option ℕ) → get_or places i None ≡ at → IsDirectoryAt entries dir.0 at
    directory_read at found =
        let end : i < length places = omega (arith, inside, are.len) in
        subst (λ (p : Place). IsDirectoryOf entries p at) (ap (λ (k : Kept). k.place) is ∙ linked)
        (are.each i kept at (slice_get-get_or entries i kept inside ∙ ap Some (sym is)) (slice_get-get_or places i None end ∙ ap Some found))

    -- its directory is the root
    pub in_root : ((above : ℕ) → get_or places i None ≡ Some above → ⊥) → dir.0 ≡ 1
    in_root none = directory_read None (none_is (get_or places i None) none)

    -- its directory has its entry above
    pub above_inside : (above : ℕ) → get_or places i None ≡ Some above → above < length entries
    above_inside above found = place_inside entries dir.0 above (directory_read (Some above) found)

    pub way_above : (way : List ℕ) (first above : ℕ) → get_or places i None ≡ Some above → Climbs entries first (numbers entries way) n → Climbs entries first (numbers entries (way ++ i ∷ [])) (number_at entries above).0
    way_above way first above found climbs =
        let same : dir.0 ≡ (number_at entries above).0 = place_number entries dir.0 above (directory_read (Some above) found) in
        subst (λ (top : ℕ). Climbs entries first (numbers entries (way ++ i ∷ [])) top) same (way_longer entries way first i dir.0 climbs (step_from dir name linked))
