-- How changes are laid over a manifest, one after another.
use Rattle.std.specs.Prelude.{◌≡◌, ℕ, ◌+◌, List, [], ◌∷◌, length, map, true, false, Option, Some, None, IfSome}
use Rattle.std.specs.Ordering.{eq_by_cmp, nat_cmp}
use Rattle.std.specs.List.{IsDistinct, filter_map}
use Rattle.std.specs.Option.{option_map}
use Rattle.std.specs.FinMap.{FinMap, get, insert}
use Rattle.eden_base.specs.declared.number.FileId.{FileId}
use Rattle.manifest.specs.declared.link_change.LinkChange.{LinkChange}
use Rattle.checkout.specs.declared.changes.Made.{Made}
use Rattle.checkout.specs.declared.made.MadeFile.{MadeFile}
use Rattle.checkout.specs.Added.{gives}
use Rattle.checkout.specs.Changes.{place_of}
use Rattle.checkout.specs.UnlinkedFiles.{UnlinkedFiles, is_gone}
use Rattle.manifest.specs.Manifest.{Manifest}
use Rattle.checkout.specs.Overlay.{is_line, lost_in}
use Rattle.manifest.specs.Tally.{Tally, count_of}
use Rattle.manifest.specs.Tree.{link_cmp, links_from}

-- no two changes stand at the same place
abbrev pub StandApart : List LinkChange → Type 0
StandApart links = IsDistinct (eq_by_cmp link_cmp) (map place_of links)

-- the file that the manifest has at the place of a changed link, or None
abbrev pub base_target : Manifest → LinkChange → Option FileId
base_target m change = get (links_from 2 m.lines) (place_of change)

-- the ids of the files that the manifest has at the places of the changes, in the order of the changes: these files
-- lose their link
abbrev pub taken : Manifest → List LinkChange → List ℕ
taken m links = filter_map (λ change. option_map (λ (file : FileId). file.0) (base_target m change)) links

-- all files that are gone are files of the manifest. `lost` counts them by their directory in the manifest, and `gone`
-- and `lost` have room for every file of the manifest
pub record AreTaken (m : Manifest) (gone : UnlinkedFiles) (lost : Tally) : Type 0 where
  pub gone_room : gone.room ≡ length m.lines + 2
  pub lost_room : lost.room ≡ length m.lines + 2
  pub are_lines : (file : FileId) → is_gone gone file.0 ≡ true → is_line m file ≡ true
  pub counted : (dir : ℕ) → count_of lost dir ≡ lost_in (is_gone gone) dir 2 m.lines

-- the file that the manifest has at the place of a changed link is not gone, or there is no such file
abbrev pub IsLeft : Manifest → UnlinkedFiles → LinkChange → Type 0
IsLeft m gone change = IfSome (base_target m change) (λ file. is_gone gone file.0 ≡ false)

-- the links together with one at this place that gives the file; without a file the same links
abbrev pub add : FinMap link_cmp FileId → ℕ × List ℕ → Option FileId → FinMap link_cmp FileId
add links place None = links
add links place (Some file) = insert links place file

-- the links together with those that the changes give
abbrev pub with_added : FinMap link_cmp FileId → List LinkChange → FinMap link_cmp FileId
with_added links [] = links
with_added links (change ∷ rest) = with_added (add links (place_of change) change.target) rest

-- the changes can be added in their order: each that has a target stands where no link stands yet, and no link gives
-- its target yet
abbrev pub CanAdd : FinMap link_cmp FileId → List LinkChange → Type 0
CanAdd links [] = Unit {0}
CanAdd links (change ∷ rest) =
    IfSome change.target (λ file. (get links (place_of change) ≡ None) × (gives links file ≡ false))
    × CanAdd (add links (place_of change) change.target) rest

-- what is kept of a made file: its kind and its permissions
abbrev pub file_kept : Made → MadeFile
file_kept made = record { kind = made.kind; perm = made.perm }

-- the made files together with those of the list, each under its id. Of two with one id the later in the list counts
abbrev pub with_made : FinMap nat_cmp MadeFile → List Made → FinMap nat_cmp MadeFile
with_made files [] = files
with_made files (made ∷ rest) = with_made (insert files made.file.0 (file_kept made)) rest
