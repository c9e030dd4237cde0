-- How the second and the fourth round of checks look for a bad changed link.
use Rattle.std.specs.Prelude.{◌≡◌, ℕ, ◌+◌, ◌==◌, ◌&&◌, ◌||◌, Bool, false, not, nat_lt, List, [], ◌∷◌, Option, Some, None, is_some, if◌then◌else◌}
use Rattle.std.specs.FinMap.{FinMap, empty, entries}
use Rattle.std.specs.List.{filter_map, list_any}
use Rattle.std.specs.Option.{option_map}
use Rattle.eden_base.specs.declared.number.FileId.{FileId}
use Rattle.checkout.specs.declared.changes.Changes.{Changes}
use Rattle.manifest.specs.declared.link_change.LinkChange.{LinkChange}
use Rattle.checkout.specs.Added.{gives}
use Rattle.checkout.specs.BadChanges.{bad_by_other, bad_itself, file_does}
use Rattle.checkout.specs.UnlinkedFiles.{UnlinkedFiles}
use Rattle.checkout.specs.Laying.{AreTaken, base_target, taken, with_added}
use Rattle.manifest.specs.Manifest.{IsManifest, Manifest, kids_in}
use Rattle.checkout.specs.Overlay.{is_line}
use Rattle.manifest.specs.Tally.{Tally}
use Rattle.manifest.specs.Tree.{link_cmp}

-- the index of the first change of which a test holds, or None. `place` is the index of the list's first change
abbrev pub first_of : (LinkChange → Bool) → ℕ → List LinkChange → Option ℕ
first_of test place [] = None
first_of test place (change ∷ rest) = if test change then Some place else first_of test (place + 1) rest

-- the mark of a file after one more change. A mark is None before a change gave the file, and then says whether several
-- did
abbrev pub mark_after : ℕ → Option Bool → Option FileId → Option Bool
mark_after file mark None = mark
mark_after file mark (Some target) = if target.0 == file then Some (is_some mark) else mark

-- the mark of a file after all changes of a list
abbrev pub marked : ℕ → Option Bool → List LinkChange → Option Bool
marked file mark [] = mark
marked file mark (change ∷ rest) = marked file (mark_after file mark change.target) rest

-- the ids of the files that changes give, in the order of the changes
abbrev pub ids_given : List LinkChange → List ℕ
ids_given links = filter_map (λ change. option_map (λ (file : FileId). file.0) change.target) links

-- whether a mark says that several changes gave the file
abbrev pub is_marked : Option Bool → Bool
is_marked None = false
is_marked (Some several) = several

-- whether a link of the manifest still gives the target of a change, or several changes give this target
abbrev pub is_given_twice : Manifest → (ℕ → Bool) → (ℕ → Option Bool) → LinkChange → Bool
is_given_twice m gone marks change =
    file_does (λ file. (is_line m file && not (gone file.0)) || is_marked (marks file.0)) change.target

-- whether some added link stands in a directory
abbrev pub has_added : FinMap link_cmp FileId → FileId → Bool
has_added added dir = list_any (λ link. link.0.0 == dir.0) (entries added)

-- whether a directory is cut off: it is not the root, no link gives it, and some link stands in it
abbrev pub is_cut : Manifest → FinMap link_cmp FileId → (ℕ → Bool) → (ℕ → ℕ) → FileId → Bool
is_cut m added gone lost dir =
    not (dir.0 == 1) && not (gives added dir || (is_line m dir && not (gone dir.0)))
    && (has_added added dir || nat_lt (lost dir.0) (kids_in dir.0 m.lines))

-- whether the directory of a changed link is cut off, or the file that the manifest has at the link's place
abbrev pub cuts : Manifest → FinMap link_cmp FileId → (ℕ → Bool) → (ℕ → ℕ) → LinkChange → Bool
cuts m added gone lost change =
    is_cut m added gone lost change.dir || file_does (is_cut m added gone lost) (base_target m change)

-- the same, but what the manifest has there is left out unless `files`
abbrev pub cuts_if : Bool → Manifest → FinMap link_cmp FileId → (ℕ → Bool) → (ℕ → ℕ) → LinkChange → Bool
cuts_if files m added gone lost change =
    is_cut m added gone lost change.dir || (files && file_does (is_cut m added gone lost) (base_target m change))

-- the changes are laid over the manifest as `added`, `gone` and `lost`, and the first two rounds find no bad change
pub record AreLaid (m : Manifest) (c : Changes) (added : FinMap link_cmp FileId) (gone : UnlinkedFiles) (lost : Tally) :
    Type 0 where
  pub is_manifest : IsManifest m
  pub itself : bad_itself m c ≡ None
  pub by_other : bad_by_other m c ≡ None
  pub went : gone.files ≡ taken m c.links
  pub so_far : AreTaken m gone lost
  pub came : added ≡ with_added empty c.links
