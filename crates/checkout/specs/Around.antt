-- Which changed link is the first whose target is the link's own directory, or stands above this directory. Links are a
-- map from a directory and a name to a file. And how files are coloured by whether they stand below themselves.
use Rattle.std.specs.Prelude.{◌≡◌, ◌<◌, ◌==◌, ◌||◌, ℕ, Bool, true, false, nat_lt, List, [], ◌∷◌, map, slice_get, Option, Some, None, IsSome, is_some, if◌then◌else◌}
use Rattle.std.proofs.Common.{Bor}
use Rattle.std.specs.Coded.{Coded, coded_ℕ, coded_bool}
use Rattle.std.specs.FinMap as map
use Rattle.std.specs.FinMap.{FinMap, entries, get}
use Rattle.std.specs.List.{list_any}
use Rattle.std.specs.Option.{option_and_then}
use Rattle.std.specs.Ordering.{nat_cmp}
use Rattle.eden_base.specs.declared.number.FileId.{FileId}
use Rattle.manifest.specs.declared.link_change.LinkChange.{LinkChange}
use Rattle.checkout.specs.Changes.{place_of}
use Rattle.checkout.specs.UnlinkedFiles.{UnlinkedFiles, is_gone}
use Rattle.manifest.specs.Manifest.{Manifest, kids_in}
use Rattle.checkout.specs.Overlay.{links_over, still}
use Rattle.manifest.specs.Tree.{link_cmp, links_from, StandsIn}

-- the file to which the names lead, one after another, from a directory down; None if a name gives no file
abbrev pub end_of : FinMap link_cmp FileId → FileId → List (List ℕ) → Option FileId
end_of links dir [] = Some dir
end_of links dir (name ∷ names) =
    option_and_then (λ (child : FileId). end_of links child names) (get links (dir.0, name))

-- the target of a changed link is the link's own directory, or stands above this directory
abbrev pub IsAbove : FinMap link_cmp FileId → LinkChange → Type 0
IsAbove links change =
    (file : FileId) × (names : List (List ℕ)) × (change.target ≡ Some file)
    × (end_of links file names ≡ Some change.dir)

-- the option is the index of the first change whose target is its own directory or above it; None if there is no such
-- change
abbrev pub IsFirstAbove : FinMap link_cmp FileId → List LinkChange → Option ℕ → Type 0
IsFirstAbove links changes (Some place) =
    (change : LinkChange) × (slice_get changes place ≡ Some change) × IsAbove links change
    × ((before : ℕ) (other : LinkChange) → before < place → slice_get changes before ≡ Some other →
    IsAbove links other → ⊥)
IsFirstAbove links changes None =
    (place : ℕ) (change : LinkChange) → slice_get changes place ≡ Some change → IsAbove links change → ⊥

-- a manifest's links without those whose file is gone, together with the added links
abbrev pub links_now : Manifest → FinMap link_cmp FileId → UnlinkedFiles → FinMap link_cmp FileId
links_now m added gone = links_over added (is_gone gone) (links_from 2 m.lines)

-- no link stands in a directory in which none was added, and of which all of the manifest's links are lost
abbrev pub CountsLinks : Manifest → FinMap link_cmp FileId → UnlinkedFiles → (ℕ → ℕ) → Type 0
CountsLinks m added gone lost =
    (dir : FileId) (name : List ℕ) →
    (list_any (λ link. link.0.0 == dir.0) (entries added) || nat_lt (lost dir.0) (kids_in dir.0 m.lines)) ≡ false →
    get (links_now m added gone) (dir.0, name) ≡ None

-- no file stands at two places: two links that give the same file have the same directory and the same name
pub record AreApart (links : FinMap link_cmp FileId) : Type 0 where
  pub apart : (dir other_dir : FileId) (name other_name : List ℕ) (file : FileId) →
      get links (dir.0, name) ≡ Some file → get links (other_dir.0, other_name) ≡ Some file →
      (dir ≡ other_dir) × (name ≡ other_name)

-- each added link stands at a place where the manifest has no link, or a link whose file is gone
abbrev pub AreBeside : FinMap link_cmp FileId → (ℕ → Bool) → FinMap link_cmp FileId → Type 0
AreBeside added gone base =
    (dir : ℕ) (name : List ℕ) → IsSome (get added (dir, name)) → still gone (get base (dir, name)) ≡ None

-- a change's target is the file that the links give at the change's place, or None if they give none there
abbrev pub GivesTarget : FinMap link_cmp FileId → LinkChange → Type 0
GivesTarget links change = get links (place_of change) ≡ change.target

-- the option is a directory in which the file stands, or None if the file stands in no directory
abbrev pub IsDirAbove : FinMap link_cmp FileId → FileId → Option FileId → Type 0
IsDirAbove links file None = (dir : FileId) → StandsIn links file dir → ⊥
IsDirAbove links file (Some dir) = StandsIn links file dir

-- the option is the name under which the file stands, or None if the file stands in no directory
abbrev pub IsNameAbove : FinMap link_cmp FileId → FileId → Option (Bor (List ℕ)) → Type 0
IsNameAbove links file None = (dir : FileId) → StandsIn links file dir → ⊥
IsNameAbove links file (Some name) = (dir : FileId) × (get links (dir.0, name.now) ≡ Some file)

-- some names lead from the first file down to the second, or both are the same file
abbrev pub Leads : FinMap link_cmp FileId → FileId → FileId → Type 0
Leads links from file = (names : List (List ℕ)) × (end_of links from names ≡ Some file)

-- the file stands below `top`. A file that stands below itself is on a circle of links
pub record IsUnder (links : FinMap link_cmp FileId) (top file : FileId) : Type 0 where
  pub dir : FileId
  pub to_dir : Leads links top dir
  pub stands : StandsIn links file dir

-- whether the list contains the file
abbrev pub among : FileId → List FileId → Bool
among file files = list_any (λ (f : FileId). f.0 == file.0) files

-- the rest of the list from a file on, with this file; empty if the list doesn't contain the file
abbrev pub from_file : FileId → List FileId → List FileId
from_file file [] = []
from_file file (f ∷ files) = if f.0 == file.0 then f ∷ files else from_file file files

-- the first file of a way up; for an empty way, what is above its end
abbrev pub first_or : List FileId → Option FileId → Option FileId
first_or [] top = top
first_or (file ∷ way) top = Some file

-- the list is a way up: each of its files stands in the next. The last stands in `top`, or in no directory if `top` is
-- None
abbrev pub IsWay : FinMap link_cmp FileId → List FileId → Option FileId → Type 0
IsWay links [] top = Unit {0}
IsWay links (file ∷ way) top = IsDirAbove links file (first_or way top) × IsWay links way top

-- the code of a map of colours, by which a proof tells two such maps apart
abbrev pub colours_code : Coded (map.FinMap nat_cmp Bool)
colours_code = map.code coded_ℕ coded_bool

-- the colours are right: a file with true is on a circle, and a file with false is on none. If a file has a colour, the
-- directory in which it stands has a colour too
pub record AreRight (links : FinMap link_cmp FileId) (colours : FinMap nat_cmp Bool) : Type 0 where
  pub on : (file : FileId) → get colours file.0 ≡ Some true → IsUnder links file file
  pub off : (file : FileId) → get colours file.0 ≡ Some false → IsUnder links file file → ⊥
  pub closed : (file dir : FileId) → is_some (get colours file.0) ≡ true → StandsIn links file dir →
      is_some (get colours dir.0) ≡ true

-- the new colours are the old ones, except that each of the files has this colour
abbrev pub AreSet : List FileId → Bool → FinMap nat_cmp Bool → FinMap nat_cmp Bool → Type 0
AreSet files colour old new =
    (file : FileId) → get new file.0 ≡ (if among file files then Some colour else get old file.0)

-- the files of a way up have no colour in `old`. In `new` they have the colour of files on no circle, and other files
-- keep theirs
pub record IsClimb (links : FinMap link_cmp FileId) (old new : FinMap nat_cmp Bool) (way : List FileId)
    (top : Option FileId) : Type 0 where
  pub is_way : IsWay links way top
  pub were_new : (file : FileId) → among file way ≡ true → get old file.0 ≡ None
  pub are_set : AreSet way false old new

-- the ids of files
abbrev pub ids : List FileId → List ℕ
ids files = map (λ (f : FileId). f.0) files

-- the file above the end of a way up has a colour, or there is no such file
abbrev pub IsEnd : FinMap nat_cmp Bool → Option FileId → Type 0
IsEnd colours None = Unit {0}
IsEnd colours (Some top) = is_some (get colours top.0) ≡ true
