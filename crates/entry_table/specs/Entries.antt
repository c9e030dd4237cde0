-- The entries of the map: each number that was given and is not forgotten, with the place of its file, and how often
-- the kernel holds the number. EdenFS's inode map has the same.
use Rattle.std.specs.Prelude.{◌≡◌, ℕ, ◌+◌, ◌-◌, ◌≤◌, Bool, true, false, ◌||◌, ◌&&◌, ◌==◌, nat_lt, List, [], ◌∷◌, length, map, slice_get, zip, nat_eq, Option, Some, is_some}
use Rattle.std.specs.Option.{option_map, option_map_or}
use Rattle.std.specs.List.{list_any, AllByRecursion}
use Rattle.std.specs.Map.{lookup}
use Rattle.std.specs.BTreeMap.{insert_entry}
use Rattle.std.specs.Ordering.{nat_cmp}
use Rattle.std.specs.Cmp.Lexicographic.{pointwise}
use Rattle.eden_base.specs.declared.number.Number.{Number}
use Rattle.eden_base.specs.declared.number.FileId.{FileId}
use Rattle.eden_base.specs.declared.place.Place.{Place}
use Rattle.eden_base.specs.declared.place.Place.TheVariants.{Linked, Unlinked}
use Rattle.eden_base.specs.First.{first_where, changed_where}
use Rattle.eden_base.specs.Limits.{end_of_numbers}
use Rattle.manifest.specs.Tree.{Tree, child_of, root}
use Rattle.entry_table.specs.declared.kept.Kept.{Kept}

-- whether the entry is of number `n`
abbrev pub has_number : ℕ → Kept → Bool
has_number n kept = kept.number.0 == n

-- the number of an entry
abbrev pub number_of_kept : Kept → Number
number_of_kept kept = kept.number

-- the place of an entry
abbrev pub place_of_kept : Kept → Place
place_of_kept kept = kept.place

-- the entry of number `n`, if there is one
abbrev pub entry_of : List Kept → ℕ → Option Kept
entry_of entries n = first_where (has_number n) entries

-- whether number `n` has an entry
abbrev pub is_kept : List Kept → ℕ → Bool
is_kept entries n = is_some (entry_of entries n)

-- whether number `n` is the root's, or has an entry
abbrev pub is_known : List Kept → ℕ → Bool
is_known entries n = n == 1 || is_kept entries n

-- how often the kernel holds number `n`, as far as the daemon knows; 0 without an entry
abbrev pub count_of : List Kept → ℕ → ℕ
count_of entries n = option_map_or (λ (kept : Kept). kept.count) (entry_of entries n) 0

-- whether the place is this name in the directory of number `parent`
abbrev pub is_place : ℕ → List ℕ → Place → Bool
is_place parent name (Linked dir linked) = dir.0 == parent && pointwise nat_eq linked name
is_place parent name (Unlinked file) = false

-- whether the entry stands under this name in the directory of number `parent`
abbrev pub stands_at : ℕ → List ℕ → Kept → Bool
stands_at parent name kept = is_place parent name kept.place

-- the entry that stands under this name in the directory of number `parent`, if there is one
abbrev pub entry_at : List Kept → ℕ → List ℕ → Option Kept
entry_at entries parent name = first_where (stands_at parent name) entries

-- whether the place is a name in the directory of number `parent`
abbrev pub is_in : ℕ → Place → Bool
is_in parent (Linked dir linked) = dir.0 == parent
is_in parent (Unlinked file) = false

-- whether the entry stands in the directory of number `parent`
abbrev pub is_kid_of : ℕ → Kept → Bool
is_kid_of parent kept = is_in parent kept.place

-- whether the entry is of use: the kernel holds its number, or an entry stands in its directory
abbrev pub is_of_use : List Kept → Kept → Bool
is_of_use entries kept = nat_lt 0 kept.count || list_any (is_kid_of kept.number.0) entries

-- the entry, counted once more
abbrev pub once_more : Kept → Kept
once_more kept = record kept { count = kept.count + 1 }

-- the entry of a number that is given for the first time, to a name in a directory; it is counted once
abbrev pub new_entry : ℕ → Number → List ℕ → Kept
new_entry next parent name = record { number = record { 0 = next }; place = Linked parent name; count = 1 }

-- whether a forget of number `n` by `k` is bad: `k` is 0, or is more than the daemon counts
abbrev pub is_bad_item : List Kept → ℕ → ℕ → Bool
is_bad_item entries n k = k == 0 || nat_lt (count_of entries n) k

-- the entries, with number `n` counted `k` times less
abbrev pub lowered : List Kept → ℕ → ℕ → List Kept
lowered entries n k = changed_where (has_number n) (λ kept. record kept { count = kept.count - k }) entries

-- `n` names this file in a tree. It is the root for number 1. Else it is the file in the mark of the entry, or the
-- child, under the entry's name, of the file that the entry's directory names.
pub data IsFileOf (tree : Tree) (entries : List Kept) : ℕ → FileId → Type 0 where
  is_root : (n : ℕ) (file : FileId) → n ≡ 1 → file ≡ root → IsFileOf tree entries n file
  is_child : (n : ℕ) (file : FileId) (kept : Kept) (dir : Number) (name : List ℕ) (dir_file : FileId) →
      (n ≡ 1 → ⊥) → entry_of entries n ≡ Some kept → kept.place ≡ Linked dir name →
      IsFileOf tree entries dir.0 dir_file → child_of tree dir_file name ≡ Some file → IsFileOf tree entries n file
  is_marked : (n : ℕ) (file : FileId) (kept : Kept) →
      (n ≡ 1 → ⊥) → entry_of entries n ≡ Some kept → kept.place ≡ Unlinked file → IsFileOf tree entries n file

-- these are the files that the entries name, one for each
pub record AreFilesOf (tree : Tree) (entries : List Kept) (files : List FileId) : Type 0 where
  pub len : length files ≡ length entries
  pub each : (i : ℕ) (kept : Kept) (file : FileId) → slice_get entries i ≡ Some kept → slice_get files i ≡ Some file →
      IsFileOf tree entries kept.number.0 file

-- each entry's number, with the file that stands at the entry's index in `files`
abbrev pub by_number : List Kept → List FileId → List (ℕ × FileId)
by_number entries files = map (λ (named : Kept × FileId). (named.0.number.0, named.1)) (zip entries files)

-- the numbers of the entries rise, are at least `low`, and are below `next`
abbrev pub AreNumbers : ℕ → ℕ → List Kept → Type 0
AreNumbers low next [] = low ≤ next
AreNumbers low next (kept ∷ entries) = (low ≤ kept.number.0) × AreNumbers (kept.number.0 + 1) next entries

-- whether the entry's number is greater than `n`
abbrev pub is_above : ℕ → Kept → Bool
is_above n kept = nat_lt n kept.number.0

-- the least number of an entry above `n`, if the numbers of the entries rise
abbrev pub number_after : List Kept → ℕ → Option Number
number_after entries n = option_map number_of_kept (first_where (is_above n) entries)

-- the file that is remembered of number `n`, if there is one
abbrev pub file_remembered : List (ℕ × FileId) → ℕ → Option FileId
file_remembered files n = lookup (λ (m : ℕ). m == n) files

-- the files that are remembered, with this one remembered of number `n`
abbrev pub remembered : List (ℕ × FileId) → ℕ → FileId → List (ℕ × FileId)
remembered files n file = insert_entry nat_cmp files n file

-- number `n` has an entry, and the entry stands under a name
abbrev pub IsLinked : List Kept → ℕ → Type 0
IsLinked entries n =
    (kept : Kept) × (dir : Number) × (name : List ℕ) × (entry_of entries n ≡ Some kept)
    × (kept.place ≡ Linked dir name)

-- the entry after its name was taken away: the mark stands in place of its directory and name
abbrev pub marked : FileId → Kept → Kept
marked file kept = record kept { place = Unlinked file }

-- the entry after it moved to a name in a directory
abbrev pub moved_to : Number → List ℕ → Kept → Kept
moved_to dir name kept = record kept { place = Linked dir name }

-- each linked entry is the one that is found at its place, so that no two stand at one place
abbrev pub AreApart : List Kept → Type 0
AreApart entries = (n : ℕ) (kept : Kept) (dir : Number) (name : List ℕ) →
    entry_of entries n ≡ Some kept → kept.place ≡ Linked dir name → entry_at entries dir.0 name ≡ Some kept

-- entries that a map may have: numbers rise and stay below the next, no two entries stand at one place, and each is of
-- use
pub record AreEntries (entries : List Kept) (next : ℕ) : Type 0 where
  pub numbers : AreNumbers 2 next entries
  pub last : next ≤ end_of_numbers
  pub apart : AreApart entries
  pub of_use : AllByRecursion (λ (kept : Kept). is_of_use entries kept ≡ true) entries
