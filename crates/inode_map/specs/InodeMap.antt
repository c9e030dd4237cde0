-- What a daemon remembers for the kernel, as EdenFS's inode map does: each number that the daemon gave, where the file
-- of that number stands, and its count, with libfuse's rules for lookup counts (`fuse_lowlevel.h`).
use Rattle.std.specs.Prelude.{◌≡◌, ℕ, suc, zero, ◌+◌, ◌-◌, ◌^◌, min, Bool, false, take, ◌==◌, nat_le, not, List, [], ◌∷◌, ◌++◌, length, Option, Some, None, is_some, if◌then◌else◌}
use Rattle.std.specs.Option.{option_map, option_map_or}
use Rattle.std.specs.List.{filter, list_any}
use Rattle.eden_base.specs.declared.number.Number.{Number}
use Rattle.eden_base.specs.declared.number.FileId.{FileId}
use Rattle.eden_base.specs.declared.attr.Attr.{Attr}
use Rattle.eden_base.specs.First.{first_where, changed_where, without_where}
use Rattle.eden_base.specs.Limits.{greatest_count, end_of_numbers}
use Rattle.entry_table.specs.declared.kept.Kept.{Kept}
use Rattle.entry_table.specs.Entries.{has_number, number_of_kept, entry_of, is_kept, stands_at, entry_at, is_of_use, is_kid_of, by_number, once_more, new_entry, is_bad_item, lowered, marked, moved_to}
use Rattle.inode_map.specs.declared.loaded.LoadedAttr.{LoadedAttr}
use Rattle.inode_map.specs.declared.inode_map.GiveFault.{GiveFault}
use Rattle.inode_map.specs.declared.inode_map.GiveFault.TheVariants.{NoNumber, TooMany, NoMemory}
use Rattle.inode_map.specs.declared.inode_map.Forgot.{Forgot}
use Rattle.inode_map.specs.declared.inode_map.Forgot.TheVariants.{Lowered, Dropped, Bad, Root}

-- The entries of the numbers that were given and not struck, by rising number; the next number; and how many bad
-- forgets came. The loaded attributes, the most recent first, and how many of these there may be. How many numbers can
-- be given without memory, and the files that are remembered, by rising number.
pub record MapState : Type 0 where
  pub entries : List Kept
  pub next : ℕ
  pub bad_items : ℕ
  pub loaded : List LoadedAttr
  pub limit : ℕ
  pub spare : ℕ
  pub remembered : List (ℕ × FileId)

-- the number has an entry with count 0 and no children
abbrev pub is_useless : List Kept → ℕ → Bool
is_useless entries n = option_map_or (λ (kept : Kept). not (is_of_use entries kept)) (entry_of entries n) false

-- the entries without those that have count 0 and no children
abbrev pub struck_once : List Kept → List Kept
struck_once entries = filter (is_of_use entries) entries

-- the entries after this many rounds, each of which strikes all entries with count 0 and no children; what is struck
-- may leave its directory without children, for the next round
abbrev pub struck : ℕ → List Kept → List Kept
struck zero entries = entries
struck (suc rounds) entries = struck rounds (struck_once entries)

-- the entries after rounds until none has count 0 and no children. As many rounds as there are entries are enough,
-- since each round but the last strikes at least one.
abbrev pub left_of_use : List Kept → List Kept
left_of_use entries = struck (length entries) entries

-- why no number can be given for a place: the count of its entry is at the limit; or it has none, and no number is left
abbrev pub give_fault_at : MapState → Option Kept → Option GiveFault
give_fault_at map (Some kept) = if nat_le greatest_count kept.count then Some TooMany else None
give_fault_at map None = if nat_le end_of_numbers map.next then Some NoNumber else None

-- why no number can be given for a name in a directory, if there is a cause other than memory
abbrev pub give_fault : MapState → ℕ → List ℕ → Option GiveFault
give_fault map parent name = give_fault_at map (entry_at map.entries parent name)

-- the number that is given for a name in a directory: the number that the name has, or else the next
abbrev pub number_given : MapState → ℕ → List ℕ → Number
number_given map parent name =
    option_map_or number_of_kept (entry_at map.entries parent name) (record { 0 = map.next })

-- the map after a number was given
abbrev pub given : MapState → Number → List ℕ → MapState
given map parent name =
    if is_some (entry_at map.entries parent.0 name)
    then record map { entries = changed_where (stands_at parent.0 name) once_more map.entries }
    else record map { entries = map.entries ++ new_entry map.next parent name ∷ []; next = map.next + 1; spare = 0 }

-- giving is refused with this fault: the first one; or NoMemory, for a new number only, if there is no other
abbrev pub IsGiveRefusal : MapState → ℕ → List ℕ → GiveFault → Type 0
IsGiveRefusal map parent name NoMemory =
    (entry_at map.entries parent name ≡ None) × (give_fault map parent name ≡ None)
IsGiveRefusal map parent name fault = give_fault map parent name ≡ Some fault

-- the result of a forget
abbrev pub forgot : MapState → ℕ → ℕ → Forgot
forgot map n k =
    if n == 1 then Root
    else if is_bad_item map.entries n k then Bad
    else if is_useless (lowered map.entries n k) n then Dropped
    else Lowered

-- the number of a loaded attribute
abbrev pub loaded_number : LoadedAttr → ℕ
loaded_number loaded = loaded.number.0

-- the map with these entries only; what is loaded or remembered of other numbers is dropped
abbrev pub left_with : List Kept → MapState → MapState
left_with entries map = record map {
  entries = entries;
  loaded = filter (λ (loaded : LoadedAttr). is_kept entries (loaded_number loaded)) map.loaded;
  remembered = filter (λ (file : ℕ × FileId). is_kept entries file.0) map.remembered;
}

-- the map after a forget
abbrev pub forgotten : MapState → ℕ → ℕ → MapState
forgotten map n k =
    if n == 1 then map
    else if is_bad_item map.entries n k then record map { bad_items = min (map.bad_items + 1) (2 ^ 64 - 1) }
    else left_with (left_of_use (lowered map.entries n k)) map

-- the loaded attributes are those of this number
abbrev pub is_loaded_of : ℕ → LoadedAttr → Bool
is_loaded_of n loaded = loaded.number.0 == n

-- the attributes that are loaded, without their number
abbrev pub attr_in : LoadedAttr → Attr
attr_in loaded = loaded.attr

-- the loaded attributes of a number, if any
abbrev pub attr_of : List LoadedAttr → ℕ → Option Attr
attr_of loaded n = option_map attr_in (first_where (is_loaded_of n) loaded)

-- the loaded attributes after those of `n` were used: they become the most recent, if they are loaded
abbrev pub used : List LoadedAttr → ℕ → List LoadedAttr
used loaded n =
    option_map_or (λ (found : LoadedAttr). found ∷ without_where (is_loaded_of n) loaded)
    (first_where (is_loaded_of n) loaded) loaded

-- the loaded attributes after those of `number` were loaded: they become the most recent; at the limit the oldest leave
abbrev pub load : ℕ → List LoadedAttr → Number → Attr → List LoadedAttr
load limit loaded number attr = record { number = number; attr = attr } ∷ take (limit - 1) loaded

-- the loaded attributes without the oldest
abbrev pub without_oldest : List LoadedAttr → List LoadedAttr
without_oldest loaded = take (length loaded - 1) loaded

-- the map after a number lost its name; its directory is struck if it has count 0 and no children, and so is then each
-- directory above it that is left so
abbrev pub unlinked : MapState → ℕ → FileId → MapState
unlinked map n file = left_with (left_of_use (changed_where (has_number n) (marked file) map.entries)) map

-- the entries after another file took a name in a directory from this file; an entry that stood under the name has the
-- mark of its file
abbrev pub displaced : List Kept → ℕ → List ℕ → Option FileId → List Kept
displaced entries parent name (Some file) = changed_where (stands_at parent name) (marked file) entries
displaced entries parent name None = entries

-- the entries after a number moved to a name in a directory, which this file lost
abbrev pub moved : List Kept → ℕ → Number → List ℕ → Option FileId → List Kept
moved entries n parent name file =
    changed_where (has_number n) (moved_to parent name) (displaced entries parent.0 name file)

-- the map after a number moved to a name in a directory, which this file lost. Only then is the directory that the
-- number left struck if it is of no use, and each directory above it. The room for a new number is used up.
abbrev pub relinked : MapState → ℕ → Number → List ℕ → Option FileId → MapState
relinked map n parent name file =
    record (left_with (left_of_use (moved map.entries n parent name file)) map) { spare = 0 }

-- the entry at a place, if there is one, may give way to that of number `n`: it is another, nothing stands in its
-- directory, and its file is given
abbrev pub MayGiveWay : List Kept → ℕ → Option FileId → Option Kept → Type 0
MayGiveWay entries n (Some file) (Some kept) =
    (kept.number.0 ≡ n → ⊥) × (list_any (is_kid_of kept.number.0) entries ≡ false)
MayGiveWay entries n None (Some kept) = ⊥
MayGiveWay entries n file None = Unit {0}

-- a map with these entries, of which these files are remembered, one for each, and nothing is loaded
abbrev pub map_of : List Kept → List FileId → ℕ → ℕ → MapState
map_of entries files next limit =
    record {
      entries = entries;
      next = next;
      bad_items = 0;
      loaded = [];
      limit = limit;
      spare = 0;
      remembered = by_number entries files;
    }

-- the map before any number was given; it knows the root, which is no entry
abbrev pub new_map : ℕ → MapState
new_map limit = map_of [] [] 2 limit
