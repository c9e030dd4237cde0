-- What a daemon serves: its numbers and the tree of its checkout; and how a request and its answer change this.
-- (EdenFS's documents on inode lifetime; libfuse's rules for lookup counts, `fuse_lowlevel.h`.)
use Rattle.std.specs.Prelude.{◌≡◌, ℕ, ◌<◌, ◌⊎◌, max, true, false, List, [], ◌∷◌, MatchOption, Option, Some, None, Result}
use Rattle.std.specs.Option.{option_map_or}
use Rattle.std.specs.List.{AllByRecursion}
use Rattle.eden_base.specs.declared.number.FileId.{FileId}
use Rattle.eden_base.specs.declared.number.Number.{Number}
use Rattle.manifest.specs.Manifest.{Manifest}
use Rattle.manifest.specs.Tree.{Tree, IsTree, tree_of}
use Rattle.fuse_wire.specs.Request.{is_ask, items_of}
use Rattle.fuse_wire.specs.Given.{given_out}
use Rattle.fuse_wire.specs.declared.request.Request.{Request}
use Rattle.fuse_wire.specs.declared.item.Item.{Item}
use Rattle.fuse_wire.specs.declared.reply.Answer.{Answer}
use Rattle.eden_base.specs.declared.errno.Errno.{Errno}
use Rattle.entry_table.specs.Entries.{IsFileOf, count_of, entry_at}
use Rattle.inode_map.specs.InodeMap.{MapState, map_of, new_map, attr_of, give_fault, given, number_given, forgotten, unlinked, relinked}
use Rattle.entry_table.specs.declared.kept.Kept.{Kept}
use Rattle.inode_map.specs.declared.inode_map.GiveFault.{GiveFault}
use Rattle.inode_map.specs.declared.inode_map.GiveFault.TheVariants.{NoNumber, TooMany, NoMemory}
use Rattle.fuse_ops.specs.Answers.{NumberFault, none_left, at_greatest, NameChange, one_lost, one_moved, Numbers, Effect, IsBacked, Deed, find_name, make_file, take_name, move_name, deed_of, looks_at, comes_to, Answers, tree_after, name_change}

-- the numbers that a daemon gave, and the tree of its checkout
pub record ServedState : Type 0 where
  pub map : MapState
  pub tree : Tree

-- the part of what a daemon serves that does not depend on what is loaded, remembered or made ready: the numbers with
-- place and count, the next number, and the tree
pub record PlainState : Type 0 where
  pub entries : List Kept
  pub next : ℕ
  pub tree : Tree

-- the plain state of what a daemon serves
abbrev pub plain : ServedState → PlainState
plain served = record { entries = served.map.entries; next = served.map.next; tree = served.tree }

-- what a daemon serves when it begins to serve a checkout; its limit of loaded attributes is at least 1
abbrev pub new_served : Manifest → ℕ → ServedState
new_served manifest limit = record { map = new_map (max limit 1); tree = tree_of manifest }

-- what a daemon serves when it begins to serve a tree with numbers that were given before, and remembers these files of
-- them, one for each
abbrev pub served_of : List Kept → List FileId → ℕ → ℕ → Tree → ServedState
served_of entries files next limit tree =
    record { map = map_of entries files next (max limit 1); tree = tree }

-- this is the file that a number names for this daemon, or None if it names none
abbrev pub IsLocated : ServedState → ℕ → Option FileId → Type 0
IsLocated served n found =
    MatchOption found ((file : FileId) → IsFileOf served.tree served.map.entries n file → ⊥)
    (IsFileOf served.tree served.map.entries n)

-- `files` says which file each number names for this daemon, for the numbers that are looked at for a request
abbrev pub Locates : ServedState → Request → (ℕ → Option FileId) → Type 0
Locates served request files =
    AllByRecursion (λ (node : Number). IsLocated served node.0 (files node.0)) (looks_at request)

-- the directory and the name whose number a deed gives out when it succeeds, if it answers with an entry
abbrev pub place_entered : Deed → Option (Number × List ℕ)
place_entered (find_name dir name) = Some (dir, name)
place_entered (make_file dir name kind perm) = Some (dir, name)
place_entered deed = None

-- the directory and the name whose number a request gives out when it succeeds, if it is answered with an entry
abbrev pub place_told : Request → Option (Number × List ℕ)
place_told request = place_entered (deed_of request)

-- the table's word for the cause why a number is not given; none for a lack of memory
abbrev pub number_fault : Option GiveFault → Option NumberFault
number_fault (Some NoNumber) = Some none_left
number_fault (Some TooMany) = Some at_greatest
number_fault (Some NoMemory) = None
number_fault None = None

-- a regular file of the manifest for which nothing is loaded, so that only the backing can tell its attributes
abbrev pub IsUnloaded : ServedState → FileId → Type 0
IsUnloaded served file =
    IsBacked served.tree file
    × ((n : ℕ) → IsFileOf served.tree served.map.entries n file → attr_of served.map.loaded n ≡ None)

-- a number is live for a daemon: it is the root's, or the kernel holds it, as far as the daemon knows
abbrev pub IsLive : ServedState → ℕ → Type 0
IsLive served n = (n ≡ 1) ⊎ (0 < count_of served.map.entries n)

-- the inode number that an entry tells of a file of which no number is live (libfuse's `FUSE_UNKNOWN_INO`)
abbrev pub unknown_inode : ℕ
unknown_inode = 4294967295

-- the inode number by which an entry tells a file: the file's live number, if it has one
abbrev pub IsInode : ServedState → FileId → ℕ → Type 0
IsInode served file n =
    (IsLive served n × IsFileOf served.tree served.map.entries n file)
    ⊎ ((n ≡ unknown_inode)
    × ((m : ℕ) → IsLive served m → IsFileOf served.tree served.map.entries m file → ⊥))

-- how a daemon reads the table: its map says which number a place has, and which a file; its backing may fail for a file
-- that isn't loaded; and only a new number takes memory
abbrev pub numbers_at : ServedState → Option (Number × List ℕ) → Numbers
numbers_at served (Some (dir, name)) = record {
  IsAgainst = λ file fault. fault ≡ number_fault (give_fault served.map dir.0 name);
  IsNumber = λ file n. n ≡ (number_given served.map dir.0 name).0;
  MayFail = IsUnloaded served;
  MayWant = λ file. entry_at served.map.entries dir.0 name ≡ None;
  IsInode = IsInode served;
}
numbers_at served None = record {
  IsAgainst = λ file fault. ⊥;
  IsNumber = λ file n. ⊥;
  MayFail = IsUnloaded served;
  MayWant = λ file. ⊥;
  IsInode = IsInode served;
}

-- the map after an answer: the number that is given out, if any, is counted once more
abbrev pub map_after : MapState → Option (Number × List ℕ) → Option Number → MapState
map_after map (Some (dir, name)) (Some number) = given map dir name
map_after map place number = map

-- the map after a place lost its name: the number at that place, if any, names the file by a mark
abbrev pub name_taken : MapState → Number → List ℕ → FileId → MapState
name_taken map dir name file =
    option_map_or (λ (kept : Kept). unlinked map kept.number.0 file) (entry_at map.entries dir.0 name) map

-- the map after a file moved from a name in a directory to another name, which this file lost, if one did: the number of
-- the first name, if it has one, has the new name, and that of the file that lost it names this file by a mark
abbrev pub name_moved : MapState → Number → List ℕ → Number → List ℕ → Option FileId → MapState
name_moved map dir name to_dir to_name file =
    option_map_or (λ (kept : Kept). relinked map kept.number.0 to_dir to_name file)
    (entry_at map.entries dir.0 name)
    (option_map_or (name_taken map to_dir to_name) file map)

-- the map after a deed by which this became of the names that there were
abbrev pub names_changed : MapState → Deed → NameChange → MapState
names_changed map (take_name dir name kind) (one_lost file) = name_taken map dir name file
names_changed map (move_name dir name to_dir to_name) (one_moved replaced) =
    name_moved map dir name to_dir to_name replaced
names_changed map deed change = map

-- what the daemon knows after an answer
abbrev pub served_after : ServedState → Request → Result Effect Errno → Answer → ServedState
served_after old request result answer = record {
  map = names_changed (map_after old.map (place_told request) (given_out answer)) (deed_of request)
      (name_change result answer);
  tree = tree_after old.tree result answer;
}

-- this is a legal answer to an ask, and this is what the daemon knows after it
pub record IsLegal (old : ServedState) (request : Request) (answer : Answer) (new : ServedState) : Type 0 where
  pub files : ℕ → Option FileId
  pub locates : Locates old request files
  pub answers : Answers (numbers_at old (place_told request)) request (comes_to old.tree files request) answer
  pub makes : plain new ≡ plain (served_after old request (comes_to old.tree files request) answer)
  pub bad_items : new.map.bad_items ≡ old.map.bad_items
  -- files and links are still a tree
  pub keeps_tree : IsTree old.tree → IsTree new.tree

-- the map after each item was forgotten by itself, in order
abbrev pub forgotten_all : MapState → List Item → MapState
forgotten_all map [] = map
forgotten_all map (item ∷ items) = forgotten_all (forgotten map item.node.0 item.k) items

-- one step by a record of a request and its answer: an ask is answered legally, a forget is not answered
abbrev pub Replay : ServedState → Request → Option Answer → ServedState → Type 0
Replay old request (Some answer) new = (is_ask request ≡ true) × IsLegal old request answer new
Replay old request None new =
    (is_ask request ≡ false) × (new ≡ record old { map = forgotten_all old.map (items_of request) })
