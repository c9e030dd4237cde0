-- What the private functions that answer a request promise: how each of them changes what a daemon knows.
use Rattle.std.specs.Prelude.{◌≡◌, ◌≢◌, ℕ, ◌<◌, ◌≤◌, ◌⊎◌, Bool, true, false, IsSome, List, Option, Some, None, Result, Ok, Err, if◌then◌else◌}
use Rattle.std.specs.Option.{option_map}
use Rattle.eden_base.specs.Limits.{end_of_numbers}
use Rattle.eden_base.specs.Name.{IsNameText}
use Rattle.eden_base.specs.declared.attr.Kind.{Kind}
use Rattle.eden_base.specs.declared.attr.Kind.TheVariants.{Dir, File, Link}
use Rattle.eden_base.specs.declared.attr.MadeKind.{MadeKind}
use Rattle.eden_base.specs.declared.attr.Perm.{Perm}
use Rattle.eden_base.specs.declared.attr.Attr.{Attr}
use Rattle.eden_base.specs.declared.errno.Errno.{Errno}
use Rattle.eden_base.specs.declared.errno.Errno.TheVariants.{ESTALE, ENOTDIR, ENOSPC, EOVERFLOW, EIO, ENOMEM}
use Rattle.eden_base.specs.declared.number.FileId.{FileId}
use Rattle.eden_base.specs.declared.number.Number.{Number}
use Rattle.manifest.specs.Tree.{Tree, IsTree, StandsIn, child_of, file_of, kind_of, root}
use Rattle.checkout.specs.ChangedTree.{attr_of, next_file, created, removed}
use Rattle.fuse_wire.specs.DirectoryEntries.{Dirent, Listed, entries_text}
use Rattle.fuse_wire.specs.declared.request.Request.{Request}
use Rattle.fuse_wire.specs.declared.reply.Answer.{Answer}
use Rattle.fuse_wire.specs.declared.reply.Answer.TheVariants.{Entry, Attrs, Done, Error}
use Rattle.inode_map.specs.InodeMap.{IsGiveRefusal, give_fault, given, number_given}
use Rattle.inode_map.specs.declared.inode_map.GiveFault.{GiveFault}
use Rattle.inode_map.specs.declared.inode_map.GiveFault.TheVariants.{NoNumber, TooMany, NoMemory}
use Rattle.checkout.specs.RenamedTree.{renamed}
use Rattle.entry_table.specs.Entries.{IsFileOf}
use Rattle.fuse_ops.specs.Answers.{Answers, AnswersListed, reads_from, one_moved, Effect, found_in, free_in, unless, movable, against_replacing, is_there, moves_between, move_name}
use Rattle.fuse_ops.specs.Extents.{Reading}
use Rattle.fuse_ops.specs.Listing.{IsEnd, IsFirstEntry, Lists, range_of}
use Rattle.fuse_ops.specs.Served.{ServedState, IsInode, IsLocated, IsUnloaded, numbers_at, plain, name_taken, name_moved, names_changed}
use Rattle.fuse_ops.specs.declared.served.Found.{Found}
use Rattle.fuse_ops.specs.declared.served.Linkage.{Linkage}
use Rattle.fuse_ops.specs.declared.served.Linkage.TheVariants.{Linked, Unlinked}
use Rattle.fuse_ops.specs.declared.served.moves.Movable.{Movable}

-- this is the directory that a number names, with the file under a name in it, or the error if there is no such file
abbrev pub IsFoundAs : Tree → Option FileId → List ℕ → Result Found Errno → Type 0
IsFoundAs tree dir name (Ok found) =
    (dir ≡ Some found.dir) × (found_in tree dir name ≡ Ok found.file) × IsSome (file_of tree found.file)
IsFoundAs tree dir name (Err errno) = found_in tree dir name ≡ Err errno

-- no name leads to a file of this linkage
abbrev pub lacks_name : Linkage → Bool
lacks_name Linked = false
lacks_name Unlinked = true

-- this was found: the directory that a number names, with the file under a name in it, or the error
pub record Finds (served : ServedState) (dir : ℕ) (name : List ℕ) (told : Result Found Errno) : Type 0 where
  pub dir_file : Option FileId
  pub located : IsLocated served dir dir_file
  pub found : IsFoundAs served.tree dir_file name told

-- the error for the cause why no number can be given
abbrev pub errno_of : GiveFault → Errno
errno_of NoNumber = ENOSPC
errno_of TooMany = EOVERFLOW
errno_of NoMemory = ENOMEM

-- no number, count, place or tree changed, and no forget was bad
pub record IsSamePlainly (old new : ServedState) : Type 0 where
  pub plainly : plain new ≡ plain old
  pub bad_items : new.map.bad_items ≡ old.map.bad_items

-- this error is answered for a file that was found: its number can't be given, or else the backing failed for the file
abbrev pub IsEntryRefusal : ServedState → Number → List ℕ → FileId → Errno → Type 0
IsEntryRefusal old dir name file errno =
    ((fault : GiveFault) × IsGiveRefusal old.map dir.0 name fault × (errno ≡ errno_of fault))
    ⊎ ((errno ≡ EIO) × (give_fault old.map dir.0 name ≡ None) × IsUnloaded old file)

-- if the backing is asked, then what is known of it beforehand decides whether EIO is answered
pub record IsAsKnown (Asks : Type 0) (answer : Answer) (will_answer : Option Bool) : Type 0 where
  pub failing : will_answer ≡ Some false → Asks → answer ≡ Error EIO
  pub answering : will_answer ≡ Some true → answer ≢ Error EIO

-- this is the answer for a file that was found, and what the daemon knows after it
abbrev pub GivesEntry : ServedState → Number → List ℕ → FileId → Answer → ServedState → Type 0
GivesEntry old dir name file (Entry number attr) new =
    (give_fault old.map dir.0 name ≡ None) × (number ≡ number_given old.map dir.0 name)
    × (attr_of old.tree file ≡ Some attr)
    × IsSamePlainly (record old { map = given old.map dir name }) new
GivesEntry old dir name file (Error errno) new = IsEntryRefusal old dir name file errno × (new ≡ old)
GivesEntry old dir name file answer new = ⊥

-- an error is answered as it is; for a file, its number is given
abbrev pub GivesFound : ServedState → Number → List ℕ → Result FileId Errno → Answer → ServedState → Type 0
GivesFound old dir name (Ok file) answer new = GivesEntry old dir name file answer new
GivesFound old dir name (Err errno) answer new = (answer ≡ Error errno) × (new ≡ old)

-- this is the answer to a lookup, and what the daemon knows after it
pub record LooksUp (old : ServedState) (dir : Number) (name : List ℕ) (answer : Answer)
    (new : ServedState) : Type 0 where
  pub dir_file : Option FileId
  pub located : IsLocated old dir.0 dir_file
  pub gives : GivesFound old dir name (found_in old.tree dir_file name) answer new

-- this is an answer with the attributes of the file that a number names, if any; the backing may fail if it isn't
-- loaded
abbrev pub ShowsFile : ServedState → Number → Option FileId → Answer → Type 0
ShowsFile served node (Some file) answer =
    ((attr : Attr) × (attr_of served.tree file ≡ Some attr) × (answer ≡ Attrs node attr))
    ⊎ ((answer ≡ Error EIO) × IsUnloaded served file)
ShowsFile served node None answer = answer ≡ Error ESTALE

-- this is an answer to a GETATTR
pub record Shows (served : ServedState) (node : Number) (answer : Answer) : Type 0 where
  pub file : Option FileId
  pub located : IsLocated served node.0 file
  pub shows : ShowsFile served node file answer

-- this is an answer with part of a directory, which has this kind, or the error for a file that is no directory
abbrev pub ListsKind : ServedState → FileId → ℕ → ℕ → Option Kind → Answer → Type 0
ListsKind served dir offset size (Some Dir) answer =
    AnswersListed (IsInode served) served.tree (range_of dir offset size) answer
ListsKind served dir offset size (Some File) answer = answer ≡ Error ENOTDIR
ListsKind served dir offset size (Some Link) answer = answer ≡ Error ENOTDIR
ListsKind served dir offset size None answer = answer ≡ Error ENOTDIR

-- this is an answer with part of the directory that a number names, if it names one
abbrev pub ListsFile : ServedState → Option FileId → ℕ → ℕ → Answer → Type 0
ListsFile served (Some dir) offset size answer =
    ListsKind served dir offset size (kind_of served.tree dir) answer
ListsFile served None offset size answer = answer ≡ Error ESTALE

-- this is an answer to a READDIR
pub record ListsDir (served : ServedState) (dir : Number) (offset size : ℕ) (answer : Answer) : Type 0 where
  pub dir_file : Option FileId
  pub located : IsLocated served dir.0 dir_file
  pub lists : ListsFile served dir_file offset size answer

-- this is an answer to a request that reads the file that a number names
pub record Reads (served : ServedState) (request : Request) (node : Number) (reading : Reading)
    (answer : Answer) : Type 0 where
  pub file : Option FileId
  pub located : IsLocated served node.0 file
  pub answers : Answers (numbers_at served None) request (reads_from served.tree file reading) answer

-- this is the first entry of a directory from a position on, if there is one
abbrev pub IsNextEntry : ServedState → FileId → ℕ → Option Dirent → Type 0
IsNextEntry served dir from (Some entry) = IsFirstEntry (IsInode served) served.tree dir from entry
IsNextEntry served dir from None = IsEnd served.tree dir from

-- the bytes are those of the entries of a directory from a position on, as many as have room
pub record IsFilled (served : ServedState) (dir : FileId) (from : ℕ) (listing : Listed) : Type 0 where
  pub entries : List Dirent
  pub lists : Lists (IsInode served) served.tree dir from listing.room entries
  pub bytes : listing.bytes ≡ entries_text entries

-- the file stands directly above a directory, as the root does above itself
abbrev pub IsAbove : Tree → FileId → FileId → Type 0
IsAbove tree dir file = StandsIn tree.links dir file ⊎ ((dir ≡ root) × (file ≡ root))

-- a number names the file that stands directly above a directory
pub record NamesAbove (served : ServedState) (dir : FileId) (n : ℕ) : Type 0 where
  pub file : FileId
  pub names : IsFileOf served.tree served.map.entries n file
  pub above : IsAbove served.tree dir file

-- the next number is not made ready for this cause: no number is left, or memory was refused
abbrev pub IsNextRefusal : ℕ → Errno → Type 0
IsNextRefusal next errno =
    ((errno ≡ ENOSPC) × (end_of_numbers ≤ next)) ⊎ ((errno ≡ ENOMEM) × (next < end_of_numbers))

-- A file is made under a free name: its number and attributes are returned, and the daemon knows them. Or the error is
-- returned for which it isn't made, and what the daemon knows stays.
abbrev pub MakesFile : ServedState → Number → List ℕ → FileId → Tree → Result (Number × Attr) Errno → ServedState →
    Type 0
MakesFile old dir name file tree (Ok (number, attr)) new =
    (give_fault old.map dir.0 name ≡ None) × (number ≡ number_given old.map dir.0 name)
    × (attr_of tree file ≡ Some attr) × IsNameText name
    × IsSamePlainly (record { map = given old.map dir name; tree = tree }) new
MakesFile old dir name file tree (Err errno) new =
    ((fault : GiveFault) × IsGiveRefusal old.map dir.0 name fault × (errno ≡ errno_of fault)) × IsSamePlainly old new

-- an error is returned as it is; in a directory a file is made
abbrev pub MakesIn : ServedState → Number → List ℕ → MadeKind → Perm → Result FileId Errno → Result (Number × Attr) Errno →
    ServedState → Type 0
MakesIn old dir name kind perm (Ok above) told new =
    MakesFile old dir name (next_file old.tree) (created old.tree above name kind perm) told new
MakesIn old dir name kind perm (Err errno) told new = (told ≡ Err errno) × IsSamePlainly old new

-- a file is made under a name in the directory that a number names, or this error is returned
pub record Makes (old : ServedState) (dir : Number) (name : List ℕ) (kind : MadeKind) (perm : Perm)
    (told : Result (Number × Attr) Errno) (new : ServedState) : Type 0 where
  pub dir_file : Option FileId
  pub located : IsLocated old dir.0 dir_file
  pub makes : MakesIn old dir name kind perm (free_in old.tree dir_file name) told new

-- this is the directory that a number names, if a name is free in it, or the error
pub record IsFree (served : ServedState) (dir : ℕ) (name : List ℕ) (told : Result FileId Errno) : Type 0 where
  pub dir_file : Option FileId
  pub located : IsLocated served dir dir_file
  pub free : free_in served.tree dir_file name ≡ told

-- a name was taken out of the directory that a number names
abbrev pub NameIsTaken : ServedState → Number → FileId → List ℕ → ServedState → Type 0
NameIsTaken old number dir name new =
    (file : FileId) × (child_of old.tree dir name ≡ Some file)
    × (new ≡ record { map = name_taken old.map number name file; tree = removed old.tree dir name })

-- an error is answered as it is; otherwise the name is taken away
abbrev pub TakesName : ServedState → Number → Option FileId → List ℕ → Result FileId Errno → Answer → ServedState →
    Type 0
TakesName old dir (Some above) name (Ok file) answer new =
    (answer ≡ Done)
    × (new ≡ record { map = name_taken old.map dir name file; tree = removed old.tree above name })
TakesName old dir None name (Ok file) answer new = ⊥
TakesName old dir above name (Err errno) answer new = (answer ≡ Error errno) × (new ≡ old)

-- this is the answer to a move of a name, by what the move comes to, and what the daemon knows after it; for a lack of
-- memory nothing changes
abbrev pub MovesName : ServedState → Number → List ℕ → Number → List ℕ → Result Effect Errno → Answer → ServedState →
    Type 0
MovesName old dir name to_dir to_name (Ok effect) answer new =
    ((answer ≡ Done) × IsTree effect.tree
    × IsSamePlainly
    (record { map = names_changed old.map (move_name dir name to_dir to_name) effect.names; tree = effect.tree }) new)
    ⊎ ((answer ≡ Error ENOMEM) × (replaced : Option FileId) × (effect.names ≡ one_moved replaced)
    × IsSamePlainly old new)
MovesName old dir name to_dir to_name (Err errno) answer new = (answer ≡ Error errno) × IsSamePlainly old new

-- a name moves to another name in the directory of this or another number, or this error is answered
pub record Moves (old : ServedState) (dir : Number) (name : List ℕ) (to_dir : Number) (to_name : List ℕ)
    (answer : Answer) (new : ServedState) : Type 0 where
  pub dir_file : Option FileId
  pub to_file : Option FileId
  pub located : IsLocated old dir.0 dir_file
  pub to_located : IsLocated old to_dir.0 to_file
  pub moves : MovesName old dir name to_dir to_name (moves_between old.tree dir_file name to_file to_name) answer new

-- a name is taken away from its file, if nothing forbids that, or this error is answered
pub record Takes (old : ServedState) (dir : Number) (name : List ℕ) (against : FileId → Option Errno)
    (answer : Answer) (new : ServedState) : Type 0 where
  pub dir_file : Option FileId
  pub located : IsLocated old dir.0 dir_file
  pub takes : TakesName old dir dir_file name (unless against (found_in old.tree dir_file name)) answer new

-- these are the directories that two numbers name, with the file under a name in the first, if it may move into the
-- second; or the error, whatever name it would get there
abbrev pub IsMovableAs : Tree → Option FileId → List ℕ → Option FileId → Result Movable Errno → Type 0
IsMovableAs tree dir name to_dir (Ok found) =
    (dir ≡ Some found.dir) × (to_dir ≡ Some found.to_dir) × (movable tree found.dir name found.to_dir ≡ Ok found.file)
IsMovableAs tree dir name to_dir (Err errno) =
    (to_name : List ℕ) → moves_between tree dir name to_dir to_name ≡ Err errno

-- this was found: two directories and a file that may move from the first into the second, or the error
pub record FindsMovable (served : ServedState) (dir : ℕ) (name : List ℕ) (to_dir : ℕ)
    (told : Result Movable Errno) : Type 0 where
  pub dir_file : Option FileId
  pub to_file : Option FileId
  pub located : IsLocated served dir dir_file
  pub to_located : IsLocated served to_dir to_file
  pub found : IsMovableAs served.tree dir_file name to_file told

-- the answer to a move for which nothing has to be done: the file is there already, or may not take the name of what is
abbrev pub at_once : Tree → Movable → List ℕ → Option Answer
at_once tree found to_name =
    if is_there (child_of tree found.to_dir to_name) found.file then Some Done
    else option_map (λ (errno : Errno). Error errno)
    (against_replacing tree found.file (child_of tree found.to_dir to_name))

-- two numbers name directories, and a file may move from a name in the first to a name in the second
pub record MayTakeName (served : ServedState) (dir : Number) (found : Movable) (name : List ℕ) (to_dir : Number)
    (to_name : List ℕ) : Type 0 where
  pub at : IsFileOf served.tree served.map.entries dir.0 found.dir
  pub to_at : IsFileOf served.tree served.map.entries to_dir.0 found.to_dir
  pub movable : movable served.tree found.dir name found.to_dir ≡ Ok found.file
  pub waits : at_once served.tree found to_name ≡ None

-- a file moved from a name in the directory of a number to a name in that of another
abbrev pub NameIsMoved : ServedState → Number → Movable → List ℕ → Number → List ℕ → ServedState → Type 0
NameIsMoved old dir found name to_dir to_name new =
    new ≡ record {
      map = name_moved old.map dir name to_dir to_name (child_of old.tree found.to_dir to_name);
      tree = renamed old.tree found.dir name found.to_dir to_name;
    }
