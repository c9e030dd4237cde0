-- A directory that is listed by several READDIRs, with any moves of the world between them. What stands in the directory
-- throughout is given once, and nothing twice (readdir(3)).
use Rattle.std.specs.Prelude.{◌≡◌, ◌⊎◌, ℕ, ◌+◌, ◌<◌, ◌≤◌, min, Bool, true, false, List, [], ◌∷◌, ◌++◌, Some}
use Rattle.std.specs.Option.{option_map}
use Rattle.eden_base.specs.First.{first_where}
use Rattle.eden_base.specs.declared.number.FileId.{FileId}
use Rattle.eden_base.specs.declared.number.Number.{Number}
use Rattle.manifest.specs.Tree.{StandsIn}
use Rattle.fuse_wire.specs.DirectoryEntries.{Dirent, entries_text}
use Rattle.fuse_wire.specs.declared.request.Ask.{Ask}
use Rattle.fuse_wire.specs.declared.request.Request.TheVariants.{Readdir}
use Rattle.fuse_wire.specs.declared.reply.Answer.{Answer}
use Rattle.fuse_wire.specs.declared.reply.Answer.TheVariants.{Buffer}
use Rattle.fuse_ops.specs.Listing.{IsEnd, Lists}
use Rattle.world.specs.World.{World, IsInode, Move, work, is_asked, file_named, after, after_all}

-- ---- one READDIR

-- under this unique, part of the directory that a number names is asked for, from this position on
pub record IsAskedFrom (world : World) (unique : ℕ) (dir : FileId) (from size : ℕ) : Type 0 where
  pub node : Number
  pub asked : option_map (λ (ask : Ask). ask.what) (first_where (is_asked unique) world.asks)
      ≡ Some (Readdir node from size)
  pub names : file_named world.names node.0 ≡ Some dir

-- by this answer to it these entries are given
pub record GivesEntries (world : World) (unique : ℕ) (answer : Answer) (dir : FileId) (from : ℕ)
    (entries : List Dirent) : Type 0 where
  pub size : ℕ
  pub asked : IsAskedFrom world unique dir from size
  pub bytes : answer ≡ Buffer (entries_text entries)
  pub lists : Lists (IsInode world) world.tree dir from (min size 65512) entries

-- by this move these entries of a directory are given, from a position on
abbrev pub Gives : World → Move → FileId → ℕ → List Dirent → Type 0
Gives world (work unique answer) dir from entries = GivesEntries world unique answer dir from entries
Gives world move dir from entries = ⊥

-- where a READDIR is answered by bytes, they are those of entries
abbrev pub GivesIfAsked : World → Move → Type 0
GivesIfAsked world (work unique answer) =
    (bytes : List ℕ) (dir : FileId) (from size : ℕ) → answer ≡ Buffer bytes →
    IsAskedFrom world unique dir from size →
    (entries : List Dirent) × GivesEntries world unique answer dir from entries
GivesIfAsked world move = Unit {0}

-- so it is at each move of a run
abbrev pub EachGives : World → List Move → Type 0
EachGives world [] = Unit {0}
EachGives world (move ∷ moves) = GivesIfAsked world move × EachGives (after world move) moves

-- ---- several of them

-- the position behind the last of these entries, which begin at a position
abbrev pub behind : ℕ → List Dirent → ℕ
behind from [] = from
behind from (entry ∷ entries) = behind entry.next entries

-- A directory is listed from a position on, at some moves of a run. At each of them the reader takes the first of the
-- entries that are given, and goes on behind the last that it took. It stops at any time, or if `whole` when a READDIR
-- found nothing left. These are the entries that it took.
abbrev pub ListsOver : FileId → Bool → World → ℕ → List Move → List Dirent → Type 0
ListsOver dir whole world from [] entries = (whole ≡ false) × (entries ≡ [])
ListsOver dir whole world from (move ∷ moves) entries =
    ListsOver dir whole (after world move) from moves entries
    ⊎ (Gives world move dir from [] × IsEnd world.tree dir from × (entries ≡ []))
    ⊎ ((here : List Dirent) × (left : List Dirent) × (later : List Dirent) × Gives world move dir from (here ++ left)
    × ListsOver dir whole (after world move) (behind from here) moves later × (entries ≡ here ++ later))

-- the file stands in the directory before and after each move of a run
abbrev pub StaysIn : FileId → FileId → World → List Move → Type 0
StaysIn dir file world [] = StandsIn world.tree.links file dir
StaysIn dir file world (move ∷ moves) =
    StandsIn world.tree.links file dir × StaysIn dir file (after world move) moves

-- the positions of entries rise, so that none is there twice
abbrev pub AreRising : ℕ → List Dirent → Type 0
AreRising from [] = Unit {0}
AreRising from (entry ∷ entries) = (from < entry.next) × AreRising entry.next entries

-- one of the entries is that of the file, which stands at the file's id
abbrev pub IsAmong : FileId → List Dirent → Type 0
IsAmong file [] = ⊥
IsAmong file (entry ∷ entries) = (entry.next ≡ file.0 + 1) ⊎ IsAmong file entries

-- these moves are part of a run, and this is the world before them
pub record IsPart (world : World) (moves : List Move) (opening : World) (part : List Move) : Type 0 where
  pub before : List Move
  pub later : List Move
  pub parts : moves ≡ before ++ part ++ later
  pub opens : opening ≡ after_all world before

-- Each READDIR of a run is answered by entries or an error. Of a listing over any part of the run, whatever else happens
-- there, no entry is there twice. If nothing was left at its end, each file is among its entries that stays in the
-- directory over that part. (The root, file 1, stands in no directory.)
pub record ListingsAreWhole (world : World) (moves : List Move) : Type 0 where
  pub given : EachGives world moves
  pub once : (opening : World) (part : List Move) (dir : FileId) (whole : Bool) (entries : List Dirent) →
      IsPart world moves opening part → ListsOver dir whole opening 0 part entries → AreRising 0 entries
  pub all : (opening : World) (part : List Move) (dir file : FileId) (entries : List Dirent) → 2 ≤ file.0 →
      IsPart world moves opening part → ListsOver dir true opening 0 part entries → StaysIn dir file opening part →
      IsAmong file entries
