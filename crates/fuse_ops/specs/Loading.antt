-- Where the attributes of a file come from, and which of them stay loaded. (EdenFS's inodes and backing stores; which
-- number a request loads is this project's own.)
use Rattle.std.specs.Prelude.{◌≡◌, ◌≢◌, ℕ, ◌<◌, ◌==◌, ◌⊎◌, Bool, true, false, List, Option, Some, None, is_some, Ok, if◌then◌else◌}
use Rattle.eden_base.specs.declared.attr.Attr.{Attr}
use Rattle.eden_base.specs.declared.attr.Kind.TheVariants.{File}
use Rattle.eden_base.specs.declared.errno.Errno.TheVariants.{EIO}
use Rattle.eden_base.specs.declared.number.FileId.{FileId}
use Rattle.eden_base.specs.declared.number.Number.{Number}
use Rattle.manifest.specs.Tree.{Tree, file_of, tree_of}
use Rattle.manifest.specs.declared.content.Content.{Content}
use Rattle.fuse_wire.specs.Request.{items_of}
use Rattle.fuse_wire.specs.declared.request.Request.{Request}
use Rattle.fuse_wire.specs.declared.reply.Answer.{Answer}
use Rattle.fuse_wire.specs.declared.reply.Answer.TheVariants.{Entry, Opened, Attrs, Done, Buffer, Extent, Error}
use Rattle.entry_table.specs.Entries.{IsFileOf}
use Rattle.inode_map.specs.InodeMap.{MapState, attr_of, give_fault, load, used}
use Rattle.inode_map.specs.declared.loaded.LoadedAttr.{LoadedAttr}
use Rattle.fuse_ops.specs.Answers.{Deed, find_name, take_name, move_name, show_file, deed_of, found_in}
use Rattle.fuse_ops.specs.Served.{ServedState, IsUnloaded, name_taken, name_moved, forgotten_all}

-- ---- the backing

-- the backing holds each regular file of the tree's manifest, as the manifest says it
abbrev pub Backs : (FileId → Option Content) → Tree → Type 0
Backs content tree = (file : FileId) (f : Content) →
    file_of (tree_of tree.manifest) file ≡ Some f → f.kind ≡ File → content file ≡ Some f

-- the backing failed in a call exactly if EIO is answered
pub record FailsAs (answer : Option Answer) (before after : ℕ) : Type 0 where
  pub eio : answer ≡ Some (Error EIO) → before < after
  pub answered : (answer ≡ Some (Error EIO) → ⊥) → after ≡ before

-- ---- which requests ask the backing

-- a name leads to a file that isn't loaded, and nothing forbids to give its number
pub record FindsUnloaded (served : ServedState) (dir : Number) (name : List ℕ) : Type 0 where
  pub above : FileId
  pub file : FileId
  pub located : IsFileOf served.tree served.map.entries dir.0 above
  pub found : found_in served.tree (Some above) name ≡ Ok file
  pub clear : give_fault served.map dir.0 name ≡ None
  pub unloaded : IsUnloaded served file

-- a number names a file that isn't loaded
pub record ShowsUnloaded (served : ServedState) (node : Number) : Type 0 where
  pub file : FileId
  pub located : IsFileOf served.tree served.map.entries node.0 file
  pub unloaded : IsUnloaded served file

-- the backing is asked for this deed: to find a name or to show a file, if the file isn't loaded; one row a deed
abbrev pub AsksFor : ServedState → Deed → Type 0
AsksFor served (find_name dir name) = FindsUnloaded served dir name
AsksFor served (show_file node) = ShowsUnloaded served node
AsksFor served deed = ⊥

-- the backing is asked for this request
abbrev pub AsksBacking : ServedState → Request → Type 0
AsksBacking served request = AsksFor served (deed_of request)

-- EIO is answered only if the backing is asked. A backing that is known to fail is then always answered with EIO, and
-- one that is known to answer never.
pub record AsksAs (served : ServedState) (request : Request) (answer : Option Answer)
    (will_answer : Option Bool) : Type 0 where
  pub eio : answer ≡ Some (Error EIO) → AsksBacking served request
  pub failing : will_answer ≡ Some false → AsksBacking served request → answer ≡ Some (Error EIO)
  pub answering : will_answer ≡ Some true → answer ≢ Some (Error EIO)

-- ---- what is loaded

-- The loaded attributes after these were told for a number. Those that are loaded for the number become the most
-- recent. If none are, these are loaded as the most recent, and at the limit the oldest are dropped. The root's are
-- never loaded.
abbrev pub loaded_told : MapState → Number → Attr → List LoadedAttr
loaded_told map number attr =
    if number.0 == 1 then map.loaded
    else if is_some (attr_of map.loaded number.0) then used map.loaded number.0
    else load map.limit map.loaded number attr

-- the attributes of a number were told and are loaded, and the limit is unchanged
pub record LoadsTold (old : MapState) (number : Number) (attr : Attr) (new : MapState) : Type 0 where
  pub loaded : new.loaded ≡ loaded_told old number attr
  pub limit : new.limit ≡ old.limit

-- nothing became more recent, was loaded or was unloaded
pub record LoadsNone (old new : MapState) : Type 0 where
  pub loaded : new.loaded ≡ old.loaded
  pub limit : new.limit ≡ old.limit

-- how a deed that is answered Done changes the map, with what is loaded
abbrev pub LoadsDone : MapState → Deed → MapState → Type 0
LoadsDone old (take_name dir name kind) new = (file : FileId) × (new ≡ name_taken old dir name file)
LoadsDone old (move_name dir name to_dir to_name) new =
    (new ≡ old) ⊎ ((replaced : Option FileId) × (new ≡ name_moved old dir name to_dir to_name replaced))
LoadsDone old deed new = new ≡ old

-- How a request changes what is loaded, by its answer. Attributes that are told with a number are loaded, and an error
-- or what is read of a file or a directory loads none. When a number is dropped, its loaded attributes are, too.
abbrev pub Loads : MapState → Request → Option Answer → MapState → Type 0
Loads old request (Some (Entry number attr)) new = LoadsTold old number attr new
Loads old request (Some (Opened number attr)) new = LoadsTold old number attr new
Loads old request (Some (Attrs number attr)) new = LoadsTold old number attr new
Loads old request (Some Done) new = LoadsDone old (deed_of request) new
Loads old request (Some (Buffer bytes)) new = LoadsNone old new
Loads old request (Some (Extent extent)) new = LoadsNone old new
Loads old request (Some (Error errno)) new = LoadsNone old new
Loads old request None new = new ≡ forgotten_all old (items_of request)
