-- How each request is answered, as a table: first what it comes to in the tree, then what forbids to give a number,
-- then what may fail. The world's moves and the contract of `apply` use the same rows. The requests are those of
-- `linux/fuse.h`; which errors there are, and in which order they come, is this project's own.
use Rattle.std.specs.Prelude.{◌≡◌, ℕ, ◌+◌, ◌<◌, ◌⊎◌, Bool, true, false, ◌==◌, ◌&&◌, nat_le, nat_lt, List, [], ◌∷◌, length, Contains, Option, Some, None, is_some, Result, Ok, Err, if◌then◌else◌}
use Rattle.std.specs.Option.{option_map_or}
use Rattle.eden_base.specs.Limits.{end_of_files}
use Rattle.eden_base.specs.declared.attr.Attr.{Attr}
use Rattle.eden_base.specs.declared.attr.Kind.{Kind}
use Rattle.eden_base.specs.declared.attr.Kind.TheVariants.{Dir, File, Link}
use Rattle.eden_base.specs.declared.attr.MadeKind.{MadeKind}
use Rattle.eden_base.specs.declared.attr.MadeKind.TheVariants as made
use Rattle.eden_base.specs.declared.attr.Perm.{Perm}
use Rattle.eden_base.specs.declared.errno.Errno.{Errno}
use Rattle.eden_base.specs.declared.errno.Errno.TheVariants.{ESTALE, ENOTDIR, EISDIR, ENOENT, EEXIST, EINVAL, ENOTEMPTY, ENOSPC, EOVERFLOW, EIO, ENOMEM, ENOSYS}
use Rattle.eden_base.specs.declared.number.FileId.{FileId}
use Rattle.eden_base.specs.declared.number.Number.{Number}
use Rattle.manifest.specs.Tree.{Tree, file_of, kind_of, child_of, is_dir}
use Rattle.manifest.specs.declared.content.Content.{Content}
use Rattle.checkout.specs.ChangedTree.{attr_of, has_links, is_unlinked, next_file, created, removed}
use Rattle.checkout.specs.RenamedTree.{renamed}
use Rattle.fuse_wire.specs.Request.{nodes, form_of}
use Rattle.fuse_wire.specs.declared.request.Request.{Request}
use Rattle.fuse_wire.specs.declared.request.Request.TheVariants.{Lookup, Getattr, Readlink, Create, Mkdir, Unlink, Rmdir, Rename, Read, Readdir}
use Rattle.fuse_wire.specs.declared.form.Form.{Form}
use Rattle.fuse_wire.specs.declared.form.Form.TheVariants.{AnEntry, AnOpenEntry, Attributes}
use Rattle.fuse_wire.specs.declared.reply.Answer.{Answer}
use Rattle.fuse_wire.specs.declared.reply.Answer.TheVariants as answers
use Rattle.fuse_wire.specs.declared.reply.Answer.TheVariants.{Entry, Opened, Attrs, Done, Buffer, Error}
use Rattle.fuse_wire.specs.declared.reply.Extent.{Extent}
use Rattle.fuse_wire.specs.DirectoryEntries.{Dirent, entries_text}
use Rattle.fuse_ops.specs.Above.{is_at_or_above}
use Rattle.fuse_ops.specs.Extents.{Reading, bytes_from, whole_target, against_reading, extent_read}
use Rattle.fuse_ops.specs.Listing.{Range, Lists, range_of}

-- ---- by the tree

-- what became of the names that there were
pub data NameChange : Type 0 where
  -- each file kept its name
  none_lost : NameChange
  -- this file lost its name
  one_lost : (file : FileId) → NameChange
  -- a file moved to another name, which this file lost, if one had it
  one_moved : (replaced : Option FileId) → NameChange

-- what is read of a file or a directory: the entries of a range, or the bytes of an extent
pub data Contents : Type 0 where
  lists_range : (range : Range) → Contents
  reads_extent : (extent : Extent) → Contents

-- a success: the tree after it; the file of that tree that the answer tells, if any; whether that file's number is
-- counted once more; what became of the names that there were; and what is read of a file or a directory, if anything
pub record Effect : Type 0 where
  pub tree : Tree
  pub file : Option FileId
  pub counts : Bool
  pub names : NameChange
  pub contents : Option Contents

-- the file under a name in `dir`, which has this kind, or the error if there is no such file
abbrev pub found_in_dir : Tree → FileId → List ℕ → Option Kind → Result FileId Errno
found_in_dir tree dir name (Some Dir) =
    option_map_or (λ (file : FileId). Ok file) (child_of tree dir name) (Err ENOENT)
found_in_dir tree dir name (Some File) = Err ENOTDIR
found_in_dir tree dir name (Some Link) = Err ENOTDIR
found_in_dir tree dir name None = Err ENOTDIR

-- the file under a name in the directory that a number names, if it names one, or the error
abbrev pub found_in : Tree → Option FileId → List ℕ → Result FileId Errno
found_in tree (Some dir) name = found_in_dir tree dir name (kind_of tree dir)
found_in tree None name = Err ESTALE

-- a success that answers with an entry for this file and leaves the tree unchanged, or the error
abbrev pub enters : Tree → Result FileId Errno → Result Effect Errno
enters tree (Ok file) = Ok (record { tree = tree; file = Some file; counts = true; names = none_lost; contents = None })
enters tree (Err errno) = Err errno

-- a success that answers with the attributes of the file that a number names, if it names one, or the error
abbrev pub shows : Tree → Option FileId → Result Effect Errno
shows tree (Some file) = Ok (record { tree = tree; file = Some file; counts = false; names = none_lost; contents = None })
shows tree None = Err ESTALE

-- `dir`, which has this kind, if it is a directory in which a new file may get this name, else the error
abbrev pub free_in_dir : Tree → FileId → List ℕ → Option Kind → Result FileId Errno
free_in_dir tree dir name (Some Dir) =
    if is_unlinked tree dir then Err ENOENT
    else if is_some (child_of tree dir name) then Err EEXIST
    else if nat_le end_of_files tree.next_file then Err ENOSPC
    else Ok dir
free_in_dir tree dir name (Some File) = Err ENOTDIR
free_in_dir tree dir name (Some Link) = Err ENOTDIR
free_in_dir tree dir name None = Err ENOTDIR

-- the directory that a number names, if it names one and a new file may get this name in it, else the error
abbrev pub free_in : Tree → Option FileId → List ℕ → Result FileId Errno
free_in tree (Some dir) name = free_in_dir tree dir name (kind_of tree dir)
free_in tree None name = Err ESTALE

-- a success that makes a file under this name and answers with an entry for it, or the error
abbrev pub makes : Tree → List ℕ → MadeKind → Perm → Result FileId Errno → Result Effect Errno
makes tree name kind perm (Ok dir) = Ok (record {
  tree = created tree dir name kind perm;
  file = Some (next_file tree);
  counts = true;
  names = none_lost;
  contents = None;
})
makes tree name kind perm (Err errno) = Err errno

-- why UNLINK may not take the name of this file: it is a directory
abbrev pub against_unlink : Tree → FileId → Option Errno
against_unlink tree file = if is_dir (kind_of tree file) then Some EISDIR else None

-- why RMDIR may not take the name of this file: it is no directory, or is not empty
abbrev pub against_rmdir : Tree → FileId → Option Errno
against_rmdir tree file =
    if is_dir (kind_of tree file) then (if has_links tree file then Some ENOTEMPTY else None) else Some ENOTDIR

-- the file, if one was found and nothing forbids to take its name, else the error
abbrev pub unless : (FileId → Option Errno) → Result FileId Errno → Result FileId Errno
unless against (Ok file) = option_map_or (λ (errno : Errno). Err errno) (against file) (Ok file)
unless against (Err errno) = Err errno

-- a success that takes this name out of a directory, or the error
abbrev pub takes : Tree → FileId → List ℕ → Result FileId Errno → Result Effect Errno
takes tree dir name (Ok file) =
    Ok (record { tree = removed tree dir name; file = None; counts = false; names = one_lost file; contents = None })
takes tree dir name (Err errno) = Err errno

-- a success that takes a name out of the directory that a number names, if it names one, or the error
abbrev pub takes_from : Tree → (FileId → Option Errno) → Option FileId → List ℕ → Result Effect Errno
takes_from tree against (Some dir) name = takes tree dir name (unless against (found_in tree (Some dir) name))
takes_from tree against None name = Err ESTALE

-- why a name may not be taken from this file, by the kind of file that the request is for; a symbolic link is taken as a
-- regular file is
abbrev pub against_taking : Kind → Tree → FileId → Option Errno
against_taking File = against_unlink
against_taking Link = against_unlink
against_taking Dir = against_rmdir

-- ---- a move

-- the file, if it may move into this directory, which it may not if it is the directory or stands above it; or the error
abbrev pub movable_into : Tree → FileId → FileId → Result FileId Errno
movable_into tree to_dir file =
    if is_unlinked tree to_dir then Err ENOENT
    else if is_dir (kind_of tree file) && is_at_or_above tree file to_dir then Err EINVAL
    else Ok file

-- the file under a name in `dir`, if it may move from there into another directory, or the error
abbrev pub movable : Tree → FileId → List ℕ → FileId → Result FileId Errno
movable tree dir name to_dir =
    if is_dir (kind_of tree dir) && is_dir (kind_of tree to_dir)
    then option_map_or (movable_into tree to_dir) (child_of tree dir name) (Err ENOENT)
    else Err ENOTDIR

-- why a file may not take the name of another, if there is another: a directory takes that of an empty directory, and
-- any other file that of a file that is no directory
abbrev pub against_replacing : Tree → FileId → Option FileId → Option Errno
against_replacing tree file None = None
against_replacing tree file (Some other) =
    if is_dir (kind_of tree file) then against_rmdir tree other else against_unlink tree other

-- whether this file is the one that stands under a name
abbrev pub is_there : Option FileId → FileId → Bool
is_there there file = option_map_or (λ (other : FileId). other.0 == file.0) there false

-- a success that moves the file under a name to another name, unless something stands against it
abbrev pub moves : Tree → FileId → List ℕ → FileId → List ℕ → Option Errno → Result Effect Errno
moves tree dir name to_dir to_name None = Ok (record {
  tree = renamed tree dir name to_dir to_name;
  file = None;
  counts = false;
  names = one_moved (child_of tree to_dir to_name);
  contents = None;
})
moves tree dir name to_dir to_name (Some errno) = Err errno

-- a success that moves a file to a name in a directory, and changes nothing if the file is there already; or the error
abbrev pub moves_to : Tree → FileId → List ℕ → FileId → List ℕ → Result FileId Errno → Result Effect Errno
moves_to tree dir name to_dir to_name (Ok file) =
    if is_there (child_of tree to_dir to_name) file
    then Ok (record { tree = tree; file = None; counts = false; names = none_lost; contents = None })
    else moves tree dir name to_dir to_name (against_replacing tree file (child_of tree to_dir to_name))
moves_to tree dir name to_dir to_name (Err errno) = Err errno

-- a success that moves a file between the directories that two numbers name, if both name one, or the error
abbrev pub moves_between : Tree → Option FileId → List ℕ → Option FileId → List ℕ → Result Effect Errno
moves_between tree (Some dir) name (Some to_dir) to_name =
    moves_to tree dir name to_dir to_name (movable tree dir name to_dir)
moves_between tree dir name to_dir to_name = Err ESTALE

-- ---- a directory that is listed

-- a success that lists part of `dir`, which has this kind, if it is a directory, else the error
abbrev pub lists_dir : Tree → FileId → ℕ → ℕ → Option Kind → Result Effect Errno
lists_dir tree dir offset size (Some Dir) = Ok (record {
  tree = tree;
  file = None;
  counts = false;
  names = none_lost;
  contents = Some (lists_range (range_of dir offset size));
})
lists_dir tree dir offset size (Some File) = Err ENOTDIR
lists_dir tree dir offset size (Some Link) = Err ENOTDIR
lists_dir tree dir offset size None = Err ENOTDIR

-- a success that lists part of the directory that a number names, if it names one, or the error
abbrev pub lists_from : Tree → Option FileId → ℕ → ℕ → Result Effect Errno
lists_from tree (Some dir) offset size = lists_dir tree dir offset size (kind_of tree dir)
lists_from tree None offset size = Err ESTALE

-- ---- a file that is read

-- a success that reads an extent, unless something stands against it
abbrev pub reads_unless : Tree → Extent → Option Errno → Result Effect Errno
reads_unless tree extent (Some errno) = Err errno
reads_unless tree extent None = Ok (record {
  tree = tree;
  file = None;
  counts = false;
  names = none_lost;
  contents = Some (reads_extent extent);
})

-- a success that reads a file, if there is one, or the error
abbrev pub reads_file : Tree → FileId → Reading → Option Content → Result Effect Errno
reads_file tree file reading (Some content) =
    reads_unless tree (extent_read file content.size reading) (against_reading reading content.kind content.size)
reads_file tree file reading None = Err ESTALE

-- a success that reads the file that a number names, if it names one, or the error
abbrev pub reads_from : Tree → Option FileId → Reading → Result Effect Errno
reads_from tree (Some file) reading = reads_file tree file reading (file_of tree file)
reads_from tree None reading = Err ESTALE

-- ---- what is done

-- what is done for a request: a name in the directory of a number is found, is given to a file that is made, is taken
-- from its file, or moves to another name; the file of a number is shown; or part of the directory of a number is
-- listed, or the file of a number is read
pub data Deed : Type 0 where
  find_name : (dir : Number) (name : List ℕ) → Deed
  make_file : (dir : Number) (name : List ℕ) (kind : MadeKind) (perm : Perm) → Deed
  take_name : (dir : Number) (name : List ℕ) (kind : Kind) → Deed
  move_name : (dir : Number) (name : List ℕ) (to_dir : Number) (to_name : List ℕ) → Deed
  show_file : (node : Number) → Deed
  list_dir : (dir : Number) (offset size : ℕ) → Deed
  read_file : (node : Number) (reading : Reading) → Deed
  -- nothing: the request is not served
  unserved : Deed

-- what is done for each request; one row a request
abbrev pub deed_of : Request → Deed
deed_of (Lookup dir name) = find_name dir name
deed_of (Getattr node) = show_file node
deed_of (Readlink node) = read_file node whole_target
deed_of (Create dir name perm) = make_file dir name made.File perm
deed_of (Mkdir dir name perm) = make_file dir name made.Dir perm
deed_of (Unlink dir name) = take_name dir name File
deed_of (Rmdir dir name) = take_name dir name Dir
deed_of (Rename dir name to_dir to_name) = move_name dir name to_dir to_name
deed_of (Read node offset size) = read_file node (bytes_from offset size)
deed_of (Readdir dir offset size) = list_dir dir offset size
deed_of request = unserved

-- the numbers whose files are looked at for a deed
abbrev pub looked_at : Deed → List Number
looked_at (find_name dir name) = dir ∷ []
looked_at (make_file dir name kind perm) = dir ∷ []
looked_at (take_name dir name kind) = dir ∷ []
looked_at (move_name dir name to_dir to_name) = dir ∷ to_dir ∷ []
looked_at (show_file node) = node ∷ []
looked_at (list_dir dir offset size) = dir ∷ []
looked_at (read_file node reading) = node ∷ []
looked_at unserved = []

-- what a deed comes to, if `files` says which file each number names; one row a deed
abbrev pub done_to : Tree → (ℕ → Option FileId) → Deed → Result Effect Errno
done_to tree files (find_name dir name) = enters tree (found_in tree (files dir.0) name)
done_to tree files (make_file dir name kind perm) = makes tree name kind perm (free_in tree (files dir.0) name)
done_to tree files (take_name dir name kind) = takes_from tree (against_taking kind tree) (files dir.0) name
done_to tree files (move_name dir name to_dir to_name) =
    moves_between tree (files dir.0) name (files to_dir.0) to_name
done_to tree files (show_file node) = shows tree (files node.0)
done_to tree files (list_dir dir offset size) = lists_from tree (files dir.0) offset size
done_to tree files (read_file node reading) = reads_from tree (files node.0) reading
done_to tree files unserved = Err ENOSYS

-- the numbers whose files are looked at for a request
abbrev pub looks_at : Request → List Number
looks_at request = looked_at (deed_of request)

-- what a request comes to: a success, or an error
abbrev pub comes_to : Tree → (ℕ → Option FileId) → Request → Result Effect Errno
comes_to tree files request = done_to tree files (deed_of request)

-- the answer of a form with this number and these attributes; Done for a form with neither
abbrev pub told_as : Form → Number → Attr → Answer
told_as AnEntry number attr = Entry number attr
told_as AnOpenEntry number attr = Opened number attr
told_as Attributes number attr = Attrs number attr
told_as form number attr = Done

-- the answer to a request that succeeds, with this number and these attributes
abbrev pub telling : Request → Number → Attr → Answer
telling request = told_as (form_of request)

-- ---- by the number

-- why a file's number cannot be counted once more: the first of these that applies
pub data NumberFault : Type 0 where
  none_left : NumberFault
  at_greatest : NumberFault

-- the error that a request is answered for this cause
abbrev pub number_errno : NumberFault → Errno
number_errno none_left = ENOSPC
number_errno at_greatest = EOVERFLOW

-- What the reader of the table says of a file: what forbids to count its number once more, which number may be told,
-- when its attributes may fail to come, when memory for its number may be refused, and by which inode number an entry of
-- a directory may tell it.
pub record Numbers : Type 1 where
  pub IsAgainst : FileId → Option NumberFault → Type 0
  pub IsNumber : FileId → ℕ → Type 0
  pub MayFail : FileId → Type 0
  pub MayWant : FileId → Type 0
  pub IsInode : FileId → ℕ → Type 0

-- the answer tells one of these numbers, with the attributes of the file
pub record Tells (request : Request) (tree : Tree) (file : FileId) (IsNumber : ℕ → Type 0)
    (answer : Answer) : Type 0 where
  pub number : Number
  pub attr : Attr
  pub is : answer ≡ telling request number attr
  pub is_number : IsNumber number.0
  pub is_attr : attr_of tree file ≡ Some attr

-- this is an answer for a file whose number is to be counted once more
abbrev pub AnswersCounted : Numbers → Request → Tree → FileId → Option NumberFault → Answer → Type 0
AnswersCounted numbers request tree file (Some fault) answer = answer ≡ Error (number_errno fault)
AnswersCounted numbers request tree file None answer =
    Tells request tree file (numbers.IsNumber file) answer
    ⊎ ((answer ≡ Error EIO) × numbers.MayFail file)
    ⊎ ((answer ≡ Error ENOMEM) × numbers.MayWant file)

-- this is an answer for a file whose number is one of the request's own, and whose count is unchanged
abbrev pub AnswersShown : Numbers → Request → Tree → FileId → Answer → Type 0
AnswersShown numbers request tree file answer =
    Tells request tree file (λ n. Contains (nodes request) (record { 0 = n })) answer
    ⊎ ((answer ≡ Error EIO) × numbers.MayFail file)

-- this is an answer to a success that tells no file, by what becomes of names; for a move memory may be refused
abbrev pub AnswersNone : NameChange → Answer → Type 0
AnswersNone (one_moved replaced) answer = (answer ≡ Done) ⊎ (answer ≡ Error ENOMEM)
AnswersNone names answer = answer ≡ Done

-- this is an answer to a success, by the file that is told, whether its number is to be counted once more, and what
-- becomes of names
abbrev pub AnswersFile : Numbers → Request → Tree → Option FileId → Bool → NameChange → Answer → Type 0
AnswersFile numbers request tree (Some file) true names answer =
    (fault : Option NumberFault) × numbers.IsAgainst file fault × AnswersCounted numbers request tree file fault answer
AnswersFile numbers request tree (Some file) false names answer = AnswersShown numbers request tree file answer
AnswersFile numbers request tree None counts names answer = AnswersNone names answer

-- this is an answer with the entries of part of a directory, where `IsInode` says by which inode number an entry may tell
-- a file; or memory for them was refused
abbrev pub AnswersListed : (FileId → ℕ → Type 0) → Tree → Range → Answer → Type 0
AnswersListed IsInode tree range answer =
    ((entries : List Dirent) × Lists IsInode tree range.dir range.from range.room entries
    × (answer ≡ Buffer (entries_text entries)))
    ⊎ (answer ≡ Error ENOMEM)

-- this is an answer with what is read of a file or a directory: an extent of a file is told as it is, and its bytes are
-- fetched behind that
abbrev pub AnswersRead : (FileId → ℕ → Type 0) → Tree → Contents → Answer → Type 0
AnswersRead IsInode tree (lists_range range) answer = AnswersListed IsInode tree range answer
AnswersRead IsInode tree (reads_extent extent) answer = answer ≡ answers.Extent extent

-- this is an answer to a success, by what is read of a file or a directory, if anything
abbrev pub AnswersEffect : Numbers → Request → Effect → Option Contents → Answer → Type 0
AnswersEffect numbers request effect (Some contents) answer = AnswersRead numbers.IsInode effect.tree contents answer
AnswersEffect numbers request effect None answer =
    AnswersFile numbers request effect.tree effect.file effect.counts effect.names answer

-- this is an answer to a request, by what the request comes to
abbrev pub Answers : Numbers → Request → Result Effect Errno → Answer → Type 0
Answers numbers request (Ok effect) answer = AnswersEffect numbers request effect effect.contents answer
Answers numbers request (Err errno) answer = answer ≡ Error errno

-- a regular file of the manifest; the backing is asked for such files only
abbrev pub IsBacked : Tree → FileId → Type 0
IsBacked tree file = (kind_of tree file ≡ Some File) × (file.0 < length tree.manifest.lines + 2)

-- ---- afterwards

-- the tree after an answer; an error leaves it unchanged
abbrev pub tree_after : Tree → Result Effect Errno → Answer → Tree
tree_after tree result (Error errno) = tree
tree_after tree (Ok effect) answer = effect.tree
tree_after tree (Err errno) answer = tree

-- what became of the names that there were by an answer; an error leaves them
abbrev pub name_change : Result Effect Errno → Answer → NameChange
name_change result (Error errno) = none_lost
name_change (Ok effect) answer = effect.names
name_change (Err errno) answer = none_lost

-- the file that a success tells, if any
abbrev pub file_told : Result Effect Errno → Option FileId
file_told (Ok effect) = effect.file
file_told (Err errno) = None
