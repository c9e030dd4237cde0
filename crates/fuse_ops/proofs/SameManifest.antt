-- The tree stays one of its manifest, whatever a daemon is asked.
use Rattle.std.proofs.Common.{◌≡◌, ℕ, Bool, true, false, List, Option, Some, None, Result, Ok, Err, refl, ap, ◌∙◌}
use Rattle.std.specs.Prelude.{if◌then◌else◌, nat_lt}
use Rattle.eden_base.specs.declared.attr.Kind.{Kind}
use Rattle.eden_base.specs.declared.attr.Kind.TheVariants.{Dir, File, Link}
use Rattle.eden_base.specs.declared.attr.MadeKind.{MadeKind}
use Rattle.eden_base.specs.declared.attr.Perm.{Perm}
use Rattle.eden_base.specs.declared.errno.Errno.{Errno}
use Rattle.eden_base.specs.declared.number.FileId.{FileId}
use Rattle.manifest.specs.Tree.{Tree, child_of, file_of, kind_of}
use Rattle.manifest.specs.declared.content.Content.{Content}
use Rattle.fuse_wire.specs.declared.reply.Extent.{Extent as FilePart}
use Rattle.fuse_ops.specs.Extents.{Reading, extent_read, against_reading}
use Rattle.fuse_wire.specs.declared.request.Request.{Request}
use Rattle.fuse_wire.specs.declared.reply.Answer.{Answer}
use Rattle.fuse_wire.specs.declared.reply.Answer.TheVariants.{Entry, Opened, Attrs, Done, Buffer, Extent, Error}
use Rattle.fuse_ops.specs.Answers.{none_lost, Effect, Deed, find_name, make_file, take_name, move_name, show_file, list_dir, read_file, unserved, deed_of, done_to, comes_to, found_in, free_in, enters, shows, lists_dir, lists_from, reads_unless, reads_file, reads_from, makes, takes, takes_from, movable, against_replacing, is_there, moves, moves_to, moves_between, unless, against_taking, tree_after}
use Rattle.fuse_ops.specs.Served.{ServedState, PlainState, Replay}

-- a success is over a tree of the same manifest
abbrev pub IsOver : Tree → Result Effect Errno → Type 0
IsOver tree (Ok effect) = effect.tree.manifest ≡ tree.manifest
IsOver tree (Err errno) = Unit {0}

enters-over : (tree : Tree) (r : Result FileId Errno) → IsOver tree (enters tree r)
enters-over tree (Ok file) = refl
enters-over tree (Err errno) = tt

shows-over : (tree : Tree) (o : Option FileId) → IsOver tree (shows tree o)
shows-over tree (Some file) = refl
shows-over tree None = tt

makes-over : (tree : Tree) (name : List ℕ) (kind : MadeKind) (perm : Perm) (r : Result FileId Errno) → IsOver tree (makes tree name kind perm r)
makes-over tree name kind perm (Ok dir) = refl
makes-over tree name kind perm (Err errno) = tt

takes-over : (tree : Tree) (dir : FileId) (name : List ℕ) (r : Result FileId Errno) → IsOver tree (takes tree dir name r)
takes-over tree dir name (Ok file) = refl
takes-over tree dir name (Err errno) = tt

takes_from-over : (tree : Tree) (against : FileId → Option Errno) (o : Option FileId) (name : List ℕ) → IsOver tree (takes_from tree against o name)
takes_from-over tree against (Some dir) name = takes-over tree dir name (unless against (found_in tree (Some dir) name))
takes_from-over tree against None name = tt

moves_to-over : (tree : Tree) (dir : FileId) (name : List ℕ) (to_dir : FileId) (to_name : List ℕ) (r : Result FileId Errno) → IsOver tree (moves_to tree dir name to_dir to_name r)
moves_to-over tree dir name to_dir to_name (Err errno) = tt
moves_to-over tree dir name to_dir to_name (Ok file) = in_ (is_there (child_of tree to_dir to_name) file) (against_replacing tree file (child_of tree to_dir to_name)) where
  in_ : (b : Bool) (o : Option Errno) → IsOver tree (if b then Ok (record { tree = tree; file = None; counts = false; names = none_lost; contents = None }) else moves tree dir name to_dir to_name o)
  in_ true o = refl
  in_ false None = refl
  in_ false (Some errno) = tt

moves_between-over : (tree : Tree) (o : Option FileId) (name : List ℕ) (p : Option FileId) (to_name : List ℕ) → IsOver tree (moves_between tree o name p to_name)
moves_between-over tree (Some dir) name (Some to_dir) to_name = moves_to-over tree dir name to_dir to_name (movable tree dir name to_dir)
moves_between-over tree (Some dir) name None to_name = tt
moves_between-over tree None name p to_name = tt

lists_dir-over : (tree : Tree) (dir : FileId) (offset size : ℕ) (kind : Option Kind) → IsOver tree (lists_dir tree dir offset size kind)
lists_dir-over tree dir offset size (Some Dir) = refl
lists_dir-over tree dir offset size (Some File) = tt
lists_dir-over tree dir offset size (Some Link) = tt
lists_dir-over tree dir offset size None = tt

lists_from-over : (tree : Tree) (o : Option FileId) (offset size : ℕ) → IsOver tree (lists_from tree o offset size)
lists_from-over tree (Some dir) offset size = lists_dir-over tree dir offset size (kind_of tree dir)
lists_from-over tree None offset size = tt

reads_unless-over : (tree : Tree) (extent : FilePart) (against : Option Errno) → IsOver tree (reads_unless tree extent against)
reads_unless-over tree extent (Some errno) = tt
reads_unless-over tree extent None = refl

reads_file-over : (tree : Tree) (file : FileId) (reading : Reading) (o : Option Content) → IsOver tree (reads_file tree file reading o)
reads_file-over tree file reading (Some content) = reads_unless-over tree (extent_read file content.size reading) (against_reading reading content.kind content.size)
reads_file-over tree file reading None = tt

reads_from-over : (tree : Tree) (o : Option FileId) (reading : Reading) → IsOver tree (reads_from tree o reading)
reads_from-over tree (Some file) reading = reads_file-over tree file reading (file_of tree file)
reads_from-over tree None reading = tt

done-over : (tree : Tree) (files : ℕ → Option FileId) (deed : Deed) → IsOver tree (done_to tree files deed)
done-over tree files (find_name dir name) = enters-over tree (found_in tree (files dir.0) name)
done-over tree files (make_file dir name kind perm) = makes-over tree name kind perm (free_in tree (files dir.0) name)
done-over tree files (take_name dir name kind) = takes_from-over tree (against_taking kind tree) (files dir.0) name
done-over tree files (move_name dir name to_dir to_name) = moves_between-over tree (files dir.0) name (files to_dir.0) to_name
done-over tree files (show_file node) = shows-over tree (files node.0)
done-over tree files (list_dir dir offset size) = lists_from-over tree (files dir.0) offset size
done-over tree files (read_file node reading) = reads_from-over tree (files node.0) reading
done-over tree files unserved = tt

after-over : (tree : Tree) (r : Result Effect Errno) (answer : Answer) → IsOver tree r → (tree_after tree r answer).manifest ≡ tree.manifest
after-over tree r (Error errno) over = refl
after-over tree (Ok effect) (Entry number attr) over = over
after-over tree (Ok effect) (Opened number attr) over = over
after-over tree (Ok effect) (Attrs number attr) over = over
after-over tree (Ok effect) Done over = over
after-over tree (Ok effect) (Buffer bytes) over = over
after-over tree (Ok effect) (Extent extent) over = over
after-over tree (Err errno) (Entry number attr) over = refl
after-over tree (Err errno) (Opened number attr) over = refl
after-over tree (Err errno) (Attrs number attr) over = refl
after-over tree (Err errno) Done over = refl
after-over tree (Err errno) (Buffer bytes) over = refl
after-over tree (Err errno) (Extent extent) over = refl

-- the tree after an answer to a request
pub answered-manifest : (tree : Tree) (files : ℕ → Option FileId) (request : Request) (answer : Answer) → (tree_after tree (comes_to tree files request) answer).manifest ≡ tree.manifest
answered-manifest tree files request answer = after-over tree (comes_to tree files request) answer (done-over tree files (deed_of request))

-- the manifest is the same after a step
pub replay-manifest : (old : ServedState) (request : Request) (answer : Option Answer) (new : ServedState) → Replay old request answer new → new.tree.manifest ≡ old.tree.manifest
replay-manifest old request (Some answer) new (is, legal) = ap (λ (p : PlainState). p.tree.manifest) legal.makes ∙ answered-manifest old.tree legal.files request answer
replay-manifest old request None new (is, same) = ap (λ (s : ServedState). s.tree.manifest) same
