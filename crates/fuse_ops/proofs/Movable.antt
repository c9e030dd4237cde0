-- What a move comes to: the file that moves and what it may replace, or that it is there already.
use Rattle.std.proofs.Common.{◌≡◌, ℕ, Bool, true, false, ◌&&◌, List, [], ◌∷◌, Option, Some, None, Result, Ok, Err, refl, sym, ap, ◌∙◌, subst}
use Rattle.std.specs.Prelude.{if◌then◌else◌, ◌==◌}
use Rattle.std.specs.Option.{option_map_or, option_and_then}
use Rattle.eden_base.proofs.NumberTests.{eq-true}
use Rattle.eden_base.specs.declared.attr.Kind.{Kind}
use Rattle.eden_base.specs.declared.attr.Kind.TheVariants.{Dir, File, Link}
use Rattle.eden_base.specs.declared.errno.Errno.{Errno}
use Rattle.eden_base.specs.declared.errno.Errno.TheVariants.{ENOENT, ENOTDIR, EINVAL}
use Rattle.eden_base.specs.declared.number.FileId.{FileId}
use Rattle.eden_base.specs.declared.number.Number.{Number}
use Rattle.manifest.specs.Tree.{Tree, IsTree, child_of, file_at, kind_of, is_dir}
use Rattle.checkout.specs.ChangedTree.{is_full_dir, is_unlinked}
use Rattle.checkout.specs.RenamedTree.{renamed, IsAtOrAbove}
use Rattle.entry_table.specs.Entries.{IsFileOf}
use Rattle.fuse_ops.specs.Above.{is_at_or_above}
use Rattle.fuse_ops.specs.Answers.{none_lost, one_moved, Effect, movable_into, movable, against_replacing, against_unlink, against_rmdir, is_there, moves, moves_to, moves_between}
use Rattle.fuse_ops.specs.Changes.{MayMove}
use Rattle.fuse_ops.specs.Served.{ServedState}
use Rattle.fuse_ops.specs.Soundness.{IsSound}
use Rattle.fuse_ops.proofs.GoingUp.{above-tells}
use Rattle.fuse_ops.proofs.Shapes.{take-frees}

-- nothing changes
abbrev pub left : Tree → Effect
left tree = record { tree = tree; file = None; counts = false; names = none_lost; contents = None }

-- the file under a name moved to another
abbrev pub gone : Tree → FileId → List ℕ → FileId → List ℕ → Effect
gone tree dir name to_dir to_name = record { tree = renamed tree dir name to_dir to_name; file = None; counts = false; names = one_moved (child_of tree to_dir to_name); contents = None }

-- the file under a name, to whose move into a directory nothing stands
pub record IsMovable (tree : Tree) (dir : FileId) (name : List ℕ) (to_dir file : FileId) : Type 0 where
  pub child : child_of tree dir name ≡ Some file
  pub to_is_dir : kind_of tree to_dir ≡ Some Dir
  pub reached : is_unlinked tree to_dir ≡ false
  pub not_above : (is_dir (kind_of tree file) && is_at_or_above tree file to_dir) ≡ false

kind_is : (o : Option Kind) → is_dir o ≡ true → o ≡ Some Dir
kind_is None e = absurd (let none : ⊥ = cc in none)
kind_is (Some File) e = absurd (let none : ⊥ = cc in none)
kind_is (Some Link) e = absurd (let none : ⊥ = cc in none)
kind_is (Some Dir) e = refl

into-found : (tree : Tree) (to_dir f file : FileId) → movable_into tree to_dir f ≡ Ok file → (f ≡ file) × (is_unlinked tree to_dir ≡ false) × ((is_dir (kind_of tree file) && is_at_or_above tree file to_dir) ≡ false)
into-found tree to_dir f file e = in_ (is_unlinked tree to_dir) (is_dir (kind_of tree f) && is_at_or_above tree f to_dir) refl refl e where
  good : FileId → Result FileId Errno
  good x = Ok x

  in_ : (a b : Bool) → is_unlinked tree to_dir ≡ a → (is_dir (kind_of tree f) && is_at_or_above tree f to_dir) ≡ b → (if a then Err ENOENT else if b then Err EINVAL else good f) ≡ Ok file →
      (f ≡ file) × (is_unlinked tree to_dir ≡ false) × ((is_dir (kind_of tree file) && is_at_or_above tree file to_dir) ≡ false)
  in_ true b u v h = absurd (let none : ⊥ = cc in none)
  in_ false true u v h = absurd (let none : ⊥ = cc in none)
  in_ false false u v h =
      let same : f ≡ file = cc in
      (same, u, subst (λ (x : FileId). (is_dir (kind_of tree x) && is_at_or_above tree x to_dir) ≡ false) same v)

-- what `movable` looked for
pub movable-found : (tree : Tree) (dir : FileId) (name : List ℕ) (to_dir file : FileId) → movable tree dir name to_dir ≡ Ok file → IsMovable tree dir name to_dir file
movable-found tree dir name to_dir file e = in_ (is_dir (kind_of tree dir)) (is_dir (kind_of tree to_dir)) refl e where
  child_in : is_dir (kind_of tree to_dir) ≡ true → (o : Option FileId) → child_of tree dir name ≡ o → option_map_or (movable_into tree to_dir) o (Err ENOENT) ≡ Ok file → IsMovable tree dir name to_dir file
  child_in d None c h = absurd (let none : ⊥ = cc in none)
  child_in d (Some f) c h =
      let found = into-found tree to_dir f file h in
      record { child = c ∙ ap (λ (x : FileId). Some x) found.0; to_is_dir = kind_is (kind_of tree to_dir) d; reached = found.1; not_above = found.2 }

  in_ : (a b : Bool) → is_dir (kind_of tree to_dir) ≡ b → (if a && b then option_map_or (movable_into tree to_dir) (child_of tree dir name) (Err ENOENT) else Err ENOTDIR) ≡ Ok file → IsMovable tree dir name to_dir file
  in_ true true d h = child_in d (child_of tree dir name) refl h
  in_ true false d h = absurd (let none : ⊥ = cc in none)
  in_ false b d h = absurd (let none : ⊥ = cc in none)

-- a file that is at or above a directory is a directory
above_dir : (tree : Tree) (file to_dir : FileId) → IsTree tree → kind_of tree to_dir ≡ Some Dir → IsAtOrAbove tree file to_dir → kind_of tree file ≡ Some Dir
above_dir tree file to_dir is d ([], e) = let same : to_dir ≡ file = (let s : Some file ≡ Some to_dir = e in cc) in ap (kind_of tree) (sym same) ∙ d
above_dir tree file to_dir is d (n ∷ names, e) = in_ (child_of tree file n) refl e where
  in_ : (o : Option FileId) → child_of tree file n ≡ o → option_and_then (λ (child : FileId). file_at tree child names) o ≡ Some to_dir → kind_of tree file ≡ Some Dir
  in_ None c h = absurd (let none : ⊥ = cc in none)
  in_ (Some child) c h = is.links_stand_in_dirs file n child c

pub movable-not_above : (tree : Tree) (dir : FileId) (name : List ℕ) (to_dir file : FileId) → IsTree tree → IsMovable tree dir name to_dir file → IsAtOrAbove tree file to_dir → ⊥
movable-not_above tree dir name to_dir file is m above =
    let d : is_dir (kind_of tree file) ≡ true = ap is_dir (above_dir tree file to_dir is m.to_is_dir above) in
    let up : is_at_or_above tree file to_dir ≡ true = (above-tells tree is file to_dir).1 above in
    let both : (true && true) ≡ false = subst (λ b. (b && true) ≡ false) d (subst (λ b. (is_dir (kind_of tree file) && b) ≡ false) up m.not_above) in
    let none : ⊥ = cc in none

-- a file whose name may be taken over is no directory with names
pub replaced-not_full : (tree : Tree) (file other : FileId) → against_replacing tree file (Some other) ≡ None → is_full_dir tree other ≡ false
replaced-not_full tree file other e = in_ (is_dir (kind_of tree file)) e where
  in_ : (b : Bool) → (if b then against_rmdir tree other else against_unlink tree other) ≡ None → is_full_dir tree other ≡ false
  in_ true h = take-frees Dir tree other h
  in_ false h = take-frees File tree other h

pub not_there : (o : Option FileId) (file : FileId) → is_there o file ≡ false → o ≡ Some file → ⊥
not_there None file e same = let none : ⊥ = cc in none
not_there (Some other) file e same =
    let is : other ≡ file = cc in
    let yes : (other.0 == file.0) ≡ true = eq-true other.0 file.0 (ap (λ (f : FileId). f.0) is) in
    let none : ⊥ = cc in none

-- ---- the move

-- the file under a name in one directory moves to a name in another; the numbers name these directories
pub record Goes (tree : Tree) (from : Option FileId) (name : List ℕ) (to : Option FileId) (to_name : List ℕ) (dir to_dir : FileId) : Type 0 where
  pub from_is : from ≡ Some dir
  pub to_is : to ≡ Some to_dir
  pub file : FileId
  pub movable : IsMovable tree dir name to_dir file
  pub other : child_of tree to_dir to_name ≡ Some file → ⊥
  pub not_full : (replaced : FileId) → child_of tree to_dir to_name ≡ Some replaced → is_full_dir tree replaced ≡ false

-- what holds of a success holds by its two cases: the file is there already, or moves
pub by-move : (tree : Tree) (from : Option FileId) (name : List ℕ) (to : Option FileId) (to_name : List ℕ) (effect : Effect) → moves_between tree from name to to_name ≡ Ok effect →
    (P : Effect → Type 0) → P (left tree) → ((dir to_dir : FileId) → Goes tree from name to to_name dir to_dir → P (gone tree dir name to_dir to_name)) → P effect
by-move tree None name to to_name effect e P stays goes = absurd (let none : ⊥ = cc in none)
by-move tree (Some dir) name None to_name effect e P stays goes = absurd (let none : ⊥ = cc in none)
by-move tree (Some dir) name (Some to_dir) to_name effect e P stays goes = in_ (movable tree dir name to_dir) refl e where
  tests_in : (file : FileId) → IsMovable tree dir name to_dir file → (b : Bool) (o : Option Errno) → is_there (child_of tree to_dir to_name) file ≡ b → against_replacing tree file (child_of tree to_dir to_name) ≡ o →
      (if b then Ok (left tree) else moves tree dir name to_dir to_name o) ≡ Ok effect → P effect
  tests_in file m true o t a h = let same : left tree ≡ effect = cc in subst P same stays
  tests_in file m false (Some errno) t a h = absurd (let none : ⊥ = cc in none)
  tests_in file m false None t a h =
      let same : gone tree dir name to_dir to_name ≡ effect = cc in
      subst P same (goes dir to_dir (record {
        from_is = refl;
        to_is = refl;
        file = file;
        movable = m;
        other = not_there (child_of tree to_dir to_name) file t;
        not_full = λ replaced c. replaced-not_full tree file replaced (ap (against_replacing tree file) (sym c) ∙ a);
      }))

  in_ : (r : Result FileId Errno) → movable tree dir name to_dir ≡ r → moves_to tree dir name to_dir to_name r ≡ Ok effect → P effect
  in_ (Err errno) m h = absurd (let none : ⊥ = cc in none)
  in_ (Ok file) m h = tests_in file (movable-found tree dir name to_dir file m) (is_there (child_of tree to_dir to_name) file) (against_replacing tree file (child_of tree to_dir to_name)) refl refl h

-- the file may move, where each directory is that of a number
pub may-move : (served : ServedState) (number : Number) (dir : FileId) (name : List ℕ) (to : Number) (to_dir : FileId) (to_name : List ℕ) (from_file to_file : Option FileId) → IsTree served.tree → IsSound served →
    IsFileOf served.tree served.map.entries number.0 dir → IsFileOf served.tree served.map.entries to.0 to_dir → (g : Goes served.tree from_file name to_file to_name dir to_dir) → MayMove served number dir name to to_dir to_name g.file
may-move served number dir name to to_dir to_name from_file to_file is sound at to_at g = record {
  is_tree = is;
  sound = sound;
  at = at;
  to_at = to_at;
  child = (g.movable).child;
  is_dir = (g.movable).to_is_dir;
  reached = (g.movable).reached;
  other = g.other;
  not_full = g.not_full;
  not_above = movable-not_above served.tree dir name to_dir g.file is g.movable;
}
