-- The laws of making a file, of taking a name away and of moving a file: how they change what a daemon knows. (EdenFS's documents on
-- inode lifetime: a number names its file though the file's name is gone.)
use Rattle.std.specs.Prelude.{◌≡◌, ℕ, false, List, Some, None}
use Rattle.eden_base.specs.declared.attr.Kind.TheVariants.{Dir}
use Rattle.eden_base.specs.declared.attr.MadeKind.{MadeKind}
use Rattle.eden_base.specs.declared.attr.Perm.{Perm}
use Rattle.eden_base.specs.declared.number.FileId.{FileId}
use Rattle.eden_base.specs.declared.number.Number.{Number}
use Rattle.manifest.specs.Tree.{IsTree, child_of, kind_of}
use Rattle.checkout.specs.ChangedTree.{is_full_dir, is_unlinked, created, removed}
use Rattle.checkout.specs.RenamedTree.{renamed, IsAtOrAbove}
use Rattle.entry_table.specs.Entries.{count_of, IsFileOf}
use Rattle.fuse_ops.specs.Served.{ServedState, name_taken, name_moved}
use Rattle.fuse_ops.specs.Soundness.{IsSound}

-- no count changed, no number names another file than before, and no number was given
pub record KeepsNames (old new : ServedState) : Type 0 where
  pub sound : IsSound new
  pub counts : (n : ℕ) → count_of new.map.entries n ≡ count_of old.map.entries n
  pub names : (n : ℕ) (file : FileId) → IsFileOf new.tree new.map.entries n file →
      IsFileOf old.tree old.map.entries n file
  pub next : new.map.next ≡ old.map.next

-- the law of making a file under a free name
abbrev pub MakingLaw : Type 0
MakingLaw =
    (served : ServedState) (dir : FileId) (name : List ℕ) (kind : MadeKind) (perm : Perm) →
    IsTree served.tree → IsSound served → child_of served.tree dir name ≡ None →
    KeepsNames served (record served { tree = created served.tree dir name kind perm })

-- this name in the directory that a number names may be taken from this file
pub record MayLose (served : ServedState) (number : Number) (dir : FileId) (name : List ℕ)
    (file : FileId) : Type 0 where
  pub is_tree : IsTree served.tree
  pub sound : IsSound served
  pub at : IsFileOf served.tree served.map.entries number.0 dir
  pub child : child_of served.tree dir name ≡ Some file
  pub not_full : is_full_dir served.tree file ≡ false

-- the law of taking a name away
abbrev pub UnnamingLaw : Type 0
UnnamingLaw =
    (served : ServedState) (number : Number) (dir : FileId) (name : List ℕ) (file : FileId) →
    MayLose served number dir name file →
    KeepsNames served (record { map = name_taken served.map number name file; tree = removed served.tree dir name })

-- this file may move from a name in the directory of one number to a name in the directory of another
pub record MayMove (served : ServedState) (number : Number) (dir : FileId) (name : List ℕ)
    (to : Number) (to_dir : FileId) (to_name : List ℕ) (file : FileId) : Type 0 where
  pub is_tree : IsTree served.tree
  pub sound : IsSound served
  pub at : IsFileOf served.tree served.map.entries number.0 dir
  pub to_at : IsFileOf served.tree served.map.entries to.0 to_dir
  pub child : child_of served.tree dir name ≡ Some file
  pub is_dir : kind_of served.tree to_dir ≡ Some Dir
  pub reached : is_unlinked served.tree to_dir ≡ false
  pub other : child_of served.tree to_dir to_name ≡ Some file → ⊥
  pub not_full : (replaced : FileId) → child_of served.tree to_dir to_name ≡ Some replaced →
      is_full_dir served.tree replaced ≡ false
  pub not_above : IsAtOrAbove served.tree file to_dir → ⊥

-- the law of moving a file to another name, from which a file is taken that stood there
abbrev pub MovingLaw : Type 0
MovingLaw =
    (served : ServedState) (number : Number) (dir : FileId) (name : List ℕ)
    (to : Number) (to_dir : FileId) (to_name : List ℕ) (file : FileId) →
    MayMove served number dir name to to_dir to_name file →
    KeepsNames served (record {
      map = name_moved served.map number name to to_name (child_of served.tree to_dir to_name);
      tree = renamed served.tree dir name to_dir to_name;
    })
