-- The laws of giving a number and of forgetting one, over a tree that is unchanged: how they change what a daemon
-- knows. (libfuse's rules for lookup counts, `fuse_lowlevel.h`.)
use Rattle.std.specs.Prelude.{◌≡◌, ℕ, ◌+◌, ◌-◌, ◌<◌, ◌≤◌, ◌↔◌, ◌⊎◌, true, false, List, Some, None}
use Rattle.eden_base.specs.declared.number.FileId.{FileId}
use Rattle.eden_base.specs.declared.number.Number.{Number}
use Rattle.manifest.specs.Tree.{Tree, IsTree, child_of}
use Rattle.entry_table.specs.Entries.{count_of, is_bad_item, IsFileOf}
use Rattle.inode_map.specs.InodeMap.{MapState, new_map, give_fault, number_given, given, forgot, forgotten}
use Rattle.inode_map.specs.declared.inode_map.Forgot.{Forgot}
use Rattle.inode_map.specs.declared.inode_map.Forgot.TheVariants.{Lowered, Dropped}
use Rattle.fuse_ops.specs.Served.{ServedState}
use Rattle.fuse_ops.specs.Soundness.{IsSound}

-- what a daemon serves with this tree and these numbers
abbrev pub served_over : Tree → MapState → ServedState
served_over tree map = record { map = map; tree = tree }

-- the number named the file before, or it was the next one
abbrev pub GaveOldOrNext : Tree → MapState → MapState → ℕ → FileId → Type 0
GaveOldOrNext tree old new n file =
    (IsFileOf tree old.entries n file × (new.next ≡ old.next)) ⊎ ((n ≡ old.next) × (new.next ≡ old.next + 1))

-- a number of the file was given: its count rose by 1, and it names the file; all else is unchanged
pub record Gave (tree : Tree) (old new : MapState) (n : ℕ) (file : FileId) : Type 0 where
  pub sound : IsSound (served_over tree new)
  pub names : IsFileOf tree new.entries n file
  pub others_name : (m : ℕ) (other : FileId) → (m ≡ n → ⊥) →
      IsFileOf tree new.entries m other ↔ IsFileOf tree old.entries m other
  pub raised : count_of new.entries n ≡ count_of old.entries n + 1
  pub others_count : (m : ℕ) → (m ≡ n → ⊥) → count_of new.entries m ≡ count_of old.entries m
  pub old_or_next : GaveOldOrNext tree old new n file
  pub low : 2 ≤ n
  pub high : n < new.next

-- this file stands under a name in a directory that a number names
pub record IsPlaced (served : ServedState) (parent : ℕ) (name : List ℕ) (dir file : FileId) : Type 0 where
  pub is_tree : IsTree served.tree
  pub sound : IsSound served
  pub at : IsFileOf served.tree served.map.entries parent dir
  pub child : child_of served.tree dir name ≡ Some file

-- the law of giving a number
abbrev pub GivingLaw : Type 0
GivingLaw =
    (served : ServedState) (parent : Number) (name : List ℕ) (dir file : FileId) →
    IsPlaced served parent.0 name dir file →
    give_fault served.map parent.0 name ≡ None →
    Gave served.tree served.map (given served.map parent name) (number_given served.map parent.0 name).0 file

-- the count of a number fell by k; entries that are no longer of use are struck, and all else is unchanged
pub record Forgets (tree : Tree) (old new : MapState) (n k : ℕ) : Type 0 where
  pub sound : IsSound (served_over tree new)
  pub lowered : count_of new.entries n ≡ count_of old.entries n - k
  pub others_count : (m : ℕ) → (m ≡ n → ⊥) → count_of new.entries m ≡ count_of old.entries m
  pub left_name : (m : ℕ) (file : FileId) → IsFileOf tree new.entries m file → IsFileOf tree old.entries m file
  pub next : new.next ≡ old.next

-- neither the entries nor the next number changed
pub record KeepsEntries (tree : Tree) (old new : MapState) : Type 0 where
  pub sound : IsSound (served_over tree new)
  pub entries : new.entries ≡ old.entries
  pub next : new.next ≡ old.next

-- a forget with this result was neither bad nor the root's
abbrev pub IsTaken : Forgot → Type 0
IsTaken told = (told ≡ Lowered) ⊎ (told ≡ Dropped)

-- the law of forgetting a number
abbrev pub ForgettingLaw : Type 0
ForgettingLaw =
    (served : ServedState) (n k : ℕ) → IsTree served.tree → IsSound served →
    (n ≡ 1 → ⊥) → is_bad_item served.map.entries n k ≡ false →
    IsTaken (forgot served.map n k) × Forgets served.tree served.map (forgotten served.map n k) n k

-- a bad forget, or the root's, changes neither entries nor the next number
abbrev pub BadForgetLaw : Type 0
BadForgetLaw =
    (served : ServedState) (n k : ℕ) → IsSound served → (n ≡ 1) ⊎ (is_bad_item served.map.entries n k ≡ true) →
    KeepsEntries served.tree served.map (forgotten served.map n k)

-- the law of a new map, from which no number was given
abbrev pub NewLaw : Type 0
NewLaw = (tree : Tree) (limit : ℕ) → IsTree tree → IsSound (served_over tree (new_map limit))
