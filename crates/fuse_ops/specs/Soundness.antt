-- What a daemon knows fits together: its numbers, what each names in the tree of its checkout, and what is of use.
-- (EdenFS's documents on inodes; libfuse's rules for lookup counts, `fuse_lowlevel.h`.)
use Rattle.std.specs.Prelude.{◌≡◌, ℕ, ◌≤◌, ◌↔◌, IsTrue, IsSome, Some}
use Rattle.eden_base.specs.Limits.{greatest_count, end_of_numbers}
use Rattle.eden_base.specs.declared.attr.Attr.{Attr}
use Rattle.eden_base.specs.declared.number.FileId.{FileId}
use Rattle.eden_base.specs.declared.place.Place.{Place}
use Rattle.eden_base.specs.declared.place.Place.TheVariants.{Linked, Unlinked}
use Rattle.manifest.specs.Tree.{file_of as tree_file}
use Rattle.checkout.specs.ChangedTree.{is_unlinked}
use Rattle.manifest.specs.declared.content.Content.{Content}
use Rattle.entry_table.specs.Entries.{entry_of, file_remembered, is_of_use, AreNumbers, IsFileOf}
use Rattle.inode_map.specs.InodeMap.{attr_of}
use Rattle.entry_table.specs.declared.kept.Kept.{Kept}
use Rattle.fuse_ops.specs.Served.{ServedState}

-- the place is a mark that the file was unlinked
abbrev pub IsUnlinkedPlace : Place → Type 0
IsUnlinkedPlace (Linked dir name) = ⊥
IsUnlinkedPlace (Unlinked file) = Unit {0}

-- a number names this file for this daemon
abbrev pub Names : ServedState → ℕ → FileId → Type 0
Names served n file = IsFileOf served.tree served.map.entries n file

-- the file that is remembered for a number is the file that it names
abbrev pub AreRemembered : ServedState → Type 0
AreRemembered served = (n : ℕ) (file : FileId) →
    file_remembered served.map.remembered n ≡ Some file → Names served n file

-- what attributes say of a file, besides its link count
abbrev pub content_in : Attr → Content
content_in attr = record { kind = attr.kind; perm = attr.perm; size = attr.size }

-- what is loaded for a number is true: the kind, the permissions and the size of the file that it names
abbrev pub AreLoaded : ServedState → Type 0
AreLoaded served = (n : ℕ) (attr : Attr) → attr_of served.map.loaded n ≡ Some attr →
    (file : FileId) × Names served n file × (tree_file served.tree file ≡ Some (content_in attr))

-- what a daemon knows fits together
pub record IsSound (served : ServedState) : Type 0 where
  pub numbers : AreNumbers 2 served.map.next served.map.entries
  pub numbers_fit : served.map.next ≤ end_of_numbers
  pub names_a_file : (n : ℕ) → IsSome (entry_of served.map.entries n) →
      (file : FileId) × Names served n file × IsSome (tree_file served.tree file)
  pub places_are_apart : (m n : ℕ) (one other : Kept) →
      entry_of served.map.entries m ≡ Some one → entry_of served.map.entries n ≡ Some other →
      one.place ≡ other.place → m ≡ n
  pub files_are_apart : (m n : ℕ) (file : FileId) →
      IsSome (entry_of served.map.entries m) → IsSome (entry_of served.map.entries n) →
      Names served m file → Names served n file → m ≡ n
  pub unlinked_alike : (n : ℕ) (kept : Kept) (file : FileId) →
      entry_of served.map.entries n ≡ Some kept → Names served n file →
      IsUnlinkedPlace kept.place ↔ IsTrue (is_unlinked served.tree file)
  pub each_of_use : (n : ℕ) (kept : Kept) → entry_of served.map.entries n ≡ Some kept →
      IsTrue (is_of_use served.map.entries kept)
  pub counts_fit : (n : ℕ) (kept : Kept) → entry_of served.map.entries n ≡ Some kept → kept.count ≤ greatest_count
