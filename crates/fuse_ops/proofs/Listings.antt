-- Laws of the entries of a directory.
use Rattle.std.proofs.Common.{ℕ, List, [], ◌∷◌, inl, inr}
use Rattle.eden_base.specs.declared.number.FileId.{FileId}
use Rattle.manifest.specs.Tree.{Tree}
use Rattle.fuse_wire.specs.DirectoryEntries.{Dirent}
use Rattle.fuse_ops.specs.Listing.{IsFirstEntry, Lists}

-- entries that tell files by inode numbers of one kind tell them by those of a wider kind
module _ (IsInode IsWider : FileId → ℕ → Type 0) (wider : (file : FileId) (n : ℕ) → IsInode file n → IsWider file n) (tree : Tree) (dir : FileId) where
  first-wider : (from : ℕ) (entry : Dirent) → IsFirstEntry IsInode tree dir from entry → IsFirstEntry IsWider tree dir from entry
  first-wider from entry first = record {
    is = record {
      position = first.is.position;
      file = first.is.file;
      stands = first.is.stands;
      next = first.is.next;
      kind = first.is.kind;
      number = wider first.is.file entry.number first.is.number;
    };
    behind = first.behind;
    first = first.first;
  }

  pub lists-wider : (from room : ℕ) (entries : List Dirent) → Lists IsInode tree dir from room entries → Lists IsWider tree dir from room entries
  lists-wider from room [] (inl end) = inl end
  lists-wider from room [] (inr long) = inr (record { entry = long.entry; first = first-wider from long.entry long.first; longer = long.longer })
  lists-wider from room (entry ∷ entries) (first, fits, rest) = (first-wider from entry first, fits, lists-wider entry.next _ entries rest)
