-- What requests read of a tree, beyond its files and names, and the trees that they make of it. A file that is unlinked
-- stays in the tree. (EdenFS's documents on inodes and the overlay; `nlink` is that of stat(2).)
use Rattle.std.specs.Prelude.{ℕ, ◌+◌, Bool, true, false, ◌&&◌, ◌==◌, not, nat_lt, List, length, Option, None, Some, if◌then◌else◌}
use Rattle.std.specs.Option.{option_map}
use Rattle.std.specs.List.{list_any}
use Rattle.std.specs.FinMap.{insert, remove, entries}
use Rattle.eden_base.specs.Kinds.{kind_made}
use Rattle.eden_base.specs.declared.attr.Attr.{Attr}
use Rattle.eden_base.specs.declared.attr.Kind.{Kind}
use Rattle.eden_base.specs.declared.attr.Kind.TheVariants.{File as RegularFile, Dir, Link}
use Rattle.eden_base.specs.declared.attr.MadeKind.{MadeKind}
use Rattle.eden_base.specs.declared.attr.Perm.{Perm}
use Rattle.eden_base.specs.declared.number.FileId.{FileId}
use Rattle.manifest.specs.Manifest.{File}
use Rattle.manifest.specs.Tree.{Tree, file_of, kind_of, is_dir, nlink_of_kind}

-- whether some link gives the file
abbrev pub is_linked : Tree → FileId → Bool
is_linked tree file = list_any (λ (link : (ℕ × List ℕ) × FileId). link.1.0 == file.0) (entries tree.links)

-- whether this is the kind of a regular file
abbrev pub is_regular : Option Kind → Bool
is_regular None = false
is_regular (Some RegularFile) = true
is_regular (Some Dir) = false
is_regular (Some Link) = false

-- whether a file is unlinked: it is not the root, and no link gives it
abbrev pub is_unlinked : Tree → FileId → Bool
is_unlinked tree file = not (file.0 == 1) && not (is_linked tree file)

-- whether some link stands in the directory
abbrev pub has_links : Tree → FileId → Bool
has_links tree dir = list_any (λ (link : (ℕ × List ℕ) × FileId). link.0.0 == dir.0) (entries tree.links)

-- whether the file is a directory of the tree in which no link stands
abbrev pub is_empty_dir : Tree → FileId → Bool
is_empty_dir tree dir = is_dir (kind_of tree dir) && not (has_links tree dir)

-- the count of links of a file of this kind: 0 if the file is unlinked, else the constant of the kind
abbrev pub nlink_of : Tree → FileId → Kind → ℕ
nlink_of tree file kind = if is_unlinked tree file then 0 else nlink_of_kind kind

-- the attributes that a daemon tells the kernel of a file, or None if the tree does not have the file
abbrev pub attr_of : Tree → FileId → Option Attr
attr_of tree file =
    option_map
    (λ (f : File). record { kind = f.kind; perm = f.perm; size = f.size; nlink = nlink_of tree file f.kind })
    (file_of tree file)

-- whether the file is a regular file of the manifest: the backing tells its attributes, and the tree those of any other
abbrev pub is_backed : Tree → FileId → Bool
is_backed tree file = nat_lt file.0 (length tree.manifest.lines + 2) && is_regular (kind_of tree file)

-- whether the file is a directory of the tree in which some link stands
abbrev pub is_full_dir : Tree → FileId → Bool
is_full_dir tree file = is_dir (kind_of tree file) && has_links tree file

-- the id of the file that would be made next
abbrev pub next_file : Tree → FileId
next_file tree = record { 0 = tree.next_file }

-- a file as it is made: without content
abbrev pub made_file : MadeKind → Perm → File
made_file kind perm = record { kind = kind_made kind; perm = perm; size = 0 }

-- the tree after its next file was made, under a name in a directory
abbrev pub created : Tree → FileId → List ℕ → MadeKind → Perm → Tree
created tree dir name kind perm = record {
  manifest = tree.manifest;
  files = insert tree.files tree.next_file (made_file kind perm);
  links = insert tree.links (dir.0, name) (next_file tree);
  next_file = tree.next_file + 1;
}

-- the tree without the link under a name in a directory; the link's file stays
abbrev pub removed : Tree → FileId → List ℕ → Tree
removed tree dir name = record {
  manifest = tree.manifest;
  files = tree.files;
  links = remove tree.links (dir.0, name);
  next_file = tree.next_file;
}
