-- What a read of the files of a directory gives. (This project's own.)
use Rattle.std.specs.Prelude.{◌≡◌, ◌+◌, ◌≤◌, ℕ, Bool, true, false, List, Some, Result, Ok, Err, ⊤}
use Rattle.eden_base.specs.declared.attr.Kind.{Kind}
use Rattle.eden_base.specs.declared.attr.Kind.TheVariants.{Dir, File, Link}
use Rattle.fuse_wire.specs.declared.reply.Extent.{Extent}
use Rattle.manifest.specs.Manifest.{Line, Manifest, line_of}
use Rattle.blob_store.specs.declared.blob_store.BlobFault.{BlobFault}

-- whether a file of this kind has bytes: a regular file has some, and a symbolic link has its target
abbrev pub has_content : Kind → Bool
has_content File = true
has_content Link = true
has_content Dir = false

-- the line is that of a regular file or a link, whose size by the manifest has all bytes of the extent
abbrev pub HasPart : Line → Extent → Type 0
HasPart line extent = (has_content line.file.kind ≡ true) × (extent.offset + extent.len ≤ line.file.size)

-- the manifest has such a line for the extent's file
pub record IsWithin (manifest : Manifest) (extent : Extent) : Type 0 where
  pub line : Line
  pub is_line : line_of manifest.lines extent.file ≡ Some line
  pub has_part : HasPart line extent

-- What a read gives: bytes only of such an extent. Which bytes the system has there is unknown before they are read, and so is
-- why it gives none.
abbrev pub ReadsFiles : Manifest → Extent → Result (List ℕ) BlobFault → Type 0
ReadsFiles manifest extent (Ok bytes) = IsWithin manifest extent
ReadsFiles manifest extent (Err fault) = ⊤
