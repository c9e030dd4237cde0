-- What a read of a commit's files gives.
use Rattle.std.specs.Prelude.{◌≡◌, ℕ, List, length, Option, Some, None, Result, Ok, Err, ⊤, if◌then◌else◌}
use Rattle.std.specs.Option.{option_map}
use Rattle.eden_base.specs.declared.number.FileId.{FileId}
use Rattle.fuse_wire.specs.declared.reply.Extent.{Extent}
use Rattle.git_objects.specs.Reading.{IsRead}
use Rattle.git_objects.specs.declared.git_objects.BlobPart.{BlobPart}
use Rattle.git_objects.specs.declared.sought.Sought.{Sought}
use Rattle.git_tree.specs.GitObject.{object_at}
use Rattle.git_tree.specs.declared.object_id.ObjectId.{ObjectId}
use Rattle.blob_store.specs.FileBlobs.{HasPart, IsWithin, has_content}
use Rattle.blob_store.specs.declared.blob_store.BlobFault.{BlobFault}
use Rattle.manifest.specs.Manifest.{Line, Manifest, line_of}

-- the part of an object that an extent is: of the object that the commit names for the file, at the size that the manifest says
pub record IsPartFor (manifest : Manifest) (names : List ObjectId) (extent : Extent) (part : BlobPart) : Type 0 where
  pub line : Line
  pub name : ObjectId
  pub is_line : line_of manifest.lines extent.file ≡ Some line
  pub has_part : HasPart line extent
  pub is_name : object_at names extent.file ≡ Some name
  pub is_part : part ≡ record { object = name.0; size = line.file.size; offset = extent.offset; len = extent.len }

-- The bytes are that part of that object. Blobs are kept within this bound, and of one that is too large for memory the bytes are
-- unknown.
pub record IsOfObject (manifest : Manifest) (names : List ObjectId) (bound : ℕ) (extent : Extent) (bytes : List ℕ) : Type 0 where
  pub part : BlobPart
  pub is_part : IsPartFor manifest names extent part
  pub is_read : IsRead bound part bytes

-- these are all the bytes of an extent that the manifest has, and of the file's object
pub record IsOfFile (manifest : Manifest) (names : List ObjectId) (bound : ℕ) (extent : Extent) (bytes : List ℕ) : Type 0 where
  pub within : IsWithin manifest extent
  pub object : IsOfObject manifest names bound extent bytes
  pub whole : length bytes ≡ extent.len

-- the blob with the bytes of a file, by its line and its object
abbrev pub blob_by : Option Line → Option ObjectId → Option Sought
blob_by None name = None
blob_by (Some line) name =
    if has_content line.file.kind then option_map (λ id. record { object = id.0; size = line.file.size }) name else None

-- the blob with the bytes of a file, if that is a regular file or a link
abbrev pub blob_of : Manifest → List ObjectId → FileId → Option Sought
blob_of manifest names file = blob_by (line_of manifest.lines file) (object_at names file)

-- What a read gives: bytes only of an extent that the manifest has, and of the file's object. Why it gives none is unknown
-- before git is asked.
abbrev pub ReadsCommit : Manifest → List ObjectId → ℕ → Extent → Result (List ℕ) BlobFault → Type 0
ReadsCommit manifest names bound extent (Ok bytes) = IsWithin manifest extent × IsOfObject manifest names bound extent bytes
ReadsCommit manifest names bound extent (Err fault) = ⊤
