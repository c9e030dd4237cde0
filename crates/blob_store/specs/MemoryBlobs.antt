-- Blobs in memory, and what a read of them gives. (This project's own.)
use Rattle.std.specs.Prelude.{◌≡◌, ◌+◌, ◌≤◌, ◌<◌, ◌⊎◌, ◌==◌, ℕ, List, [], ◌∷◌, Option, Some, None, Result, Ok, Err, if◌then◌else◌}
use Rattle.eden_base.specs.declared.number.FileId.{FileId}
use Rattle.blob_store.specs.Blob.{part, sized}
use Rattle.blob_store.specs.declared.blob_store.BlobFault.{BlobFault}
use Rattle.blob_store.specs.declared.blob_store.BlobFault.TheVariants.{NoMemory, Failed}

-- the blob of a file in memory, and the size that the manifest says
pub record StoredBlob : Type 0 where
  pub file : FileId
  pub size : ℕ
  pub bytes : List ℕ

-- the blob of a file: the first that names it
abbrev pub blob_of : List StoredBlob → FileId → Option StoredBlob
blob_of [] file = None
blob_of (blob ∷ blobs) file = if blob.file.0 == file.0 then Some blob else blob_of blobs file

-- What a read gives: exactly the part of the blob at its size; Failed exactly where there is no such blob, or the part goes
-- beyond its end, or is longer than a buffer; and NoMemory only of a part that there is.
abbrev pub ReadsBlob : Option StoredBlob → ℕ → ℕ → Result (List ℕ) BlobFault → Type 0
ReadsBlob (Some blob) offset len (Ok bytes) =
    (offset + len ≤ blob.size) × (bytes ≡ part offset len (sized blob.size blob.bytes))
ReadsBlob (Some blob) offset len (Err Failed) = (blob.size < offset + len) ⊎ (65512 < len)
ReadsBlob (Some blob) offset len (Err NoMemory) = offset + len ≤ blob.size
ReadsBlob None offset len result = result ≡ Err Failed
