-- What a read of a part of a blob gives.
use Rattle.std.specs.Prelude.{◌≡◌, ◌==◌, ◌&&◌, ◌+◌, ◌≤◌, ℕ, Bool, true, false, List, length, Result, Ok, Err, ⊤}
use mathlib.Core.Bool.{beq}
use Rattle.byte_codec.specs.Bytes.{range_of}
use Rattle.git_objects.specs.BlobCache.{is_large, same_id}
use Rattle.git_objects.specs.Content.{IsBlobOf, is_in_file}
use Rattle.git_objects.specs.declared.blob.Blob.{Blob}
use Rattle.git_objects.specs.declared.fault.ObjectFault.{ObjectFault}
use Rattle.git_objects.specs.declared.git_objects.BlobPart.{BlobPart}
use Rattle.git_objects.specs.declared.git_objects.StartedPart.{StartedPart}
use Rattle.git_objects.specs.declared.git_objects.StartedPart.TheVariants.{Done, Pending}
use Rattle.git_objects.specs.declared.sought.Sought.{Sought}

-- whether a blob is the one that is sought, and in a file exactly if one of its size is too large for memory
abbrev pub is_sought : ℕ → Sought → Blob → Bool
is_sought bound sought blob =
    same_id blob.object sought.object && blob.size == sought.size && beq (is_in_file blob.content) (is_large sought.size bound)

-- that part of a blob that has the object's name and size
pub record IsPartOf (object : List ℕ) (size offset len : ℕ) (bytes : List ℕ) : Type 0 where
  pub blob : List ℕ
  pub is_blob : IsBlobOf object size blob
  pub is_part : bytes ≡ range_of offset len blob

-- what is told, by whether the blob is too large for memory: of one that is, the bytes are in a file, and unknown
abbrev pub IsTold : Bool → BlobPart → List ℕ → Type 0
IsTold true part bytes = ⊤
IsTold false part bytes = IsPartOf part.object part.size part.offset part.len bytes

-- what is told of a blob where blobs are kept within this bound
abbrev pub IsRead : ℕ → BlobPart → List ℕ → Type 0
IsRead bound part bytes = IsTold (is_large part.size bound) part bytes

-- what is told of a part: its bytes, all of them and within the size, or why there are none
pub record IsPart (bound : ℕ) (part : BlobPart) (bytes : List ℕ) : Type 0 where
  pub read : IsRead bound part bytes
  pub len : length bytes ≡ part.len
  pub within : part.offset + part.len ≤ part.size

abbrev pub IsGiven : ℕ → BlobPart → Result (List ℕ) ObjectFault → Type 0
IsGiven bound part (Ok bytes) = IsPart bound part bytes
IsGiven bound part (Err fault) = ⊤

-- a read of a part was started: it is over by what is told, or it waits
abbrev pub IsStarted : ℕ → BlobPart → StartedPart → Type 0
IsStarted bound part (Done told) = IsGiven bound part told
IsStarted bound part (Pending pending) = pending.part ≡ part
