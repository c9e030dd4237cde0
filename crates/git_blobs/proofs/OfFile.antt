-- What git gave of the part that an extent is.
use Rattle.std.proofs.Common.{◌∙◌, ℕ, List, Result, Ok, Err, IfOk, ap}
use Rattle.fuse_wire.specs.declared.reply.Extent.{Extent}
use Rattle.git_objects.specs.Reading.{IsGiven as IsPartGiven}
use Rattle.git_objects.specs.declared.fault.ObjectFault.{ObjectFault}
use Rattle.git_objects.specs.declared.git_objects.BlobPart.{BlobPart}
use Rattle.git_tree.specs.declared.object_id.ObjectId.{ObjectId}
use Rattle.blob_store.specs.FileBlobs.{IsWithin}
use Rattle.manifest.specs.Manifest.{Manifest}
use Rattle.git_blobs.specs.Serving.{IsOfFile, IsPartFor}

-- these are the bytes of the file, if there are some
pub of_file : (manifest : Manifest) (names : List ObjectId) (bound : ℕ) (extent : Extent) (part : BlobPart)
    (told : Result (List ℕ) ObjectFault) → IsWithin manifest extent → IsPartFor manifest names extent part →
    IsPartGiven bound part told → IfOk told (IsOfFile manifest names bound extent)
of_file manifest names bound extent part (Err fault) within is given = tt
of_file manifest names bound extent part (Ok bytes) within is given = record {
  within = within;
  object = record {
    part = part;
    is_part = is;
    is_read = given.read;
  };
  whole = given.len ∙ ap (λ (p : BlobPart). p.len) is.is_part;
}
