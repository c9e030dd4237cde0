use Rattle.std.proofs.Common.{◌≡◌, drop}
use Rattle.blob_store.specs.MemoryBlobs.{blob_of}
use Rattle.blob_store.proofs.memory_blobs.find.Given as goal

abbrev pub invariant-loop-blob : goal.invariant-loop-blob
invariant-loop-blob l = blob_of (drop l.blob-index l.blobs) l.file ≡ blob_of l.blobs l.file
