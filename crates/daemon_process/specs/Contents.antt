-- What a read of a daemon's contents gives. (This project's own.)
use Rattle.std.specs.Prelude.{◌≡◌, ℕ, List, Result, Err}
use Rattle.fuse_wire.specs.declared.reply.Extent.{Extent}
use Rattle.std.specs.Arc.{arc_value}
use Rattle.blob_store.specs.FileBlobs.{ReadsFiles}
use Rattle.blob_store.specs.FileReadPool.{manifest_of}
use Rattle.git_blobs.specs.Serving.{ReadsCommit}
use Rattle.blob_store.specs.declared.blob_store.BlobFault.{BlobFault}
use Rattle.blob_store.specs.declared.blob_store.BlobFault.TheVariants.{Failed}
use Rattle.daemon_process.specs.declared.contents.Contents.{Contents}
use Rattle.daemon_process.specs.declared.contents.Contents.TheVariants as of
use Rattle.daemon_process.specs.declared.options.ContentsSource.{ContentsSource}
use Rattle.daemon_process.specs.declared.options.ContentsSource.TheVariants as from
use Rattle.manifest.specs.Manifest.{Manifest}

-- what a read gives: bytes only of a regular file or a link of the manifest, within its size; and Failed where there are none
abbrev pub ReadsContents : {R : Type 0} → Contents R → Extent → Result (List ℕ) BlobFault → Type 0
ReadsContents of.None extent result = result ≡ Err Failed
ReadsContents (of.Directory files) extent result = ReadsFiles (manifest_of (arc_value files)) extent result
ReadsContents (of.Repository blobs) extent result =
    ReadsCommit blobs.manifest blobs.names blobs.objects extent result

-- What is opened of a source for the files of a manifest: none, a directory that is read for this manifest, or a repository that
-- is read for it by the names of the source, within the source's bound.
abbrev pub IsOpened : {R : Type 0} → ContentsSource → Manifest → Contents R → Type 0
IsOpened from.None manifest contents = contents ≡ of.None
IsOpened (from.Directory path) manifest (of.Directory files) = manifest_of (arc_value files) ≡ manifest
IsOpened (from.Repository source) manifest (of.Repository blobs) =
    (blobs.manifest ≡ manifest) × (blobs.names ≡ source.names) × (blobs.objects ≡ source.bound)
IsOpened source manifest contents = ⊥
