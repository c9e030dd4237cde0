-- What a pool of threads reads. (This project's own.)
use Rattle.manifest.specs.Manifest.{Manifest}
use Rattle.blob_store.specs.declared.file_read_pool.FileReadPool.{FileReadPool}

-- the manifest whose files a pool reads
abbrev pub manifest_of : {R : Type 0} → FileReadPool R → Manifest
manifest_of pool = pool.files.manifest
