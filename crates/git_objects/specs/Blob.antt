-- The blobs that git gave.
use Rattle.std.specs.Prelude.{◌≡◌}
use Rattle.git_objects.specs.Content.{IsSame}
use Rattle.git_objects.specs.declared.blob.Blob.{Blob}

-- the two are one blob
pub record IsSameBlob (one other : Blob) : Type 0 where
  pub same_object : other.object ≡ one.object
  pub same_size : other.size ≡ one.size
  pub same_content : IsSame one.content other.content
