-- The image of what a daemon serves. (EdenFS's documents on takeover: the serialised inode map; the generation is this
-- project's own.)
use Rattle.std.specs.Prelude.{◌≡◌, ℕ, List}
use Rattle.checkout.specs.Changes.{AreChanges}
use Rattle.manifest.specs.Manifest.{Manifest}
use Rattle.fuse_ops.specs.Served.{ServedState}
use Rattle.map_image.specs.declared.image.Image.{Image}
use Rattle.map_image.specs.declared.image.ManifestName.{ManifestName}
use Rattle.map_image.specs.declared.version.NamedBy.{NamedBy}
use Rattle.map_image.specs.declared.version.NamedBy.TheVariants.{Commit, Digest}

-- the bytes by which images name a manifest: those of its commit, or of the digest of its text
abbrev pub bytes_naming : NamedBy → Manifest → List ℕ
bytes_naming Commit m = m.commit
bytes_naming Digest m = m.digest

-- this is how images that name their manifest so name this one
abbrev pub name_of : NamedBy → Manifest → ManifestName
name_of by m = record { by = by; bytes = bytes_naming by m }

-- an image names this manifest
abbrev pub IsNameOf : Manifest → ManifestName → Type 0
IsNameOf m name = name.bytes ≡ bytes_naming name.by m

-- this is the image of what is served, which names the manifest so: all that is kept, with places and counts, the next number, and how the checkout
-- differs from its manifest
pub record IsImageOf (served : ServedState) (at : ℕ) (by : NamedBy) (image : Image) : Type 0 where
  pub name : image.name ≡ name_of by served.tree.manifest
  pub generation : image.generation ≡ at
  pub next_number : image.next_number ≡ served.map.next
  pub entries : image.entries ≡ served.map.entries
  pub changes : AreChanges served.tree image.changes
