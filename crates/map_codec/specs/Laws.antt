-- Laws of the definitions alone: from what one daemon handed over the next one serves the same, and what is handed over
-- is not too long.
use Rattle.std.specs.Prelude.{◌≡◌, ℕ, List}
use Rattle.manifest.specs.Manifest.{Manifest, IsManifest}
use Rattle.manifest.specs.Tree.{IsTree}
use Rattle.fuse_ops.specs.Served.{ServedState, plain}
use Rattle.fuse_ops.specs.Soundness.{IsSound}
use Rattle.map_image.specs.Versions.{IsNoLonger}
use Rattle.map_codec.specs.Handover.{CannotBeTakenOver, IsHandedOver, IsTakenOver}

-- what is taken over from the bytes of what was served over the same manifest is the same, at whatever limit
abbrev pub TakenKnows : Type 0
TakenKnows =
    (manifest : Manifest) (limit at g version : ℕ) (bytes : List ℕ) (made later : ServedState) → IsSound made →
    IsTree made.tree → IsManifest manifest → made.tree.manifest ≡ manifest → IsHandedOver made g version bytes →
    IsTakenOver manifest limit at bytes later → plain later ≡ plain made

-- what was handed over can be taken over, at the generation of the image
abbrev pub CanBeTaken : Type 0
CanBeTaken =
    (manifest : Manifest) (at version : ℕ) (bytes : List ℕ) (made : ServedState) → IsSound made →
    IsTree made.tree → IsManifest manifest → made.tree.manifest ≡ manifest → IsHandedOver made at version bytes →
    CannotBeTakenOver manifest at bytes → ⊥

-- the bytes that are handed over are no longer than the longest text of their version
abbrev pub HandedIsNoLonger : Type 0
HandedIsNoLonger =
    (at version : ℕ) (bytes : List ℕ) (made : ServedState) → IsHandedOver made at version bytes →
    IsNoLonger version bytes
