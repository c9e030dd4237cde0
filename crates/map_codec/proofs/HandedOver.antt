-- From what was handed over the same is served.
use Rattle.std.proofs.Common.{◌≡◌, ℕ, List, ap, subst, sym, ◌∙◌}
use Rattle.manifest.specs.Manifest.{Manifest, IsManifest}
use Rattle.manifest.specs.Tree.{IsTree}
use Rattle.fuse_ops.specs.Served.{ServedState, plain}
use Rattle.fuse_ops.specs.Soundness.{IsSound}
use Rattle.map_codec.proofs.ImageRaises.{image_raises, raised_knows}
use Rattle.map_codec.specs.Raising.{raised, IsRaisable}
use Rattle.map_image.specs.declared.image.Image.{Image}
use Rattle.map_image.specs.Versions.{named_by}
use Rattle.map_codec.proofs.OneImage.{one_of_text}
use Rattle.map_codec.specs.Handover.{CannotBeTakenOver, IsHandedOver, IsTakenOver}

pub taken_knows : (manifest : Manifest) (limit at g version : ℕ) (bytes : List ℕ) (made later : ServedState) → IsSound made → IsTree made.tree → IsManifest manifest → made.tree.manifest ≡ manifest → IsHandedOver made g version bytes → IsTakenOver manifest limit at bytes later
    → plain later ≡ plain made
taken_knows manifest limit at g version bytes made later sound tree is over handed taken =
    let one : taken.image ≡ handed.image = one_of_text taken.image handed.image taken.version version bytes taken.text handed.text in
    let files = taken.is.files in
    ap plain taken.is.is
    ∙ ap (λ (image : Image). plain (raised manifest image limit files)) one
    ∙ ap (λ (m : Manifest). plain (raised m handed.image limit files)) (sym over)
    ∙ raised_knows made g handed.image sound tree (subst IsManifest (sym over) is) (named_by version) handed.is_image limit files

pub can_be_taken : (manifest : Manifest) (at version : ℕ) (bytes : List ℕ) (made : ServedState) → IsSound made → IsTree made.tree → IsManifest manifest → made.tree.manifest ≡ manifest → IsHandedOver made at version bytes → CannotBeTakenOver manifest at bytes
    → ⊥
can_be_taken manifest at version bytes made sound tree is over handed cannot =
    cannot handed.image version handed.text handed.is_image.generation
    (subst (λ (m : Manifest). IsRaisable m handed.image) over (image_raises made at handed.image sound tree (subst IsManifest (sym over) is) (named_by version) handed.is_image))
