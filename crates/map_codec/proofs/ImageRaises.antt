-- From the image of what a daemon serves the same is raised over its manifest, and nothing stands against it.
use Rattle.std.proofs.Common.{◌≡◌, ℕ, refl, sym, subst}
use Rattle.checkout.proofs.GoodRounds.{changes_are_good}
use Rattle.checkout.proofs.OwnTree.{tree_is_changed}
use Rattle.checkout.specs.BadChanges.{IsBadChange}
use Rattle.eden_base.specs.declared.number.FileId.{FileId}
use Rattle.manifest.specs.Manifest.{Manifest, IsManifest}
use Rattle.manifest.specs.Tree.{Tree, IsTree}
use Rattle.std.specs.Prelude.{List, None}
use Rattle.entry_table.specs.declared.kept.Kept.{Kept}
use Rattle.fuse_ops.specs.Served.{ServedState, plain}
use Rattle.fuse_ops.specs.Soundness.{IsSound}
use Rattle.map_codec.specs.Raising.{AreRaisable, IsRaisable, raised, tree_told}
use Rattle.map_codec.specs.Taking.{IsImageOf, IsNameOf}
use Rattle.map_image.specs.declared.image.Image.{Image}
use Rattle.map_image.specs.declared.version.NamedBy.{NamedBy}
use Rattle.map_codec.proofs.SoundRaises.{sound_raises}

module _ (served : ServedState) (at : ℕ) (image : Image) (sound : IsSound served) (tree : IsTree served.tree) (manifest : IsManifest served.tree.manifest) (by : NamedBy) (is : IsImageOf served at by image) where
  abbrev m : Manifest
  m = served.tree.manifest

  good : IsBadChange m image.changes None
  good = changes_are_good served.tree image.changes tree manifest is.changes

  same_tree : tree_told m image ≡ served.tree
  same_tree = tree_is_changed served.tree image.changes tree manifest is.changes

  -- only a lack of memory prevents that the image is restored
  pub image_raises : IsRaisable m image
  image_raises = record {
    tree = record { name = subst (IsNameOf m) (sym is.name) refl; changes = good };
    entries =
        subst (λ (t : Tree). AreRaisable t image.entries image.next_number) (sym same_tree)
        (subst (λ (es : List Kept). AreRaisable served.tree es image.next_number) (sym is.entries)
        (subst (AreRaisable served.tree served.map.entries) (sym is.next_number) (sound_raises served sound)));
  }

  -- and what is raised from it knows the same
  pub raised_knows : (limit : ℕ) (files : List FileId) → plain (raised m image limit files) ≡ plain served
  raised_knows limit files = λ i. record { entries = is.entries i; next = is.next_number i; tree = same_tree i }
