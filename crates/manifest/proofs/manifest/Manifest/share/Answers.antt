-- What is shared is a manifest, and so makes a tree.
use Rattle.std.proofs.Common.{List, subst, sym}
use Rattle.manifest.specs.Manifest.{Line, IsManifest}
use Rattle.manifest.proofs.ManifestIsTree.{tree_of-IsTree}
use Rattle.manifest.proofs.manifest.Manifest.share.Goals as goal

pub returns-clause-makes_tree : goal.returns-clause-makes_tree
returns-clause-makes_tree c =
    tree_of-IsTree _ (subst (λ (lines : List Line). IsManifest (record { commit = c.self.inside.commit; digest = c.self.inside.digest; lines = lines })) (sym c.in_ok-lines.ensures) c.self.invariant)
