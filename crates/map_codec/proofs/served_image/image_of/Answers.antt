use Rattle.std.proofs.Common.{sym, subst}
use Rattle.checkout.specs.Changes.{AreChanges}
use Rattle.manifest.specs.Tree.{Tree}
use Rattle.map_image.specs.Fit.{CountsFit}
use Rattle.map_codec.proofs.EntryLaws.{counts_taken, fit_taken}
use Rattle.map_codec.proofs.served_image.image_of.Goals as goal

pub returns-clause-fit : goal.returns-clause-fit
returns-clause-fit c =
    let served = c.args.served.now in
    let changes : AreChanges served.tree c.in_ok-changes.changes = subst (λ (t : Tree). AreChanges t c.in_ok-changes.changes) c.tree-tree.ensures.tree c.in_ok-changes.ensures.changes in
    fit_taken served c.map-map.ensures.sound _ c.in_ok-entries.ensures.entries changes c.in_ok-changes.ensures.names c.in_ok-entries.ensures.named

pub returns-clause-counts : goal.returns-clause-counts
returns-clause-counts c =
    subst CountsFit (sym c.in_ok-entries.ensures.entries) (counts_taken c.args.served.now c.map-map.ensures.sound)
