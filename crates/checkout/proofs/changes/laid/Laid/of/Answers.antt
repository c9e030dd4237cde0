-- Links of which no file is given twice can all be added, and the ids of made files rise.
use Rattle.checkout.proofs.FirstBadLaws.{good_itself, ids_rise}
use Rattle.checkout.proofs.LaidTree.{can_be_added}
use Rattle.checkout.proofs.changes.laid.Laid.of.Goals as goal

pub brought-requires : goal.brought-requires
brought-requires c =
    let m = c.args.manifest.now in
    let changes = c.args.changes.now in
    record {
      rising = ids_rise m changes.next_file 1 changes.made (good_itself m changes c.requires.itself).made;
      fit = can_be_added m changes c.requires.is_manifest c.requires.itself c.in_ok-gone.ensures.good;
    }
