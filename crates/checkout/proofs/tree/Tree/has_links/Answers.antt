-- A name was added, or not all of the manifest's are gone.
use Rattle.std.proofs.Common.{sym, ◌∙◌}
use Rattle.checkout.specs.UnlinkedFiles.{is_gone}
use Rattle.manifest.specs.Tally.{count_of}
use Rattle.checkout.proofs.OverlayLaws.{has_links-over}
use Rattle.checkout.proofs.tree.Tree.has_links.Goals as goal

pub returns : goal.returns
returns c =
    let i = c.self.inside in
    let all = has_links-over i.manifest i.made i.added (is_gone i.gone) (count_of i.lost) i.next_file c.self.invariant.0.parts c.args.dir in
    rw (← c.self.view_is) (c.has_links.ensures ∙ sym all)
