-- An added link gives the file, or its line is not gone.
use Rattle.std.proofs.Common.{sym, ◌∙◌}
use Rattle.checkout.specs.UnlinkedFiles.{is_gone}
use Rattle.manifest.specs.Tally.{count_of}
use Rattle.checkout.proofs.OverlayLaws.{is_linked-over}
use Rattle.checkout.proofs.tree.Tree.is_linked.Goals as goal

pub returns : goal.returns
returns c =
    let i = c.self.inside in
    let all = is_linked-over i.manifest i.made i.added (is_gone i.gone) (count_of i.lost) i.next_file c.self.invariant.0.parts c.args.file in
    rw (← c.self.view_is) (record { linked = c.is_linked.ensures ∙ sym all })
