-- What was laid over the manifest is the changed tree, whose links both rounds ask.
use Rattle.std.proofs.Common.{Some, None, sym, ap, subst, ◌∙◌}
use Rattle.std.specs.List.{AllByRecursion}
use Rattle.checkout.specs.Around.{GivesTarget, IsFirstAbove, links_now}
use Rattle.checkout.specs.UnlinkedFiles.{is_gone}
use Rattle.checkout.specs.Rounds.{cuts, first_of}
use Rattle.manifest.specs.Tally.{count_of}
use Rattle.checkout.proofs.RoundsAround.{all_give, are_apart, are_beside, are_counted, around_above, around_cut}
use Rattle.checkout.proofs.changes.bad_around.first_bad_around.Goals as goal

pub first_above-requires-clause-beside : goal.first_above-requires-clause-beside
first_above-requires-clause-beside c = are_beside c.args.manifest.now c.args.changes.now c.args.added.now c.args.gone.now c.args.lost.now c.requires.laid

pub first_above-requires-clause-counted : goal.first_above-requires-clause-counted
first_above-requires-clause-counted c = are_counted c.args.manifest.now c.args.changes.now c.args.added.now c.args.gone.now c.args.lost.now c.requires.laid

pub first_above-requires-clause-apart : goal.first_above-requires-clause-apart
first_above-requires-clause-apart c = are_apart c.args.manifest.now c.args.changes.now c.args.added.now c.args.gone.now c.args.lost.now c.requires.laid

pub first_above-requires-clause-targets : goal.first_above-requires-clause-targets
first_above-requires-clause-targets c =
    let links = links_now c.args.manifest.now c.args.added.now c.args.gone.now in
    subst (AllByRecursion (GivesTarget links)) (sym c.as_slice-links.ensures.links) (all_give c.args.manifest.now c.args.changes.now c.args.added.now c.args.gone.now c.args.lost.now c.requires.laid)

pub returns-in-Some : goal.returns-in-Some
returns-in-Some c =
    let links = links_now c.args.manifest.now c.args.added.now c.args.gone.now in
    let first = subst (λ xs. IsFirstAbove links xs (Some c.in-Some.index)) c.as_slice-links.ensures.links (subst (IsFirstAbove links c.as_slice-links.result.now) c.in-Some.is c.in_ok-index.ensures.first) in
    around_above c.args.manifest.now c.args.changes.now c.args.added.now c.args.gone.now c.args.lost.now c.requires.laid c.in-Some.index first

pub returns-in-None : goal.returns-in-None
returns-in-None c =
    let links = links_now c.args.manifest.now c.args.added.now c.args.gone.now in
    let none = subst (λ xs. IsFirstAbove links xs None) c.as_slice-links.ensures.links (subst (IsFirstAbove links c.as_slice-links.result.now) c.in-None.is c.in_ok-index.ensures.first) in
    let found = c.first_cut.ensures ∙ ap (first_of (cuts c.args.manifest.now c.args.added.now (is_gone c.args.gone.now) (count_of c.args.lost.now)) 0) c.as_slice-links.ensures.links in
    around_cut c.args.manifest.now c.args.changes.now c.args.added.now c.args.gone.now c.args.lost.now c.requires.laid c.first_cut.result none found
