-- A link before is above itself, or this one, or none.
use Rattle.std.proofs.Common.{Some, arith, ap, sym, ◌∙◌}
use Rattle.std.proofs.lemmas.Option.{slice_get-get_or, slice_get_within}
use Rattle.manifest.specs.declared.link_change.LinkChange.{LinkChange}
use Rattle.checkout.specs.Around.{links_now}
use Rattle.checkout.proofs.AboveItself.{first_at, none_so_far}
use Rattle.checkout.proofs.ColourLaws.{none-AreRight}
use Rattle.checkout.proofs.changes.around.first_above.Goals as goal

pub loop-index-init : goal.loop-index-init
loop-index-init c = rw c.new-colours.ensures (record {
  right = none-AreRight (links_now c.args.manifest.now c.args.added.now c.args.gone.now);
  none = λ before other within. absurd (omega (arith, within));
})

pub returns-then-branch : goal.returns-then-branch
returns-then-branch c =
    let links = links_now c.args.manifest.now c.args.added.now c.args.gone.now in
    let change = c.index-links-index.result in
    let here = slice_get-get_or c.args.links.now c.loop-index.index change c.loop-index-test.true ∙ ap (λ (x : LinkChange). Some x) (sym c.index-links-index.is) in
    record { first = first_at links c.args.links.now c.loop-index.index change here (c.in_ok-is_above.ensures.above.0 c.if-branch.true) c.loop-index.invariant.none }

pub loop-index-preserved : goal.loop-index-preserved
loop-index-preserved c =
    let links = links_now c.args.manifest.now c.args.added.now c.args.gone.now in
    let change = c.index-links-index.result in
    let here = slice_get-get_or c.args.links.now c.loop-index.index change c.loop-index-test.true ∙ ap (λ (x : LinkChange). Some x) (sym c.index-links-index.is) in
    record {
      right = c.in_ok-is_above.ensures.right;
      none = none_so_far links c.args.links.now c.loop-index.index change here (λ above. let yes = c.in_ok-is_above.ensures.above.1 above in let no = c.if-branch.false in cc (yes, no)) c.loop-index.invariant.none;
    }

pub returns : goal.returns
returns c =
    let past = c.loop-index-test.false in
    record { first = λ index change here above. let within = slice_get_within c.args.links.now index change here in c.loop-index.invariant.none index change (omega (arith, past, within)) here above }
