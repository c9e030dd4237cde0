-- the position was counted, and comes again
use Rattle.std.proofs.Common.{◌<◌, length, ◌∙◌, rules}
use Rattle.std.proofs.lemmas.Grind.{get_or_default_zero}
use Rattle.journal.proofs.Settling.{comes_again}
use Rattle.journal.proofs.settled.count.Goals as goal

pub returns-then-index-gt0-clause-twice : goal.returns-then-index-gt0-clause-twice
returns-then-index-gt0-clause-twice c _ =
    let receipt = c.receipt-item.result in
    let was = c.loop-receipt.invariant in
    let here : receipt.position < length c.args.counts.now.items = search rules in
    let there : receipt.position < length c.loop-receipt.counts.items = search rules in (
      receipt.position,
      here,
      comes_again c.args.receipts.now c.loop-receipt.receipt-index receipt _ c.index.result.now c.loop-receipt-test.true
          c.receipt-item.is c.if-index-gt0.true
          (c.index.ensures ∙ get_or_default_zero _ receipt.position c.index.result.now there ∙ was.1 receipt.position here),
    )
