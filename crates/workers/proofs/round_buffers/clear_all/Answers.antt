-- one more worker's receipts are dropped
use Rattle.std.proofs.Common.{◌+◌, ◌<◌, ◌≤◌, length, slice_index_or, arith}
use Rattle.std.proofs.lemmas.List.Elements.{All-set, AllWithin-more_set}
use Rattle.workers.specs.Buffers.{HasNone, HasPlaces}
use Rattle.workers.proofs.round_buffers.clear_all.Goals as goal

pub loop-kept-preserved : goal.loop-kept-preserved
loop-kept-preserved c =
    let was = c.loop-kept.invariant in
    let index = c.loop-kept.kept-index in
    let receipts = c.loop-kept.receipts in
    let kept = slice_index_or receipts index c.kept-item.result in
    let within : index < length receipts = omega arith in
    let cleared = c.clear.new.self in (
      AllWithin-more_set receipts index cleared within HasNone was.0 c.clear.ensures.list,
      λ turns all.
          let places : turns ≤ kept.places + length kept.list = was.1 turns all index c.kept-item.result within in
          let room : turns ≤ cleared.places + length cleared.list = omega (arith, places, c.clear.ensures.places) in
          All-set (HasPlaces turns) receipts index cleared room (was.1 turns all),
    )
