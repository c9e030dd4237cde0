-- One connection more is changed.
use Rattle.std.proofs.Common.{◌≡◌, ◌<◌, length, ap, ◌∙◌, arith}
use Rattle.std.specs.Prelude.{slice_set}
use Rattle.std.proofs.lemmas.List.{get_or_default}
use Rattle.std.proofs.lemmas.List.Edits.{map_over_more}
use Rattle.broker_process.specs.Connections.{noted}
use Rattle.broker_process.proofs.connections.Connections.note.Goals as goal

pub loop-connection-preserved : goal.loop-connection-preserved
loop-connection-preserved c =
    let i = c.loop-connection.connection-index in
    let items = c.loop-connection.connection-items in
    let all = c.args.self.now.list.items in
    let same : length c.deref_mut-connection-items.result.now ≡ length all = ap length c.deref_mut-connection-items.ensures.value in
    let lt : i < length all = (let within = c.loop-connection-test.true in omega arith) in
    let lt_items : i < length items = omega (arith, c.loop-connection.auto.connection-items, c.loop-connection-test.true) in
    ap (slice_set items i) c.note.ensures.noted ∙ map_over_more (noted c.args.number c.args.heard) all items i _ lt c.loop-connection.invariant (get_or_default items i _ _ lt_items)
