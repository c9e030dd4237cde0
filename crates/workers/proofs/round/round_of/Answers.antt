-- what the workers left is what the round gives
use Rattle.std.proofs.Common.{vec_len, sym, ◌∙◌}
use Rattle.std.proofs.lemmas.List.Elements.{All-same}
use Rattle.journal.specs.Receipts.{IsFresh}
use Rattle.workers.proofs.Rounds.{broken_by, room_kept, two_of_ok}
use Rattle.workers.specs.Round.{AreServed}
use Rattle.workers.proofs.round.round_of.Goals as goal

pub returns-clause-each : goal.returns-clause-each
returns-clause-each g c =
    let left = c.left_by.ensures in
    let channel = g.C.Channel in
    two_of_ok (λ afters kept. AreServed channel.takes channel.posts channel.reports channel.reported g.N.Opening.turns
    c.args.state.channels.items afters kept) c.left_by.result
    (λ round. round.channels.items) (λ round. round.receipts.items) _ _ left.channels left.receipts left.well
    c.serve_all-joined.ensures.served

pub returns-clause-broken : goal.returns-clause-broken
returns-clause-broken g c =
    let channel = g.C.Channel in
    broken_by channel.takes channel.posts g.N.Opening.turns c.args.state.channels.items c.serve_all-joined.result.channels
    c.left_by.result c.left_by.ensures.broken c.left_by.ensures.left c.serve_all-joined.ensures.broken

pub returns-clause-room : goal.returns-clause-room
returns-clause-room g c =
    let left = c.left_by.ensures in
    room_kept c.left_by.result (λ round. round.journal) (λ round. round.receipts.items)
    (λ round. vec_len round.receipts) g.N.Ledger.parts _ g.N.Opening.turns _ _ left.room left.receipts left.workers
    (sym c.requires.parts ∙ c.requires.a_part_each) c.serve_all-joined.ensures.workers
    c.serve_all-joined.ensures.places

pub invariant_of-workers : goal.invariant_of-workers
invariant_of-workers g c =
    let parts = c.into_parts-journal.ensures in
    record {
      named = c.requires.turns.0;
      most = c.requires.turns.1;
      parts = c.open-shared.ensures.parts ∙ sym c.requires.parts ∙ c.requires.a_part_each;
      no_amount = c.open-shared.ensures.no_amount;
      len = parts.workers ∙ c.requires.buffers.workers;
      fresh = All-same (IsFresh c.args.options.now.turns) _ c.args.state.buffers.receipts parts.receipts c.requires.buffers.fresh;
    }
