-- The lock lends some broker.
use Rattle.broker_process.proofs.PlayingLemmas.{printed-by_some}
use Rattle.broker_process.proofs.shared_desk.SharedDesk.print_begun.Goals as goal

pub returns : goal.returns
returns g c = record { printed = printed-by_some c.print_begun.result c.broker.result.now c.args.begun.now _ _ c.print_begun.ensures.printed }
