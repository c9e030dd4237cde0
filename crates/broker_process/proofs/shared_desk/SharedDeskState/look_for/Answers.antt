-- What was found came, since memory was not refused.
use Rattle.broker_process.proofs.PlayingLemmas.{has_come}
use Rattle.broker_process.proofs.shared_desk.SharedDeskState.look_for.Goals as goal

pub returns : goal.returns
returns c = record {
  come = has_come c.args.self.now.desk c.look.new.desk c.args.awaited.now c.in-Some.came c.is_lacking.result c.in-Some.ensures.looks c.is_lacking.ensures.lacks c.if-is_lacking.false;
}
