-- Both owners of an answer get one that is legal where the one that was applied is.
use Rattle.workers.proofs.Owned.{owned-replay, owned-loads, owned-fails, owned-asks}
use Rattle.workers.proofs.served_ask.serve_one.Goals as goal

pub returns-clause-replay : goal.returns-clause-replay
returns-clause-replay g c =
    owned-replay c.apply.result c.twice-answer.result.0 c.twice-answer.ensures.first c.args.served.now c.args.ask.what c.apply.new.self c.apply.ensures.replay

pub returns-clause-loads : goal.returns-clause-loads
returns-clause-loads g c =
    owned-loads c.apply.result c.twice-answer.result.0 c.twice-answer.ensures.first c.args.served.now.map c.args.ask.what c.apply.new.self.map c.apply.ensures.loads

pub returns-clause-fails : goal.returns-clause-fails
returns-clause-fails g c = owned-fails c.apply.result c.twice-answer.result.0 c.twice-answer.ensures.first _ _ c.apply.ensures.fails

pub returns-clause-asks : goal.returns-clause-asks
returns-clause-asks g c =
    owned-asks c.apply.result c.twice-answer.result.0 c.twice-answer.ensures.first c.args.served.now c.args.ask.what _ c.apply.ensures.asks
