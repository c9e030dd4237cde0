-- the history and the total grow by the record, and what backs the tree goes on to
use Rattle.std.proofs.Common.{◌∙◌, refl, arith}
use Rattle.workers.proofs.Replaying.{replays_by, backs_kept, total_more}
use Rattle.workers.proofs.locked.LockedMap.turn.Goals as goal

pub invariant_of-self : goal.invariant_of-self
invariant_of-self g c =
    let was = c.self.invariant in
    let old = c.self.inside in
    let turn = c.serve_one-turn in
    let step = turn.ensures in
    let given = c.give.ensures in
    let longer = total_more old.journal.records turn.new.journal.records _ _ _ refl refl step.pushes in (
      replays_by old.journal.records turn.new.journal.records g.N.Opening.opening old.served turn.new.served
          c.args.ask.what turn.result.answer was.0 step.replay step.pushes,
      step.same_manifest ∙ was.1,
      backs_kept _ _ old.served.tree turn.new.served.tree was.2 step.same_content step.same_manifest,
      total_more old.journal.records turn.new.journal.records _ _ _ was.3 c.add.ensures.total step.pushes,
      total_more old.journal.records turn.new.journal.records _ _ _ was.4 given.parts_given step.pushes,
      omega (arith, was.5, given.amount_given),
      omega (arith, was.6, longer, step.room),
    )
