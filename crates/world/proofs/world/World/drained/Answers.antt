-- Who has something left.
use Rattle.std.proofs.Common.{List, length, set, sym, subst, arith}
use Rattle.takeover_core.specs.declared.message.Message.{Message}
use Rattle.daemon.specs.Serving.{IsIndex}
use Rattle.daemon.specs.Talking.{DrainsSo}
use Rattle.world.specs.State.{State}
use Rattle.world.specs.Step.{Once}
use Rattle.world.specs.declared.event.Event.TheVariants.{Drained}
use Rattle.daemon.specs.declared.happened.Happened.TheVariants as happened
use Rattle.world.proofs.StepLemmas.{changed-at, Once-undrained}
use Rattle.world.proofs.world.World.drained.Goals as goal

pub returns-in-Err : goal.returns-in-Err
returns-in-Err c =
    let old : State = record { manifest = c.self.inside.manifest; limit = c.self.inside.limit; broker = c.self.inside.broker; daemons = c.self.inside.daemons.items; messages = c.self.inside.messages.items } in
    let at : IsIndex (length old.daemons) c.args.daemon.0 c.in-Some.index = record {
      counted = c.in-Some.ensures.index.counted;
      is = c.in-Some.ensures.index.is;
      within = omega (arith, c.in-Some.ensures.index.within, c.len.ensures, c.self.inside.daemons.ok.0);
    } in
    record {
      once = subst (λ (s : State). Once s (Drained c.args.daemon) (happened.Refused c.from-in-Err.result) (record old { daemons = (set old.daemons c.in-Some.index c.drain.new.self); messages = c.reserve.new.self.items })) c.self.view_is
          (subst (λ (said : List Message). Once old (Drained c.args.daemon) (happened.Refused c.from-in-Err.result) (record old { daemons = (set old.daemons c.in-Some.index c.drain.new.self); messages = said })) (sym c.reserve.ensures.items)
          (Once-undrained old c.args.daemon c.in-Some.index c.in-Err.fault c.drain.result c.from-in-Err.result (set old.daemons c.in-Some.index c.drain.new.self) at c.in-Err.is (changed-at (λ was. DrainsSo was c.drain.result) old.daemons c.in-Some.index c.index_mut-drainer.result.now c.drain.new.self at.within c.index_mut-drainer.ensures.value c.drain.ensures.drains) c.from-in-Err.ensures));
    }
