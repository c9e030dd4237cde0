-- Who took.
use Rattle.std.proofs.Common.{length, set, subst, arith}
use Rattle.daemon.specs.Serving.{DaemonTakes, IsIndex}
use Rattle.world.specs.State.{State}
use Rattle.world.specs.Step.{Once}
use Rattle.world.specs.declared.event.Event.TheVariants.{Take}
use Rattle.world.proofs.StepLemmas.{changed-at, Once-takes}
use Rattle.world.proofs.world.World.take.Goals as goal

pub returns : goal.returns
returns c =
    let old : State = record { manifest = c.self.inside.manifest; limit = c.self.inside.limit; broker = c.self.inside.broker; daemons = c.self.inside.daemons.items; messages = c.self.inside.messages.items } in
    let at : IsIndex (length old.daemons) c.args.daemon.0 c.in-Some.index = record {
      counted = c.in-Some.ensures.index.counted;
      is = c.in-Some.ensures.index.is;
      within = omega (arith, c.in-Some.ensures.index.within, c.len.ensures, c.self.inside.daemons.ok.0);
    } in
    record {
      once = subst (λ (s : State). Once s (Take c.args.daemon) c.take.result (record old { broker = c.take.new.broker; daemons = (set old.daemons c.in-Some.index c.take.new.self) })) c.self.view_is
          (Once-takes old c.args.daemon c.in-Some.index c.take.result c.take.new.broker (set old.daemons c.in-Some.index c.take.new.self) at (changed-at (DaemonTakes old.broker c.args.daemon c.take.result c.take.new.broker) old.daemons c.in-Some.index c.index_mut-taker.result.now c.take.new.self at.within c.index_mut-taker.ensures.value c.take.ensures.takes));
    }
