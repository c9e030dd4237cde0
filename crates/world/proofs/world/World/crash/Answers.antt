-- Who is gone.
use Rattle.std.proofs.Common.{length, set, subst, arith}
use Rattle.daemon.specs.Serving.{IsIndex}
use Rattle.daemon.specs.Talking.{EndsSo}
use Rattle.world.specs.State.{State}
use Rattle.world.specs.Step.{Once}
use Rattle.world.specs.declared.event.Event.TheVariants.{Crash}
use Rattle.daemon.specs.declared.happened.Happened.TheVariants as happened
use Rattle.world.proofs.StepLemmas.{changed-at, Once-crashes}
use Rattle.world.proofs.world.World.crash.Goals as goal

pub returns : goal.returns
returns c =
    let old : State = record { manifest = c.self.inside.manifest; limit = c.self.inside.limit; broker = c.self.inside.broker; daemons = c.self.inside.daemons.items; messages = c.self.inside.messages.items } in
    let at : IsIndex (length old.daemons) c.args.daemon.0 c.in-Some.index = record {
      counted = c.in-Some.ensures.index.counted;
      is = c.in-Some.ensures.index.is;
      within = omega (arith, c.in-Some.ensures.index.within, c.len.ensures, c.self.inside.daemons.ok.0);
    } in
    record {
      once = subst (λ (s : State). Once s (Crash c.args.daemon) happened.Crashed (record old { broker = c.gone.new.self; daemons = (set old.daemons c.in-Some.index c.crash.new.self) })) c.self.view_is
          (Once-crashes old c.args.daemon c.in-Some.index c.gone.new.self (set old.daemons c.in-Some.index c.crash.new.self) at c.gone.ensures.gone (changed-at (EndsSo) old.daemons c.in-Some.index c.index_mut-ended.result.now c.crash.new.self at.within c.index_mut-ended.ensures.value c.crash.ensures.gone));
    }
