-- Who worked.
use Rattle.std.proofs.Common.{length, set, subst, arith}
use Rattle.daemon.specs.Serving.{DaemonWorks, IsIndex}
use Rattle.world.specs.State.{State}
use Rattle.world.specs.Step.{Once}
use Rattle.world.specs.declared.event.Event.TheVariants.{Work}
use Rattle.world.proofs.StepLemmas.{changed-at, Once-works}
use Rattle.world.proofs.world.World.work.Goals as goal

pub returns : goal.returns
returns c =
    let old : State = record { manifest = c.self.inside.manifest; limit = c.self.inside.limit; broker = c.self.inside.broker; daemons = c.self.inside.daemons.items; messages = c.self.inside.messages.items } in
    let at : IsIndex (length old.daemons) c.args.daemon.0 c.in-Some.index = record {
      counted = c.in-Some.ensures.index.counted;
      is = c.in-Some.ensures.index.is;
      within = omega (arith, c.in-Some.ensures.index.within, c.len.ensures, c.self.inside.daemons.ok.0);
    } in
    record {
      once = subst (λ (s : State). Once s (Work c.args.daemon c.args.position c.args.fails) c.work.result (record old { daemons = (set old.daemons c.in-Some.index c.work.new.self) })) c.self.view_is
          (Once-works old c.args.daemon c.args.position c.args.fails c.in-Some.index c.work.result (set old.daemons c.in-Some.index c.work.new.self) at (changed-at (DaemonWorks c.args.position c.args.fails c.work.result) old.daemons c.in-Some.index c.index_mut-worker.result.now c.work.new.self at.within c.index_mut-worker.ensures.value c.work.ensures.works));
    }
