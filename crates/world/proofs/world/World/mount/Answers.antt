-- Who waited has the seat and serves.
use Rattle.std.proofs.Common.{IsTrue, ◌<◌, length, set, refl, sym, ◌∙◌, subst, arith}
use Rattle.std.proofs.lemmas.Option.{slice_get_read}
use Rattle.eden_base.proofs.MemberLemmas.{some-same}
use Rattle.daemon.specs.Daemon.{DaemonState, is_waiting}
use Rattle.std.specs.Prelude.{slice_get}
use Rattle.daemon.specs.Serving.{IsIndex}
use Rattle.daemon.specs.Talking.{MountsSo}
use Rattle.world.specs.State.{State}
use Rattle.world.specs.Step.{Once}
use Rattle.daemon.specs.declared.happened.Happened.TheVariants as happened
use Rattle.daemon.specs.declared.happened.Refusal.TheVariants.{NoMemory}
use Rattle.world.specs.declared.event.Event.TheVariants.{Mount}
use Rattle.daemon.proofs.Positions.{none-unless}
use Rattle.world.proofs.StepLemmas.{changed-at, waits-read, Once-mount-lacks, Once-mounts}
use Rattle.world.proofs.world.World.mount.Goals as goal

pub returns-in_default-opening : goal.returns-in_default-opening
returns-in_default-opening c =
    let old : State = record { manifest = c.self.inside.manifest; limit = c.self.inside.limit; broker = c.self.inside.broker; daemons = c.self.inside.daemons.items; messages = c.self.inside.messages.items } in
    let at : IsIndex (length old.daemons) c.args.daemon.0 c.in-Some.index = record {
      counted = c.in-Some.ensures.index.counted;
      is = c.in-Some.ensures.index.is;
      within = omega (arith, c.in-Some.ensures.index.within, c.len.ensures, c.self.inside.daemons.ok.0);
    } in
    record {
      once = subst (λ (s : State). Once s (Mount c.args.daemon) (happened.Refused NoMemory) s) c.self.view_is
          (Once-mount-lacks old c.args.daemon c.in-Some.index c.index.result.now at
          (waits-read old.daemons c.in-Some.index c.index.result.now at.within c.if-not-is_waiting.ensures.waiting c.index.ensures).0
          (waits-read old.daemons c.in-Some.index c.index.result.now at.within c.if-not-is_waiting.ensures.waiting c.index.ensures).1
          (sym c.mount_refusal.ensures.fault ∙ none-unless c.mount_refusal.result c.in_default-mount_refusal.not-Some));
    }

pub returns : goal.returns
returns c =
    let old : State = record { manifest = c.self.inside.manifest; limit = c.self.inside.limit; broker = c.self.inside.broker; daemons = c.self.inside.daemons.items; messages = c.self.inside.messages.items } in
    let at : IsIndex (length old.daemons) c.args.daemon.0 c.in-Some.index = record {
      counted = c.in-Some.ensures.index.counted;
      is = c.in-Some.ensures.index.is;
      within = omega (arith, c.in-Some.ensures.index.within, c.len.ensures, c.self.inside.daemons.ok.0);
    } in
    let waits = waits-read old.daemons c.in-Some.index c.index.result.now at.within c.if-not-is_waiting.ensures.waiting c.index.ensures in
    record {
      once = subst (λ (s : State). Once s (Mount c.args.daemon) (happened.Mounted c.mount-generation.result) (record old { broker = c.mount-generation.new.self; daemons = (set old.daemons c.in-Some.index c.mount.new.self) })) c.self.view_is
          (Once-mounts old c.args.daemon c.in-Some.index c.index.result.now c.new-server.result c.mount-generation.new.self c.mount-generation.result c.in-Ok.served (set old.daemons c.in-Some.index c.mount.new.self) at waits.0 waits.1
          (sym c.mount_refusal.ensures.fault ∙ none-unless c.mount_refusal.result c.in_default-mount_refusal.not-Some)
          c.new-server.ensures.new c.in-Ok.ensures.served c.mount-generation.ensures.generation c.mount-generation.ensures.mounted (changed-at (MountsSo c.mount-generation.result c.new-server.result) old.daemons c.in-Some.index c.index_mut-waited.result.now c.mount.new.self at.within c.index_mut-waited.ensures.value c.mount.ensures.mounts));
    }

pub mount-requires : goal.mount-requires
mount-requires c =
    let daemons = c.self.inside.daemons.items in
    let within : c.in-Some.index < length daemons = omega (arith, c.in-Some.ensures.index.within, c.len.ensures, c.self.inside.daemons.ok.0) in
    let waits = waits-read daemons c.in-Some.index c.index.result.now within c.if-not-is_waiting.ensures.waiting c.index.ensures in
    let there = slice_get_read daemons (length daemons) c.in-Some.index c.index_mut-waited.result.now refl within c.index_mut-waited.ensures.value in
    record { waiting = subst (λ (d : DaemonState). IsTrue (is_waiting d)) (some-same (slice_get daemons c.in-Some.index) c.index.result.now c.index_mut-waited.result.now waits.0 there) waits.1 }
