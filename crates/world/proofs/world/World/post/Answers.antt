-- Who posted.
use Rattle.std.proofs.Common.{length, set, subst, arith}
use Rattle.daemon.specs.Serving.{DaemonPosts, IsIndex}
use Rattle.world.specs.State.{State}
use Rattle.world.specs.Step.{Once}
use Rattle.world.specs.declared.event.Event.TheVariants.{Post}
use Rattle.world.proofs.StepLemmas.{changed-at, Once-posts}
use Rattle.world.proofs.world.World.post.Goals as goal

pub returns : goal.returns
returns c =
    let old : State = record { manifest = c.self.inside.manifest; limit = c.self.inside.limit; broker = c.self.inside.broker; daemons = c.self.inside.daemons.items; messages = c.self.inside.messages.items } in
    let at : IsIndex (length old.daemons) c.args.daemon.0 c.in-Some.index = record {
      counted = c.in-Some.ensures.index.counted;
      is = c.in-Some.ensures.index.is;
      within = omega (arith, c.in-Some.ensures.index.within, c.len.ensures, c.self.inside.daemons.ok.0);
    } in
    record {
      once = subst (λ (s : State). Once s (Post c.args.daemon c.args.position) c.post.result (record old { broker = c.post.new.broker; daemons = (set old.daemons c.in-Some.index c.post.new.self) })) c.self.view_is
          (Once-posts old c.args.daemon c.args.position c.in-Some.index c.post.result c.post.new.broker (set old.daemons c.in-Some.index c.post.new.self) at (changed-at (DaemonPosts old.broker c.args.daemon c.args.position c.post.result c.post.new.broker) old.daemons c.in-Some.index c.index_mut-poster.result.now c.post.new.self at.within c.index_mut-poster.ensures.value c.post.ensures.posts));
    }
