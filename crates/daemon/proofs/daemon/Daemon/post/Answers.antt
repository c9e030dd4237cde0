-- What the daemon serves posts.
use Rattle.std.proofs.Common.{Some, subst}
use Rattle.daemon.specs.Daemon.{DaemonState}
use Rattle.daemon.specs.Serving.{DaemonPosts}
use Rattle.daemon.proofs.DaemonCalls.{posts-with}
use Rattle.daemon.proofs.daemon.Daemon.post.Goals as goal

pub returns : goal.returns
returns c =
    let was : DaemonState = record { node = c.self.inside.node; server = c.self.inside.server; reading = c.self.inside.reading } in
    record {
      posts = subst (λ (d : DaemonState). DaemonPosts c.args.broker.now c.args.daemon c.args.position c.post.result c.post.new.broker d (record { node = c.self.inside.node; server = Some c.post.new.self; reading = c.self.inside.reading })) c.self.view_is
          (posts-with c.args.broker.now c.post.new.broker c.args.daemon c.args.position c.post.result was c.in-Some.server c.post.new.self c.in-Some.is c.post.ensures.posts);
    }
