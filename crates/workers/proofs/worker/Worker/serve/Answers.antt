-- the turn is one more, of the ask that was taken
use Rattle.std.proofs.Common.{List, sym, subst}
use Rattle.fuse_wire.specs.declared.request.Request.{Request}
use Rattle.journal.specs.declared.receipt.Receipt.{Receipt}
use Rattle.workers.specs.Endings.{Goes, Replies}
use Rattle.workers.specs.declared.channel.NextAsk.TheVariants as took
use Rattle.workers.specs.declared.channel.Posted.TheVariants as post
use Rattle.workers.proofs.Turning.{goes_after, turned_well}
use Rattle.workers.proofs.worker.Worker.serve.Goals as goal

pub returns-in-Done-clause-ends : goal.returns-in-Done-clause-ends
returns-in-Done-clause-ends g c start before went taken =
    let channel = g.C.Channel in
    let copy = c.copy-what.ensures in
    let told : Replies channel.posts c.args.self.now.channel c.args.ask.unique c.post-posted.result.1 post.Done c.post-posted.new.channel =
    rw (c.post-posted.ensures.answer, ← c.in-Done.is) c.post-posted.ensures.replies in
    goes_after channel.takes channel.posts start c.push.new.self.list c.post-posted.new.channel c.after_turn.result _
    c.after_turn.ensures.after_turn
    (turned_well channel.takes channel.posts start c.copy-what.new.self.list c.push.new.self.list _
    before c.args.self.now.channel c.post-posted.new.channel c.push.ensures.list
    (subst (λ (rs : List Receipt). Goes channel.takes channel.posts start rs before) (sym copy.list) went)
    (subst (λ (what : Request). channel.takes before (took.Ask (record { unique = c.args.ask.unique; what = what })) c.args.self.now.channel)
    (sym copy.copy) taken)
    told)
