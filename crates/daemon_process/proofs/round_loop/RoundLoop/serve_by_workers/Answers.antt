-- The workers' channels are those of the round.
use Rattle.daemon_process.proofs.RoundEnds.{ends_by_workers}
use Rattle.daemon_process.proofs.round_loop.RoundLoop.serve_by_workers.Goals as goal

pub returns-in-Err-clause-ends : goal.returns-in-Err-clause-ends
returns-in-Err-clause-ends g c =
    let channel = g.C.Channel in
    ends_by_workers channel.takes channel.posts channel.reports channel.reported g.C.ChannelEnd.why_ended c.args.workers.now.channels
    c.replace-channels.result c.replace-channels.new.dest.items c.in-Err.exit c.replace-channels.ensures.value c.in-Err.ensures.ends
