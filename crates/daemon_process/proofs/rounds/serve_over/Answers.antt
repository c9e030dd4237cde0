-- The channels come back as their workers left them, and only a round that broke or is unsettled ends the daemon.
use Rattle.std.proofs.Common.{◌≡◌, rules}
use Rattle.workers.proofs.Leaving.{left_served}
use Rattle.daemon_process.proofs.RoundEnds.{left_of_ok, left_of_same, unsettled_ends}
use Rattle.daemon_process.proofs.rounds.serve_over.Goals as goal

pub returns-in-Ok-clause-left : goal.returns-in-Ok-clause-left
returns-in-Ok-clause-left g c =
    let channel = g.C.Channel in
    left_of_ok channel.takes channel.posts c.args.parts.channels.items c.in-Ok.round.channels.items c.settle.result
    (λ back. back.channels.items) c.settle.ensures.channels
    (left_served channel.takes channel.posts channel.reports channel.reported 64 _ _ _ c.in-Ok.ensures.each)

pub returns-in-Ok-clause-ends : goal.returns-in-Ok-clause-ends
returns-in-Ok-clause-ends g c =
    let channel = g.C.Channel in
    unsettled_ends channel.takes channel.posts channel.reports channel.reported g.C.ChannelEnd.why_ended _ _ _ _
    c.settle.result c.in-Ok.ensures.each c.settle.ensures.unsettled c.settle.ensures.faulty

pub returns-in-Err-NoMemory-clause-left : goal.returns-in-Err-NoMemory-clause-left
returns-in-Err-NoMemory-clause-left g c =
    let channel = g.C.Channel in
    let same : c.back_of.result.channels.items ≡ c.args.parts.channels.items = search rules in
    left_of_same channel.takes channel.posts c.args.parts.channels.items c.back_of.result.channels.items same

-- What a wrong body of must-fail/ breaks; an answer makes its refusal cheap.
pub returns-in-Err-Broken-clause-ends : goal.returns-in-Err-Broken-clause-ends
returns-in-Err-Broken-clause-ends g c = search rules
