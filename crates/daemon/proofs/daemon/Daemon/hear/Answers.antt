-- The phase in which data is taken; and what a wrong body of must-fail/ breaks, where an answer makes its refusal cheap.
use Rattle.std.proofs.Common.{rules, arith}
use Rattle.std.proofs.lemmas.Bool.Decides.{nat_tests}
use Rattle.daemon.proofs.PartLemmas.{is_raising_behind, is_raising_data, is_taking_part}
use Rattle.daemon.proofs.daemon.Daemon.hear.Goals as goal

pub returns-in-Heard : goal.returns-in-Heard
returns-in-Heard c = search rules

pub take_data-requires : goal.take_data-requires
take_data-requires c = record {
  raising = is_raising_data c.copy-node.result c.hear.new.self c.args.message.now c.in-GotData.session c.in-GotData.generation c.in-GotData.version c.in-GotData.ensures.heard c.hear.ensures.after;
}

pub take_last-requires-clause-taking : goal.take_last-requires-clause-taking
take_last-requires-clause-taking c =
    is_taking_part c.copy-node.result c.hear.new.self c.args.message.now c.in-GotPart.session c.in-GotPart.generation c.in-GotPart.version c.in-GotPart.position c.in-GotPart.count c.in-GotPart.ensures.heard c.hear.ensures.after

pub take_last-requires-clause-raising : goal.take_last-requires-clause-raising
take_last-requires-clause-raising c =
    is_raising_behind c.copy-node.result c.hear.new.self c.args.message.now c.in-GotPart.session c.in-GotPart.generation c.in-GotPart.version c.in-GotPart.position c.in-GotPart.count
    c.in-GotPart.ensures.heard c.hear.ensures.after (grind (arith, nat_tests))
