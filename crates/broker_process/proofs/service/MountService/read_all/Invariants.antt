-- What comes of the next reads comes of them and those before.
use Rattle.std.proofs.Common.{ℕ, List, Option, Result}
use Rattle.broker_process.specs.Serving.{ServesIn}
use Rattle.broker_process.specs.declared.fault.MountRunFault.{MountRunFault}
use Rattle.broker_process.specs.declared.service.MountEnd.{MountEnd}
use Rattle.broker_process.proofs.service.MountService.read_all.Given as goal

abbrev pub invariant-loop : goal.invariant-loop
invariant-loop g l =
    (ended : Result MountEnd MountRunFault) (left_then output_then : Option (List ℕ))
    → ((reads : ℕ) × ServesIn reads ended (g.I.Read.remaining l.device) (g.O.Write.contents l.answers) left_then output_then)
    → ((reads : ℕ) × ServesIn reads ended (g.I.Read.remaining l.fn.device) (g.O.Write.contents l.fn.answers) left_then output_then)
