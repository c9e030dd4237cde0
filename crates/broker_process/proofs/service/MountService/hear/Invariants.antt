-- The rest of the message is for daemons, and what comes of it comes of the whole.
use Rattle.broker_desk.specs.declared.progress.Progress.{Progress}
use Rattle.mount_wire.specs.Message.{IsForDaemons}
use Rattle.broker_process.specs.Serving.{IsHeardToTheEnd}
use Rattle.broker_process.proofs.service.MountService.hear.Given as goal

abbrev pub invariant-loop : goal.invariant-loop
invariant-loop g l =
    IsForDaemons l.left × ((end : Progress) → IsHeardToTheEnd l.left end → IsHeardToTheEnd l.fn.message end)
