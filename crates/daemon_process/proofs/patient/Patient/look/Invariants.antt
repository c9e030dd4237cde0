-- What was found so far is that there is no ask now, and the channel tells what it told.
use Rattle.std.specs.Prelude.{◌≡◌, true}
use Rattle.daemon_process.specs.Patience.{Waits}
use Rattle.daemon_process.proofs.patient.Patient.look.Given as goal

abbrev pub invariant-loop-again : goal.invariant-loop-again
invariant-loop-again g l =
    Waits g.C.Channel.takes l.fn.self.channel l.self.channel
    × (l.self.stop ≡ l.fn.self.stop)
    × (g.C.Channel.reports ≡ true → g.C.Channel.reported l.self.channel ≡ g.C.Channel.reported l.fn.self.channel)
