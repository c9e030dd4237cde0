-- How a daemon ends, and what it printed by then. (This project's own.)
use Rattle.std.specs.Prelude.{◌≡◌, ◌⊎◌, ⊤, ℕ, Bool, true, false, if◌then◌else◌, List, [], Option, Some, None, Result, Ok, Err, codes, map}
use Rattle.std.specs.Io.KnownBytes.{Appends}
use Rattle.std.specs.List.{concat}
use Rattle.broker_core.specs.declared.fault.TakeFault.{TakeFault}
use Rattle.broker_core.specs.declared.fault.TakeFault.TheVariants as refused
use Rattle.daemon_desk.specs.declared.answers.Claiming.{Claiming}
use Rattle.daemon_desk.specs.declared.answers.Claiming.TheVariants as claiming
use Rattle.daemon_process.specs.Serving.{serving_line}
use Rattle.daemon_process.specs.declared.exit.Exit.{Exit}
use Rattle.daemon_process.specs.declared.exit.Exit.TheVariants.{Ended, Faulty, HandedOver}
use Rattle.daemon_process.specs.declared.exit.DaemonEnd.{DaemonEnd}
use Rattle.daemon_process.specs.declared.exit.DaemonEnd.TheVariants.{Closed, Exits}
use Rattle.daemon_process.specs.declared.fault.DaemonFault.{DaemonFault}
use Rattle.daemon_process.specs.declared.fault.DaemonFault.TheVariants.{Broken}

-- ---- how a claim, a round or the end of standard input ends a daemon

-- How a daemon ends that handed over, by the answer to its claim: it handed over exactly where the seat is at another
-- generation. With the seat it serves on.
abbrev pub exit_behind_handover : Claiming → Option Exit
exit_behind_handover (claiming.Serves generation) = None
exit_behind_handover claiming.Stale = Some HandedOver
exit_behind_handover claiming.Ended = Some Ended
exit_behind_handover answer = Some (Faulty Broken)

-- whether the broker said that the mount is over, by why it has no more for a channel
abbrev pub is_over : Option TakeFault → Bool
is_over (Some refused.Ended) = true
is_over why = false

-- how a daemon ends whose round broke, by whether the broker said that the mount is over
abbrev pub exit_of_broken : Bool → Exit
exit_of_broken true = Ended
exit_of_broken false = Faulty Broken

-- how a daemon ends that did not get to serve, by whether standard input ended before, and ends the daemon
abbrev pub ending_before : Bool → Exit → DaemonEnd
ending_before is_closed exit = if is_closed then Closed else Exits exit

-- standard input ends a daemon only if it was to run until then
abbrev pub MayEnd : Bool → DaemonEnd → Type 0
MayEnd until_closed (Exits exit) = ⊤
MayEnd until_closed Closed = until_closed ≡ true

-- ---- what a daemon printed

-- only the lines of serving at these generations were appended
abbrev pub PrintsServing : Option (List ℕ) → Option (List ℕ) → Type 0
PrintsServing old new = (generations : List ℕ) × Appends old new (concat (map serving_line generations))

-- the line that a daemon's end appends, and what its caller gets; a fault is for the caller to print
abbrev pub PrintsEnding : DaemonEnd → Result (Unit {0}) DaemonFault → Option (List ℕ) → Option (List ℕ) → Type 0
PrintsEnding (Exits HandedOver) result old new = (result ≡ Ok tt) × Appends old new (codes "handed over\n")
PrintsEnding (Exits Ended) result old new = (result ≡ Ok tt) × Appends old new (codes "ended\n")
PrintsEnding (Exits (Faulty fault)) result old new = (result ≡ Err fault) × Appends old new []
PrintsEnding Closed result old new = (result ≡ Ok tt) × Appends old new (codes "closed\n")

-- one of the last lines of a daemon was appended: `closed` only if it was to run until its standard input ends
abbrev pub PrintsLast : Bool → Option (List ℕ) → Option (List ℕ) → Type 0
PrintsLast until_closed old new =
    Appends old new (codes "handed over\n")
    ⊎ (Appends old new (codes "ended\n") ⊎ ((until_closed ≡ true) × Appends old new (codes "closed\n")))

-- A daemon ran, by whether it was to run until its standard input ends. One that ended well printed its last line after
-- the lines of its generations; one that ended by a fault printed only those.
abbrev pub RunsDaemon : Bool → Result (Unit {0}) DaemonFault → Option (List ℕ) → Option (List ℕ) → Type 0
RunsDaemon until_closed (Ok done) old new =
    (mid : Option (List ℕ)) × PrintsServing old mid × PrintsLast until_closed mid new
RunsDaemon until_closed (Err fault) old new = PrintsServing old new
