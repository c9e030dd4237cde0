-- What a daemon's main thread does next, and what it prints while it serves. (This project's own.)
use Rattle.std.specs.Prelude.{◌≡◌, ◌⊎◌, ℕ, ◌+◌, ◌==◌, Bool, true, false, ◌&&◌, not, List, [], ◌∷◌, ◌++◌, codes, Option, Some, None, if◌then◌else◌}
use Rattle.std.specs.Fmt.{decimal}
use Rattle.std.specs.Io.KnownBytes.{Appends}
use Rattle.daemon.specs.Daemon.{lent_server}
use Rattle.daemon.specs.Server.{ServerState}
use Rattle.daemon.specs.declared.lease.Lease.{Lease}
use Rattle.daemon_desk.specs.Desk.{DeskState, Drains, is_draining, lendable}
use Rattle.frames.specs.declared.frame.Frame.{Frame}
use Rattle.takeover_core.specs.declared.phase.Phase.{Phase}
use Rattle.takeover_core.specs.declared.phase.Phase.TheVariants as phases
use Rattle.daemon_process.specs.declared.exit.Exit.{Exit}
use Rattle.daemon_process.specs.declared.shared.Draining.{Draining}
use Rattle.daemon_process.specs.declared.shared.Draining.TheVariants as draining
use Rattle.daemon_process.specs.declared.shared.NextStep.{NextStep}
use Rattle.daemon_process.specs.declared.shared.NextStep.TheVariants as next

-- ---- what comes next

-- a daemon serves in this phase, at some generation
abbrev pub IsServing : Phase → Type 0
IsServing phase = (generation : ℕ) × (phase ≡ phases.Serving generation)

-- the lease of the round that comes next, if a round comes next
abbrev pub served_next : Option NextStep → Option Lease
served_next (Some (next.Serve lease stop)) = Some lease
served_next other = None

-- how often rounds were asked to stop before the round that comes next, if a round comes next
abbrev pub stops_next : Option NextStep → Option ℕ
stops_next (Some (next.Serve lease stop)) = Some stop.stops
stops_next other = None

-- how often rounds were asked to stop, after one more request if a round may run; the greatest count is followed by 0
abbrev pub stops_behind : Bool → ℕ → ℕ
stops_behind true stops = if stops == 18446744073709551615 then 0 else stops + 1
stops_behind false stops = stops

-- A round over what may be lent comes next, or nothing does if nothing may be lent. A pause comes next if memory for the
-- round's stop was refused.
abbrev pub IsRound : Option ServerState → Option NextStep → Type 0
IsRound server (Some next.Pause) = Unit {0}
IsRound (Some server) (Some (next.Serve lease stop)) = lent_server lease ≡ server
IsRound None None = Unit {0}
IsRound server other = ⊥

-- while the daemon drains the replies are posted whose bytes have come, as long as some wait, and then nothing comes next; else
-- what comes next is what `IsRound` says
abbrev pub ComesWhile : (drains is_waiting : Bool) → Option ServerState → Option NextStep → Type 0
ComesWhile true true server what = what ≡ Some next.PostReady
ComesWhile true false server what = what ≡ None
ComesWhile false is_waiting server what = IsRound server what

-- whether the end of standard input ends a daemon in this phase, if it has come: a takeover goes to its end first
abbrev pub ends_in : Bool → Phase → Bool
ends_in true (phases.Serving generation) = true
ends_in is_closed phase = false

-- the last step of a daemon that ends, by whether replies wait: these are posted first
abbrev pub last_step : Bool → NextStep
last_step true = next.Finish
last_step false = next.Close

-- the last step comes next if standard input ends the daemon now; else what `ComesWhile` says
abbrev pub ComesOn : (ends is_waiting : Bool) → DeskState → Option NextStep → Type 0
ComesOn true is_waiting state what = what ≡ Some (last_step is_waiting)
ComesOn false is_waiting state what =
    ComesWhile (is_draining state.daemon.node.phase) is_waiting (lendable state) what

-- the exit comes next if it is noted; else what `ComesOn` says, by whether standard input ended and ends the daemon, and by
-- whether replies wait
abbrev pub ComesNext : Option Exit → (is_closed is_waiting : Bool) → DeskState → Option NextStep → Type 0
ComesNext (Some exit) is_closed is_waiting state what = what ≡ Some (next.Exit exit)
ComesNext None is_closed is_waiting state what = ComesOn (ends_in is_closed state.daemon.node.phase) is_waiting state what

-- a daemon in whose channels replies wait has not drained; else it has where its desk says so
abbrev pub DrainsWith : Bool → DeskState → Option Frame → DeskState → Type 0
DrainsWith true old said new = (said ≡ None) × (new ≡ old)
DrainsWith false old said new = Drains old said new

-- what ends a drain, by the frame that the daemon says where it has drained: that frame, or that reads took too long where replies
-- wait and the patience is over; else the drain goes on
abbrev pub drain_end : (is_waiting is_spent : Bool) → Option Frame → Option Draining
drain_end is_waiting is_spent (Some ready) = Some (draining.Ready ready)
drain_end true true None = Some draining.Late
drain_end is_waiting is_spent None = None

-- what ends a drain, if something does: the daemon is over, or what `drain_end` says
abbrev pub EndsDrain : (is_over is_waiting is_spent : Bool) → DeskState → Option Draining → DeskState → Type 0
EndsDrain true is_waiting is_spent old ends new = (ends ≡ Some draining.Over) × (new ≡ old)
EndsDrain false is_waiting is_spent old ends new =
    (said : Option Frame) × DrainsWith is_waiting old said new × (ends ≡ drain_end is_waiting is_spent said)

-- ---- what is printed

-- the line that tells that a daemon serves at a generation
abbrev pub serving_line : ℕ → List ℕ
serving_line generation = codes "serving " ++ decimal generation ++ 10 ∷ []

-- a spell: a time in which a daemon serves without a break, as its generation and how often rounds were asked to stop
-- before
abbrev pub Spell : Type 0
Spell = ℕ × ℕ

-- two spells are the same
abbrev pub IsSameSpell : Spell → Spell → Type 0
IsSameSpell a b = a ≡ b

-- whether a round begins a new spell: its spell `is` differs from the spell `was`, in which the daemon served before
abbrev pub begins : Spell → Spell → Bool
begins was is = not ((was.0 == is.0) && (was.1 == is.1))

-- the line that a round prints: none if the round's spell isn't new
abbrev pub printed_of : Bool → ℕ → List ℕ
printed_of true generation = serving_line generation
printed_of false generation = []

-- no channels could be made for the round: those of the spell before stay, and nothing was printed
pub record IsUnmanned (was now : Spell) (old new : Option (List ℕ)) : Type 0 where
  pub same : IsSameSpell now was
  pub nothing : Appends old new []

-- the channels are of the round's spell, and the round's line was printed if the spell is new
pub record IsManned (was round now : Spell) (old new : Option (List ℕ)) : Type 0 where
  pub at : IsSameSpell now round
  pub line : Appends old new (printed_of (begins was round) round.0)

-- what a round prints, by the spell before the round, the round's own spell, and the spell of the channels after it
abbrev pub PrintsRound : (was round now : Spell) → (old new : Option (List ℕ)) → Type 0
PrintsRound was round now old new = IsUnmanned was now old new ⊎ IsManned was round now old new
