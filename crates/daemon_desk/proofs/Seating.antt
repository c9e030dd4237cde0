-- A daemon has the seat at the generation at which it had it before, unless the broker gives it a new one.
use Rattle.std.proofs.Common.{◌≡◌, ℕ, true, false, List, Some, Ok, Err, arith, rules}
use Rattle.eden_base.specs.declared.claim.ClaimFault.TheVariants.{Unanswered}
use Rattle.takeover_core.specs.Histories.{seat_of, is_given}
use Rattle.takeover_core.specs.Phases.{Event, Mounted, Hear, Fed, Drained, DataMade, PartsMade, Claimed, phase_after}
use Rattle.takeover_core.specs.declared.message.Message.TheVariants.{Offer, Choice, Ready, Pong, Data, Part, Failed}
use Rattle.takeover_core.specs.declared.phase.Phase.{Phase}
use Rattle.takeover_core.specs.declared.phase.Phase.TheVariants.{Waiting, Chosen, Taking, Reading, Holding, Serving, Draining, Pinged, Making, Handed}
use Rattle.daemon.specs.Daemon.{is_waiting_in}
use Rattle.daemon_desk.specs.Desk.{taking_at}
use Rattle.daemon_desk.specs.Inside.{knows}
use Rattle.daemon_desk.proofs.Quiet.{node_of}

pub seat_stays : (versions : List ℕ) (sessions : ℕ) (phase : Phase) (event : Event) (g : ℕ) → is_given g event ≡ false → seat_of (phase_after (node_of versions sessions phase) event) ≡ Some g → seat_of phase ≡ Some g
seat_stays versions sessions Waiting (Mounted h) g none seat = grind (arith, rules)
seat_stays versions sessions Waiting (Hear (Choice t v)) g none seat = grind rules
seat_stays versions sessions (Chosen s v) (Hear (Ready t h)) g none seat = grind rules
seat_stays versions sessions (Chosen s v) (Hear (Data t h bytes)) g none seat = grind rules
seat_stays versions sessions (Chosen s v) (Hear (Part t h i n bytes)) g none seat = grind rules
seat_stays versions sessions (Chosen s v) (Hear (Failed t)) g none seat = grind rules
seat_stays versions sessions (Reading s h v i n) (Hear (Part t k j m bytes)) g none seat = grind rules
seat_stays versions sessions (Reading s h v i n) (Hear (Failed t)) g none seat = grind rules
seat_stays versions sessions (Taking s h v i n) (Fed true) g none seat = grind rules
seat_stays versions sessions (Serving h) (Hear (Offer offered)) g none seat = grind rules
seat_stays versions sessions (Draining h s v) (Drained hand unposted) g none seat = grind rules
seat_stays versions sessions (Draining h s v) (Hear (Failed t)) g none seat = grind rules
seat_stays versions sessions (Pinged h s v) (Hear (Pong t)) g none seat = grind rules
seat_stays versions sessions (Pinged h s v) (Hear (Failed t)) g none seat = grind rules
seat_stays versions sessions (Making h s v) (Hear (Failed t)) g none seat = grind rules
seat_stays versions sessions (Making h s v) (DataMade bytes) g none seat = grind rules
seat_stays versions sessions (Making h s v) PartsMade g none seat = grind rules
seat_stays versions sessions (Handed h s) (Hear (Failed t)) g none seat = grind rules
seat_stays versions sessions (Holding h) (Claimed (Ok next)) g none seat = grind (arith, rules)
seat_stays versions sessions (Holding h) (Claimed (Err (Unanswered asks))) g none seat = grind rules
seat_stays versions sessions phase event g none seat = grind rules

-- a daemon that has the seat knows what is served
pub seat_knows : (phase : Phase) (g : ℕ) → seat_of phase ≡ Some g → knows phase ≡ true
seat_knows phase g seat = grind rules

-- the generation at which workers may take is the seat's
pub taking_is_seat : (phase : Phase) (g : ℕ) → taking_at phase ≡ Some g → seat_of phase ≡ Some g
taking_is_seat phase g taking = grind rules

-- a daemon that mounts serves at the generation of the mount
pub mounted_phase : (versions : List ℕ) (sessions : ℕ) (phase : Phase) (g : ℕ) → is_waiting_in phase ≡ true → phase_after (node_of versions sessions phase) (Mounted g) ≡ Serving g
mounted_phase versions sessions phase g waits = grind rules
