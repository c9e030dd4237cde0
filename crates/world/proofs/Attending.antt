-- After a change of one daemon, or of none, each daemon that serves has the seat, and the broker waits for what the
-- daemon of the seat has to answer.
use Rattle.std.proofs.Common.{◌≡◌, ℕ, Bool, true, false, List, [], ◌∷◌, ◌++◌, Option, Some, None, refl, sym, ap, ◌∙◌, subst, inl, inr, ◌⊎◌}
use Rattle.std.specs.Prelude.{if◌then◌else◌}
use Rattle.std.specs.Option.{option_map_or, option_and_then}
use Rattle.eden_base.specs.declared.number.DaemonId.{DaemonId}
use Rattle.eden_base.proofs.NumberTests.{eq-or}
use Rattle.fuse_wire.specs.Request.{is_ask, item_of}
use Rattle.fuse_wire.specs.declared.item.Item.{Item}
use Rattle.fuse_wire.specs.declared.request.Request.{Request}
use Rattle.broker_core.specs.Broker.{BrokerState, asked, forgot}
use Rattle.broker_core.specs.declared.seat.Seat.{Seat}
use Rattle.takeover_core.specs.declared.message.Message.{Message}
use Rattle.takeover_core.specs.declared.message.Message.TheVariants.{Offer}
use Rattle.takeover_core.specs.declared.phase.Phase.TheVariants.{Gone}
use Rattle.daemon.specs.Daemon.{DaemonState, new_daemon}
use Rattle.daemon.specs.Server.{ServerState}
use Rattle.daemon.specs.declared.happened.Happened.{Happened}
use Rattle.world.specs.Attending.{serving_at, ServesSeated, IsAwaited, IsAttended}
use Rattle.world.specs.State.{State, daemon_of, with_daemon, server_of, IsSeated}
use Rattle.world.specs.Step.{Starts, Issues}
use Rattle.world.proofs.Awaiting.{awaited-along}
use Rattle.world.proofs.Daemons.{who, server_of-with, server_of-other, server_of-more}
use Rattle.world.proofs.HandingOn.{started-there}

-- ---- one daemon changed

-- the state after one daemon changed
abbrev pub after_one : State → BrokerState → List Message → DaemonId → DaemonState → State
after_one old broker messages daemon later = with_daemon (record old { broker = broker; messages = messages }) daemon later

-- if the seat stays, a daemon that served with the seat still does
pub serves-along : (old new : State) (daemon : DaemonId) (was : DaemonState) → new.broker.seat ≡ old.broker.seat → ServesSeated old daemon was → ServesSeated new daemon was
serves-along old new daemon was seat s = record { at = s.at; has_seat = λ g e. seat ∙ s.has_seat g e }

-- a state stays attended after one daemon changed, if that daemon and each other one still serves with the seat
pub attended-one : (old : State) (broker : BrokerState) (messages : List Message) (daemon : DaemonId) (was later : DaemonState) → daemon_of old daemon ≡ Some was → ServesSeated (after_one old broker messages daemon later) daemon later →
    ((other : DaemonId) (d : DaemonState) → (other ≡ daemon → ⊥) → daemon_of old other ≡ Some d → ServesSeated (after_one old broker messages daemon later) other d) →
    ((seat : Seat) (server : ServerState) → IsSeated (after_one old broker messages daemon later) seat server → IsAwaited broker.traffic server) → IsAttended (after_one old broker messages daemon later)
attended-one old broker messages daemon was later there stands others awaited = record {
  daemons = λ other d e. in_ other d (who (record old { broker = broker; messages = messages }) daemon other was later d there e);
  asked = awaited;
} where
  new : State
  new = after_one old broker messages daemon later

  in_ : (other : DaemonId) (d : DaemonState) → ((other ≡ daemon) × (d ≡ later)) ⊎ ((other ≡ daemon → ⊥) × (daemon_of (record old { broker = broker; messages = messages }) other ≡ Some d)) → ServesSeated new other d
  in_ other d (inl (same, is)) = subst (λ (x : DaemonId). ServesSeated new x d) (sym same) (subst (λ (x : DaemonState). ServesSeated new daemon x) (sym is) stands)
  in_ other d (inr (apart, e)) = others other d apart e

-- the daemon of the seat had the seat before, and serves what it served
pub seated-back : (old : State) (broker : BrokerState) (messages : List Message) (daemon : DaemonId) (was later : DaemonState) → daemon_of old daemon ≡ Some was → broker.seat ≡ old.broker.seat →
    ((seat : Seat) → old.broker.seat ≡ Some seat → daemon ≡ seat.daemon → later.server ≡ was.server) → (seat : Seat) (server : ServerState) → IsSeated (after_one old broker messages daemon later) seat server → IsSeated old seat server
seated-back old broker messages daemon was later there same keeps seat server at = record { has_seat = here; serves = in_ (eq-or seat.daemon.0 daemon.0) } where
  base : State
  base = record old { broker = broker; messages = messages }

  here : old.broker.seat ≡ Some seat
  here = sym same ∙ at.has_seat

  in_ : (seat.daemon.0 ≡ daemon.0) ⊎ (seat.daemon.0 ≡ daemon.0 → ⊥) → server_of old seat.daemon ≡ Some server
  in_ (inl e) =
      let named : seat.daemon ≡ daemon = λ i. record { 0 = e i } in
      ap (server_of old) named ∙ ap (option_and_then (λ (d : DaemonState). d.server)) there ∙ sym (keeps seat here (sym named))
      ∙ sym (server_of-with base daemon was later there) ∙ ap (server_of (with_daemon base daemon later)) (sym named) ∙ at.serves
  in_ (inr apart) = sym (server_of-other base daemon seat.daemon was later there (λ e. apart (ap (λ (d : DaemonId). d.0) (sym e)))) ∙ at.serves

-- a daemon that is gone serves nothing
pub gone-serves : (state : State) (daemon : DaemonId) (gone : DaemonState) → gone.server ≡ None → gone.node.phase ≡ Gone → ServesSeated state daemon gone
gone-serves state daemon gone nothing phase = record {
  at = λ server serves. absurd (let two : None ≡ Some server = sym nothing ∙ serves in let none : ⊥ = cc in none);
  has_seat = λ g e. absurd (let two : None ≡ Some g = sym (ap serving_at phase) ∙ e in let none : ⊥ = cc in none);
}

-- ---- no daemon changes

pub broker-attended : (old : State) (broker : BrokerState) → broker.seat ≡ old.broker.seat → broker.traffic.taken ≡ old.broker.traffic.taken → IsAttended old → IsAttended (record old { broker = broker })
broker-attended old broker seat same a = record {
  daemons = λ daemon was there. serves-along old (record old { broker = broker }) daemon was seat (a.daemons daemon was there);
  asked = λ at server has. awaited-along old.broker.traffic broker.traffic server same (a.asked at server (record { has_seat = sym seat ∙ has.has_seat; serves = has.serves }));
}

pub issues-attended : (old : State) (request : Request) (told : Happened) (new : State) → IsAttended old → Issues old request told new → IsAttended new
issues-attended old request told new a (tells, makes) = subst IsAttended (sym makes) (in_ (is_ask request) (item_of request)) where
  in_ : (b : Bool) (o : Option Item) → IsAttended (record old { broker = if b then asked old.broker request else option_map_or (forgot old.broker) o old.broker })
  in_ true o = broker-attended old (asked old.broker request) refl refl a
  in_ false None = broker-attended old old.broker refl refl a
  in_ false (Some item) = broker-attended old (forgot old.broker item) refl refl a

pub starts-attended : (old : State) (versions : List ℕ) (told : Happened) (new : State) → IsAttended old → Starts old versions told new → IsAttended new
starts-attended old versions told new a (tells, makes) = subst IsAttended (sym makes) (record {
  daemons = λ daemon now there. in_ daemon now (started-there old versions messages daemon now there);
  asked = λ seat server has. a.asked seat server (record { has_seat = has.has_seat; serves = sym (server_of-more old versions messages seat.daemon) ∙ has.serves });
}) where
  messages : List Message
  messages = old.messages ++ Offer versions ∷ []

  later : State
  later = record old { daemons = old.daemons ++ new_daemon versions ∷ []; messages = messages }

  in_ : (daemon : DaemonId) (now : DaemonState) → (daemon_of old daemon ≡ Some now) ⊎ ((daemon_of old daemon ≡ None) × (now ≡ new_daemon versions)) → ServesSeated later daemon now
  in_ daemon now (inl e) = serves-along old later daemon now refl (a.daemons daemon now e)
  in_ daemon now (inr (nobody, is)) = record {
    at = λ server serves. absurd (let two : None ≡ Some server = sym (ap (λ (d : DaemonState). d.server) is) ∙ serves in let none : ⊥ = cc in none);
    has_seat = λ g e. absurd (let two : None ≡ Some g = sym (ap (λ (d : DaemonState). serving_at d.node.phase) is) ∙ e in let none : ⊥ = cc in none);
  }
