-- What the daemons of a state serve and have in hand after one of them started, mounted, took, worked or posted.
use Rattle.std.proofs.Common.{◌≡◌, ℕ, suc, zero, ◌-◌, ◌<◌, Bool, true, false, List, [], ◌∷◌, ◌++◌, Option, Some, None, refl, sym, ap, ◌∙◌, subst, inl, inr, ◌⊎◌, arith}
use Rattle.std.specs.Prelude.{slice_get, slice_set, ◌==◌, if◌then◌else◌}
use Rattle.std.specs.Option.{option_and_then, option_map}
use Rattle.eden_base.specs.Limits.{last_generation}
use Rattle.eden_base.proofs.NumberTests.{eq-or, false-ne}
use Rattle.eden_base.specs.declared.number.DaemonId.{DaemonId}
use Rattle.manifest.specs.Tree.{IsTree}
use Rattle.broker_core.specs.Broker.{BrokerState, mount_fault}
use Rattle.broker_core.proofs.Accepted.{free_to_mount}
use Rattle.broker_core.specs.declared.broker.MountFault.{MountFault}
use Rattle.broker_core.specs.declared.seat.Seat.{Seat}
use Rattle.takeover_core.specs.declared.message.Message.{Message}
use Rattle.daemon.specs.Daemon.{DaemonState, new_daemon, is_waiting}
use Rattle.daemon.specs.Server.{ServerState, IsIdle, at_position}
use Rattle.world.specs.World.{World, owed}
use Rattle.world.specs.Agreement.{Knows, HolderKnows, Books, SeatIsLast, IsUnderWay, IsHolder, OthersAreIdle, IsOrderly, AnsweredBefore, Follows}
use Rattle.daemon.specs.Refusals.{refusal_of_mount}
use Rattle.world.specs.State.{State, mount_refusal, daemon_of, with_daemon, server_of, IsSeated}
use Rattle.daemon.specs.declared.happened.Refusal.TheVariants as refusal

-- ---- one of many

-- a daemon that just started serves nothing, as if it were not there
more_in : (vs : List ℕ) (ds : List DaemonState) (i : ℕ) → option_and_then (λ (d : DaemonState). d.server) (slice_get (ds ++ new_daemon vs ∷ []) i) ≡ option_and_then (λ (d : DaemonState). d.server) (slice_get ds i)
more_in vs [] zero = refl
more_in vs [] (suc i) = refl
more_in vs (d ∷ ds) zero = refl
more_in vs (d ∷ ds) (suc i) = more_in vs ds i

pub server_of-more : (old : State) (vs : List ℕ) (messages : List Message) (daemon : DaemonId) → server_of (record old { daemons = old.daemons ++ new_daemon vs ∷ []; messages = messages }) daemon ≡ server_of old daemon
server_of-more old vs messages daemon = in_ (daemon.0 == 0) where
  in_ : (b : Bool) → option_and_then (λ (d : DaemonState). d.server) (if b then None else slice_get (old.daemons ++ new_daemon vs ∷ []) (daemon.0 - 1)) ≡ option_and_then (λ (d : DaemonState). d.server) (if b then None else slice_get old.daemons (daemon.0 - 1))
  in_ true = refl
  in_ false = more_in vs old.daemons (daemon.0 - 1)

-- a daemon that was written at an index is there
set_in : (ds : List DaemonState) (i : ℕ) (d later : DaemonState) → slice_get ds i ≡ Some d → slice_get (slice_set ds i later) i ≡ Some later
set_in [] i d later h = absurd (let none : ⊥ = cc in none)
set_in (x ∷ ds) zero d later h = refl
set_in (x ∷ ds) (suc i) d later h = set_in ds i d later h

other_in : (ds : List DaemonState) (i j : ℕ) (later : DaemonState) → (i ≡ j → ⊥) → slice_get (slice_set ds i later) j ≡ slice_get ds j
other_in [] i j later apart = refl
other_in (x ∷ ds) zero zero later apart = absurd (apart refl)
other_in (x ∷ ds) zero (suc j) later apart = refl
other_in (x ∷ ds) (suc i) zero later apart = refl
other_in (x ∷ ds) (suc i) (suc j) later apart = other_in ds i j later (λ e. apart (ap suc e))

-- a daemon that is there has a number above 0
daemon-some : (old : State) (daemon : DaemonId) (d : DaemonState) → daemon_of old daemon ≡ Some d → ((daemon.0 == 0) ≡ false) × (slice_get old.daemons (daemon.0 - 1) ≡ Some d)
daemon-some old daemon d h = in_ (daemon.0 == 0) refl h where
  in_ : (b : Bool) → (daemon.0 == 0) ≡ b → (if b then None else slice_get old.daemons (daemon.0 - 1)) ≡ Some d → ((daemon.0 == 0) ≡ false) × (slice_get old.daemons (daemon.0 - 1) ≡ Some d)
  in_ true e s = absurd (let none : ⊥ = cc in none)
  in_ false e s = (e, s)

pub daemon_of-with : (state : State) (daemon : DaemonId) (d later : DaemonState) → daemon_of state daemon ≡ Some d → daemon_of (with_daemon state daemon later) daemon ≡ Some later
daemon_of-with state daemon d later h =
    let r = daemon-some state daemon d h in
    let other : (daemon.0 == 0) ≡ false = r.0 in
    rw other (set_in state.daemons (daemon.0 - 1) d later r.1)

pub daemon_of-other : (state : State) (daemon other : DaemonId) (d later : DaemonState) → daemon_of state daemon ≡ Some d → (daemon ≡ other → ⊥) →
    daemon_of (with_daemon state daemon later) other ≡ daemon_of state other
daemon_of-other state daemon other d later h apart = in_ (other.0 == 0) refl where
  first : (daemon.0 == 0) ≡ false
  first = (daemon-some state daemon d h).0

  in_ : (b : Bool) → (other.0 == 0) ≡ b → (if b then None else slice_get (slice_set state.daemons (daemon.0 - 1) later) (other.0 - 1)) ≡ (if b then None else slice_get state.daemons (other.0 - 1))
  in_ true e = refl
  in_ false e = other_in state.daemons (daemon.0 - 1) (other.0 - 1) later (λ s.
      let low : daemon.0 ≡ 0 → ⊥ = false-ne daemon.0 0 first in
      let more : other.0 ≡ 0 → ⊥ = false-ne other.0 0 e in
      let same : daemon.0 ≡ other.0 = omega (arith, s, low, more) in
      apart (λ i. record { 0 = same i }))

-- the daemon of a number after one daemon changed: it is the changed one, or was there before
pub who : (state : State) (daemon other : DaemonId) (d later now : DaemonState) → daemon_of state daemon ≡ Some d → daemon_of (with_daemon state daemon later) other ≡ Some now →
    ((other ≡ daemon) × (now ≡ later)) ⊎ ((other ≡ daemon → ⊥) × (daemon_of state other ≡ Some now))
who state daemon other d later now h there = in_ (eq-or other.0 daemon.0) where
  in_ : (other.0 ≡ daemon.0) ⊎ (other.0 ≡ daemon.0 → ⊥) → ((other ≡ daemon) × (now ≡ later)) ⊎ ((other ≡ daemon → ⊥) × (daemon_of state other ≡ Some now))
  in_ (inl e) =
      let same : other ≡ daemon = λ i. record { 0 = e i } in
      let s : Some later ≡ Some now = sym (daemon_of-with state daemon d later h) ∙ ap (daemon_of (with_daemon state daemon later)) (sym same) ∙ there in
      inl (same, (let is : now ≡ later = cc in is))
  in_ (inr apart) =
      let other' : other ≡ daemon → ⊥ = λ e. apart (ap (λ (x : DaemonId). x.0) e) in
      inr (other', sym (daemon_of-other state daemon other d later h (λ e. other' (sym e))) ∙ there)

pub server_of-with : (state : State) (daemon : DaemonId) (d later : DaemonState) → daemon_of state daemon ≡ Some d → server_of (with_daemon state daemon later) daemon ≡ later.server
server_of-with state daemon d later h = ap (option_and_then (λ (x : DaemonState). x.server)) (daemon_of-with state daemon d later h)

pub server_of-other : (state : State) (daemon other : DaemonId) (d later : DaemonState) → daemon_of state daemon ≡ Some d → (daemon ≡ other → ⊥) →
    server_of (with_daemon state daemon later) other ≡ server_of state other
server_of-other state daemon other d later h apart = ap (option_and_then (λ (x : DaemonState). x.server)) (daemon_of-other state daemon other d later h apart)

-- a daemon that serves is there
pub serving-there : (old : State) (daemon : DaemonId) (server : ServerState) → server_of old daemon ≡ Some server → (d : DaemonState) × (daemon_of old daemon ≡ Some d) × (d.server ≡ Some server)
serving-there old daemon server h = in_ (daemon_of old daemon) refl h where
  in_ : (o : Option DaemonState) → daemon_of old daemon ≡ o → option_and_then (λ (x : DaemonState). x.server) o ≡ Some server → (d : DaemonState) × (daemon_of old daemon ≡ Some d) × (d.server ≡ Some server)
  in_ None e is = absurd (let none : ⊥ = cc in none)
  in_ (Some d) e is = (d, e, is)

-- ---- the holder

-- the seat has one daemon, which serves one thing
pub seated-same : (state : State) (seat other : Seat) (server more : ServerState) → IsSeated state seat server → IsSeated state other more → (seat ≡ other) × (server ≡ more)
seated-same state seat other server more one two =
    let s : Some seat ≡ Some other = sym one.has_seat ∙ two.has_seat in
    let same : seat ≡ other = cc in
    let m : Some server ≡ Some more = sym one.serves ∙ ap (λ (x : Seat). server_of state x.daemon) same ∙ two.serves in
    (same, (let is : server ≡ more = cc in is))

-- what is known of what the daemon of the seat serves
pub record HolderIs (w : World) (state : State) (server : ServerState) : Type 0 where
  pub knows : Knows w.tree w.names (owed w) server.served
  pub under : IsUnderWay w state.broker.traffic server

pub holder-is : (w : World) (state : State) (seat : Seat) (server : ServerState) → HolderKnows w state → IsSeated state seat server → HolderIs w state server
holder-is w state seat server knows at =
    let k = knows seat at.has_seat in
    subst (λ (s : ServerState). HolderIs w state s) (seated-same state seat seat k.0 server k.1 at).1 (record { knows = k.2; under = k.3 })

-- a daemon has the seat, or does not have it
pub holder-or : (state : State) (daemon : DaemonId) → IsHolder state daemon ⊎ (IsHolder state daemon → ⊥)
holder-or state daemon = in_ state.broker.seat refl where
  in_ : (o : Option Seat) → state.broker.seat ≡ o → IsHolder state daemon ⊎ (IsHolder state daemon → ⊥)
  in_ None e = inr (λ h. let n : None ≡ Some h.0 = sym e ∙ h.1 in let none : ⊥ = cc in none)
  in_ (Some seat) e = of_seat (eq-or seat.daemon.0 daemon.0) where
    of_seat : (seat.daemon.0 ≡ daemon.0) ⊎ (seat.daemon.0 ≡ daemon.0 → ⊥) → IsHolder state daemon ⊎ (IsHolder state daemon → ⊥)
    of_seat (inl same) = inl (seat, e, λ i. record { 0 = same i })
    of_seat (inr apart) = inr (λ h. let s : Some seat ≡ Some h.0 = sym e ∙ h.1 in let is : seat ≡ h.0 = cc in apart (ap (λ (x : Seat). x.daemon.0) is ∙ ap (λ (d : DaemonId). d.0) h.2))

pub none-at : {X : Type 0} (position : ℕ) (x : X) → at_position [] position ≡ Some x → ⊥
none-at {X = X} position x h = in_ (position == 0) h where
  in_ : (b : Bool) → (if b then None else slice_get [] (position - 1)) ≡ Some x → ⊥
  in_ true e = let none : ⊥ = cc in none
  in_ false e = let none : ⊥ = cc in none

-- a member at a position is at the index one below
pub at-is : {X : Type 0} (xs : List X) (position : ℕ) (x : X) → at_position xs position ≡ Some x → slice_get xs (position - 1) ≡ Some x
at-is {X = X} xs position x h = in_ (position == 0) h where
  in_ : (b : Bool) → (if b then None else slice_get xs (position - 1)) ≡ Some x → slice_get xs (position - 1) ≡ Some x
  in_ true e = absurd (let none : ⊥ = cc in none)
  in_ false e = e

-- a daemon that has something in hand or unposted has the seat
pub hand-seated : (state : State) (daemon : DaemonId) (server : ServerState) {X : Type 0} (of : ServerState → List X) (position : ℕ) (x : X) → OthersAreIdle state → ((s : ServerState) → IsIdle s → of s ≡ []) → server_of state daemon ≡ Some server →
    at_position (of server) position ≡ Some x → (seat : Seat) × (seat.daemon ≡ daemon) × IsSeated state seat server
hand-seated state daemon server of position x idle empty serves at = in_ (holder-or state daemon) where
  in_ : IsHolder state daemon ⊎ (IsHolder state daemon → ⊥) → (seat : Seat) × (seat.daemon ≡ daemon) × IsSeated state seat server
  in_ (inl h) = (h.0, h.2, record { has_seat = h.1; serves = ap (server_of state) h.2 ∙ serves })
  in_ (inr other) = absurd (none-at position x (subst (λ xs. at_position xs position ≡ Some x) (empty server (idle daemon server serves other)) at))

-- ---- after a call

-- a state follows a world after the daemon of the seat went on, if the calls of the broker and of the daemon keep these
pub goes-on : (w new : World) (old : State) (broker : BrokerState) (seat : Seat) (d now : DaemonState) (later : ServerState) → Follows w old → now.server ≡ Some later → new.manifest ≡ w.manifest → IsTree new.tree → new.tree.manifest ≡ new.manifest → Books new broker →
    SeatIsLast new → IsOrderly new broker.next_unique → AnsweredBefore new → broker.seat ≡ Some seat → ((other : DaemonId) → IsHolder old other → seat.daemon ≡ other) → daemon_of old seat.daemon ≡ Some d →
    Knows new.tree new.names (owed new) later.served → IsUnderWay new broker.traffic later → Follows new (with_daemon (record old { broker = broker }) seat.daemon now)
goes-on w new old broker seat d now later m serves manifest is of_manifest books last orderly answered at holder there knows under = record {
  manifest = manifest ∙ m.manifest;
  is_tree = m.is_tree;
  tree_is_tree = is;
  of_manifest = of_manifest;
  books = books;
  seat_is_last = last;
  quiet = λ e. absurd (let n : Some seat ≡ None = sym at ∙ e in let none : ⊥ = cc in none);
  orderly = orderly;
  answered = answered;
  knows = λ other has.
      let s : Some seat ≡ Some other = sym at ∙ has in
      let same : seat ≡ other = cc in (
        later,
        subst (λ (x : Seat). IsSeated state x later) same (record { has_seat = at; serves = server_of-with (record old { broker = broker }) seat.daemon d now there ∙ serves }),
        knows,
        under,
      );
  others_idle = λ other server there' no_holder.
      let apart : seat.daemon ≡ other → ⊥ = λ e. no_holder (seat, at, e) in
      m.others_idle other server (sym (server_of-other (record old { broker = broker }) seat.daemon other d now there apart) ∙ there') (λ h. apart (holder other h));
} where
  state : State
  state = with_daemon (record old { broker = broker }) seat.daemon now

-- no other daemon than that of the seat has the seat
pub only-holder : (old : State) (seat : Seat) → old.broker.seat ≡ Some seat → (other : DaemonId) → IsHolder old other → seat.daemon ≡ other
only-holder old seat at other h = let s : Some seat ≡ Some h.0 = sym at ∙ h.1 in let is : seat ≡ h.0 = cc in ap (λ (x : Seat). x.daemon) is ∙ h.2

-- a state follows a world after a call of the broker alone
pub broker-goes-on : (w new : World) (old : State) (broker : BrokerState) (seat : Seat) (server : ServerState) → Follows w old → new.manifest ≡ w.manifest → new.tree ≡ w.tree → Books new broker → SeatIsLast new → IsOrderly new broker.next_unique →
    AnsweredBefore new → broker.seat ≡ old.broker.seat → IsSeated old seat server → Knows new.tree new.names (owed new) server.served → IsUnderWay new broker.traffic server → Follows new (record old { broker = broker })
broker-goes-on w new old broker seat server m manifest tree books last orderly answered same at knows under = record {
  manifest = manifest ∙ m.manifest;
  is_tree = m.is_tree;
  tree_is_tree = subst IsTree (sym tree) m.tree_is_tree;
  of_manifest = ap (λ (t : Rattle.manifest.specs.Tree.Tree). t.manifest) tree ∙ m.of_manifest ∙ sym manifest;
  books = books;
  seat_is_last = last;
  quiet = λ e. absurd (let n : Some seat ≡ None = sym at.has_seat ∙ sym same ∙ e in let none : ⊥ = cc in none);
  orderly = orderly;
  answered = answered;
  knows = λ other has.
      let s : Some seat ≡ Some other = sym at.has_seat ∙ sym same ∙ has in
      let is : seat ≡ other = cc in (
        server,
        subst (λ (x : Seat). IsSeated (record old { broker = broker }) x server) is (record { has_seat = same ∙ at.has_seat; serves = at.serves }),
        knows,
        under,
      );
  others_idle = λ other more serves no_holder. m.others_idle other more serves (λ h. no_holder (h.0, same ∙ h.1, h.2));
}

-- a daemon may mount: it waits, and nobody has the seat
pub record MayMount (old : State) (o : Option DaemonState) : Type 0 where
  pub was : DaemonState
  pub is : o ≡ Some was
  pub waits : is_waiting was ≡ true
  pub free : old.broker.seat ≡ None
  pub below : old.broker.last < last_generation

pub may_mount : (old : State) (o : Option DaemonState) → mount_refusal old o ≡ None → MayMount old o
may_mount old None h = absurd (let none : ⊥ = cc in none)
may_mount old (Some d) h = waiting_in (is_waiting d) refl h where
  fault_in : (f : Option MountFault) → option_map refusal_of_mount f ≡ None → f ≡ None
  fault_in None e = refl
  fault_in (Some f) e = absurd (let none : ⊥ = cc in none)

  waiting_in : (b : Bool) → is_waiting d ≡ b → (if b then option_map refusal_of_mount (mount_fault old.broker) else Some refusal.WrongPhase) ≡ None → MayMount old (Some d)
  waiting_in false e x = absurd (let none : ⊥ = cc in none)
  waiting_in true e x = record { was = d; is = refl; waits = e; free = (free_to_mount old.broker (fault_in (mount_fault old.broker) x)).0; below = (free_to_mount old.broker (fault_in (mount_fault old.broker) x)).1 }
