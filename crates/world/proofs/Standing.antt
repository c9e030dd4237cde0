-- A daemon stands after it turned to a phase, took, worked, posted or served, and after it ended.
use Rattle.std.proofs.Common.{◌≡◌, ℕ, ◌≤◌, Bool, true, false, List, Option, Some, None, refl, sym, ap, ◌∙◌, subst, inl, inr, ◌⊎◌}
use Rattle.std.specs.Prelude.{◌==◌, ◌≢◌}
use Rattle.eden_base.specs.Limits.{last_generation}
use Rattle.eden_base.specs.declared.number.DaemonId.{DaemonId}
use Rattle.eden_base.proofs.NumberTests.{false-ne}
use Rattle.broker_core.specs.declared.seat.Seat.{Seat}
use Rattle.fuse_ops.specs.Served.{plain}
use Rattle.takeover_core.specs.Histories.{seat_of}
use Rattle.takeover_core.specs.Phases.{claim_wanted}
use Rattle.takeover_core.specs.declared.phase.Phase.{Phase}
use Rattle.takeover_core.specs.declared.phase.Phase.TheVariants.{Serving, Gone, Reading}
use Rattle.daemon.specs.Daemon.{DaemonState, with_server, read_in}
use Rattle.world.specs.Handing.{part_at, is_drained, is_out, in_session, reads_at, HasTheSeat, HasRead, DaemonStands}
use Rattle.daemon.specs.Server.{ServerState, IsIdle}
use Rattle.world.specs.State.{State, daemon_of}
use Rattle.world.proofs.Handing.{KeepsOut, holding-out, out-drained}
use Rattle.world.proofs.Turns.{IsTurn}

-- ---- a turn

-- a daemon that waits for a part keeps what it read
pub read-kept : (p : Phase) (g : ℕ) (read : Option (List ℕ)) → reads_at p ≡ Some g → read_in p read ≡ read
read-kept (Reading s h v i n) g read e = refl
read-kept p g read e = absurd (let none : ⊥ = cc in none)

-- a daemon turned to a phase, and serves what it served
pub record Turned (old : State) (daemon : DaemonId) (was later : DaemonState) (idle : Bool) : Type 0 where
  pub there : daemon_of old daemon ≡ Some was
  pub same : later.server ≡ was.server
  pub turn : (g : ℕ) → IsTurn g idle was.node.phase later.node.phase
  pub empty : idle ≡ true → (server : ServerState) → was.server ≡ Some server → IsIdle server
  pub read : (g : ℕ) → reads_at later.node.phase ≡ Some g → later.reading ≡ was.reading

pub turned-out : (old : State) (daemon : DaemonId) (was later : DaemonState) (idle : Bool) → Turned old daemon was later idle → KeepsOut was later
turned-out old daemon was later idle t = record { server = λ server serves. (server, sym t.same ∙ serves, λ o. ((t.turn 0).out_on o, refl)) }

pub turned-stands : (old : State) (daemon : DaemonId) (was later : DaemonState) (idle : Bool) → Turned old daemon was later idle → DaemonStands old daemon was → DaemonStands old daemon later
turned-stands old daemon was later idle t s = record {
  at_most = λ g e. s.at_most g ((t.turn g).part_back e);
  serves = λ g e. let of = s.serves g ((t.turn g).part_back e) in (of.0, t.same ∙ of.1);
  drained = λ server serves d. drained_in server (sym t.same ∙ serves) ((t.turn 0).drained_back d);
  only = λ seat e x. s.only seat e ((t.turn seat.generation).seat_back x);
  part = λ seat e x. (t.turn seat.generation).part_on (s.part seat e x);
  goes_on = λ seat e x in_s. goes_in seat e x ((t.turn seat.generation).session_back in_s (s.part seat e x));
  held = λ seat holder handed server has claims serves. held_in seat holder handed server has (sym t.same ∙ serves) ((t.turn seat.generation).held_back claims);
  past = λ g e. s.past g (sym (ap reads_at ((t.turn g).reads_back e)) ∙ e);
  reads = λ seat holder handed has e.
      let same : later.node.phase ≡ was.node.phase = (t.turn seat.generation).reads_back e in
      let r = s.reads seat holder handed has (sym (ap reads_at same) ∙ e) in
      record {
        out = r.out;
        some = r.some;
        read = λ over. subst (λ (p : Phase). HasRead p later.reading over.text) (sym same)
            (subst (λ (o : Option (List ℕ)). HasRead was.node.phase o over.text) (sym (t.read seat.generation e)) (r.read over));
      };
} where
  drained_in : (server : ServerState) → was.server ≡ Some server → (is_drained was.node.phase ≡ true) ⊎ (idle ≡ true) → IsIdle server
  drained_in server serves (inl d) = s.drained server serves d
  drained_in server serves (inr e) = t.empty e server serves

  goes_in : (seat : Seat) → old.broker.seat ≡ Some seat → daemon ≡ seat.daemon → (in_session was.node.phase ≡ true) ⊎ ((seat.generation == last_generation) ≡ false) → seat.generation ≢ last_generation
  goes_in seat e x (inl in_s) = s.goes_on seat e x in_s
  goes_in seat e x (inr apart) = false-ne seat.generation last_generation apart

  held_in : (seat : Seat) (holder : DaemonState) (handed server : ServerState) → HasTheSeat old seat holder handed → was.server ≡ Some server →
      (claim_wanted was.node.phase ≡ Some seat.generation) ⊎ ((seat_of was.node.phase ≡ Some seat.generation) × (is_out was.node.phase ≡ true)) → (is_out holder.node.phase ≡ true) × (plain server.served ≡ plain handed.served)
  held_in seat holder handed server has serves (inl claims) = s.held seat holder handed server has claims serves
  held_in seat holder handed server has serves (inr (serving, out)) =
      let here : daemon ≡ seat.daemon = s.only seat has.seated serving in
      let two : Some was ≡ Some holder = sym t.there ∙ ap (daemon_of old) here ∙ has.there in
      let one : was ≡ holder = cc in
      let both : Some server ≡ Some handed = sym serves ∙ ap (λ (d : DaemonState). d.server) one ∙ has.serves in
      let alike : server ≡ handed = cc in
      (subst (λ (d : DaemonState). is_out d.node.phase ≡ true) one out, ap (λ (x : ServerState). plain x.served) alike)

-- ---- requests

-- a daemon that is not drained stands with another hand
pub busy-stands : (old : State) (daemon : DaemonId) (was : DaemonState) (server : ServerState) → is_drained was.node.phase ≡ false → DaemonStands old daemon was → DaemonStands old daemon (with_server was server)
busy-stands old daemon was server busy s = record {
  at_most = s.at_most;
  serves = λ g e. (server, refl);
  drained = λ other serves d. absurd (let two : true ≡ false = sym d ∙ busy in let none : ⊥ = cc in none);
  only = s.only;
  part = s.part;
  goes_on = s.goes_on;
  held = λ seat holder handed other has claims serves. absurd (let two : true ≡ false = sym (out-drained was.node.phase (holding-out was.node.phase seat.generation claims)) ∙ busy in let none : ⊥ = cc in none);
  past = s.past;
  reads = λ seat holder handed has e. let r = s.reads seat holder handed has e in record { out = r.out; some = r.some; read = r.read };
}

pub busy-out : (was : DaemonState) (before server : ServerState) → is_drained was.node.phase ≡ false → was.server ≡ Some before → KeepsOut was (with_server was server)
busy-out was before server busy serves = record {
  server = λ other e. (before, serves, λ o. absurd (let two : true ≡ false = sym (out-drained was.node.phase o) ∙ busy in let none : ⊥ = cc in none));
}

-- ---- the seat

-- a daemon that has the seat, and serves at its generation, stands
pub seated-stands : (new : State) (seat : Seat) (daemon : DaemonId) (later : DaemonState) (server : ServerState) → later.server ≡ Some server → later.node.phase ≡ Serving seat.generation → new.broker.seat ≡ Some seat → daemon ≡ seat.daemon → seat.generation ≤ new.broker.last → DaemonStands new daemon later
seated-stands new seat daemon later server has serving seated here low = record {
  serves = λ g e. (server, has);
  at_most = λ g e.
      let two : Some seat.generation ≡ Some g = sym (ap part_at serving) ∙ e in
      let same : seat.generation ≡ g = cc in
      subst (λ (x : ℕ). x ≤ new.broker.last) same low;
  drained = λ server serves d. absurd (let two : false ≡ true = sym (ap is_drained serving) ∙ d in let none : ⊥ = cc in none);
  only = λ other e x. here ∙ ap (λ (y : Seat). y.daemon) (the_seat other e);
  part = λ other e x. ap part_at serving ∙ ap (λ (y : Seat). Some y.generation) (the_seat other e);
  goes_on = λ other e x in_s. absurd (let two : false ≡ true = sym (ap in_session serving) ∙ in_s in let none : ⊥ = cc in none);
  held = λ other holder handed server has claims serves. absurd (let two : None ≡ Some other.generation = sym (ap claim_wanted serving) ∙ claims in let none : ⊥ = cc in none);
  past = λ g e. absurd (let two : None ≡ Some g = sym (ap reads_at serving) ∙ e in let none : ⊥ = cc in none);
  reads = λ other holder handed has e. absurd (let two : None ≡ Some other.generation = sym (ap reads_at serving) ∙ e in let none : ⊥ = cc in none);
} where
  the_seat : (other : Seat) → new.broker.seat ≡ Some other → seat ≡ other
  the_seat other e = let two : Some seat ≡ Some other = sym seated ∙ e in let is : seat ≡ other = cc in is

-- a daemon that is gone, and does not have the seat, stands
pub gone-stands : (new : State) (daemon : DaemonId) (later : DaemonState) → later.node.phase ≡ Gone → ((seat : Seat) → new.broker.seat ≡ Some seat → daemon ≡ seat.daemon → ⊥) → DaemonStands new daemon later
gone-stands new daemon later gone no_seat = record {
  serves = λ g e. absurd (let two : None ≡ Some g = sym (ap part_at gone) ∙ e in let none : ⊥ = cc in none);
  at_most = λ g e. absurd (let two : None ≡ Some g = sym (ap part_at gone) ∙ e in let none : ⊥ = cc in none);
  drained = λ server serves d. absurd (let two : false ≡ true = sym (ap is_drained gone) ∙ d in let none : ⊥ = cc in none);
  only = λ other e x. absurd (let two : None ≡ Some other.generation = sym (ap seat_of gone) ∙ x in let none : ⊥ = cc in none);
  part = λ other e x. absurd (no_seat other e x);
  goes_on = λ other e x in_s. absurd (no_seat other e x);
  held = λ other holder handed server has claims serves. absurd (let two : None ≡ Some other.generation = sym (ap claim_wanted gone) ∙ claims in let none : ⊥ = cc in none);
  past = λ g e. absurd (let two : None ≡ Some g = sym (ap reads_at gone) ∙ e in let none : ⊥ = cc in none);
  reads = λ other holder handed has e. absurd (let two : None ≡ Some other.generation = sym (ap reads_at gone) ∙ e in let none : ⊥ = cc in none);
}
