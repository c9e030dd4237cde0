-- A crash is the end of the mount where the daemon had the seat, and else no move.
use Rattle.std.proofs.Common.{◌≡◌, Bool, true, false, [], ◌∷◌, Option, Some, None, is_some, refl, sym, ap, ◌∙◌, subst, arith}
use Rattle.std.specs.Prelude.{◌==◌, if◌then◌else◌}
use Rattle.eden_base.proofs.NumberTests.{true-eq, false-ne}
use Rattle.eden_base.specs.declared.number.DaemonId.{DaemonId}
use Rattle.broker_core.specs.Broker.{ended}
use Rattle.broker_core.specs.declared.seat.Seat.{Seat}
use Rattle.broker_core.proofs.HeldLaws.{held_count-none}
use Rattle.world.specs.Agreement.{IsHolder, Follows, holds, move_of}
use Rattle.daemon.specs.Daemon.{DaemonState}
use Rattle.daemon.specs.Server.{ServerState}
use Rattle.world.specs.State.{State, daemon_of, with_daemon, server_of}
use Rattle.world.specs.Step.{Crashes}
use Rattle.world.specs.World.{World, end, after}
use Rattle.world.specs.declared.event.Event.TheVariants.{Crash}
use Rattle.daemon.specs.declared.happened.Happened.{Happened}
use Rattle.daemon.specs.declared.happened.Happened.TheVariants as happened
use Rattle.world.proofs.Daemons.{server_of-with, server_of-other, only-holder}
use Rattle.world.proofs.Moving.{MovesBy, unmoved}

-- ---- who serves

-- a daemon that serves after another one ended served before
still-serves : (state : State) (daemon other : DaemonId) (d gone : DaemonState) (server : ServerState) → gone.server ≡ None → daemon_of state daemon ≡ Some d →
    server_of (with_daemon state daemon gone) other ≡ Some server → (daemon ≡ other → ⊥) × (server_of state other ≡ Some server)
still-serves state daemon other d gone server nothing there serves = (apart, sym (server_of-other state daemon other d gone there apart) ∙ serves) where
  apart : daemon ≡ other → ⊥
  apart same =
      let gone' : None ≡ server_of (with_daemon state daemon gone) daemon = sym (server_of-with state daemon d gone there ∙ nothing) in
      let none : None ≡ Some server = gone' ∙ ap (server_of (with_daemon state daemon gone)) same ∙ serves in
      let x : ⊥ = cc in x

-- ---- the holder

-- the mount is over after the daemon of the seat ended
ends : (w : World) (old : State) (seat : Seat) (d gone : DaemonState) → gone.server ≡ None → Follows w old → daemon_of old seat.daemon ≡ Some d → old.broker.seat ≡ Some seat →
    Follows (after w end) (with_daemon (record old { broker = ended old.broker }) seat.daemon gone)
ends w old seat d gone nothing m there at = record {
  manifest = m.manifest;
  is_tree = m.is_tree;
  tree_is_tree = m.tree_is_tree;
  of_manifest = m.of_manifest;
  books = record { seat = refl; last = (m.books).last; held = λ n. sym (held_count-none n); uniques = (m.books).uniques };
  seat_is_last = record { is_last = λ other e. absurd (nobody other e); empty = λ e. refl };
  quiet = λ e. (record { asks = refl; items = refl; replies = refl }, refl);
  orderly = record { asked = tt; once = λ u. omega arith; used = λ u above. refl; good = refl };
  answered = record { one_daemon = (m.answered).one_daemon; at_most = (m.answered).at_most; holder = λ one other e c same. absurd (nobody one e) };
  knows = λ other e. absurd (nobody other e);
  others_idle = λ other server serves no_holder.
      let still = still-serves (record old { broker = ended old.broker }) seat.daemon other d gone server nothing there serves in
      m.others_idle other server still.1 (λ h. still.0 (only-holder old seat at other h));
} where
  nobody : (other : Seat) → None ≡ Some other → ⊥
  nobody other e = let none : ⊥ = cc in none

-- ---- any other daemon

-- nothing changes for the daemon of the seat if another one ended
leaves : (w : World) (old : State) (daemon : DaemonId) (d gone : DaemonState) → gone.server ≡ None → Follows w old → daemon_of old daemon ≡ Some d → (IsHolder old daemon → ⊥) →
    Follows w (with_daemon old daemon gone)
leaves w old daemon d gone nothing m there no_seat = record {
  manifest = m.manifest;
  is_tree = m.is_tree;
  tree_is_tree = m.tree_is_tree;
  of_manifest = m.of_manifest;
  books = m.books;
  seat_is_last = m.seat_is_last;
  quiet = m.quiet;
  orderly = m.orderly;
  answered = m.answered;
  knows = λ seat at.
      let k = m.knows seat at in
      let still = server_of-other old daemon seat.daemon d gone there (λ same. no_seat (seat, at, sym same)) in
      (k.0, record { has_seat = at; serves = still ∙ (k.1).serves }, k.2, k.3);
  others_idle = λ other server serves no_holder. m.others_idle other server (still-serves old daemon other d gone server nothing there serves).1 no_holder;
}

-- ---- a crash

-- a crash is moves, by the seat before it
abbrev Crashed : World → State → DaemonId → DaemonState → Option Seat → Type 0
Crashed w old daemon gone seat = MovesBy w (if holds seat daemon then end ∷ [] else []) old happened.Crashed
    (with_daemon (record old { broker = if holds seat daemon then ended old.broker else old.broker }) daemon gone)

pub crashes-moved : (w : World) (old : State) (daemon : DaemonId) (told : Happened) (new : State) → Follows w old → Crashes old daemon told new → MovesBy w (move_of w.seat (Crash daemon) told) old told new
crashes-moved w old daemon told new m c = subst (λ (x : Happened). MovesBy w (move_of w.seat (Crash daemon) x) old x new) (sym c.tells)
    (subst (λ (s : State). MovesBy w (if holds w.seat daemon then end ∷ [] else []) old happened.Crashed s) (sym c.makes)
    (subst (λ (o : Option Seat). MovesBy w (if holds o daemon then end ∷ [] else []) old happened.Crashed (with_daemon (record old { broker = if holds old.broker.seat daemon then ended old.broker else old.broker }) daemon c.later)) (sym (m.books).seat)
    (by_seat old.broker.seat refl))) where
      nothing : (c.later).server ≡ None
      nothing = ap (λ (d : DaemonState). d.server) c.does

      no_move : (IsHolder old daemon → ⊥) → MovesBy w [] old happened.Crashed (with_daemon old daemon c.later)
      no_move no_seat = unmoved w old happened.Crashed _ tt refl (leaves w old daemon c.was c.later nothing m c.there no_seat)

      of_seat : (seat : Seat) (b : Bool) → old.broker.seat ≡ Some seat → (seat.daemon.0 == daemon.0) ≡ b →
          MovesBy w (if b then end ∷ [] else []) old happened.Crashed (with_daemon (record old { broker = if b then ended old.broker else old.broker }) daemon c.later)
      of_seat seat false at e = no_move (λ h.
          let same : Some seat ≡ Some h.0 = sym at ∙ h.1 in
          let one : seat ≡ h.0 = cc in
          false-ne seat.daemon.0 daemon.0 e (ap (λ (s : Seat). s.daemon.0) one ∙ ap (λ (d : DaemonId). d.0) h.2))
      of_seat seat true at e = record {
        run = (ap is_some ((m.books).seat ∙ at), tt);
        matches = subst (λ (d : DaemonId). Follows (after w end) (with_daemon (record old { broker = ended old.broker }) d c.later)) same
            (ends w old seat c.was c.later nothing m (ap (daemon_of old) same ∙ c.there) at);
        forget = tt;
        answered = λ e. absurd (let none : ⊥ = cc in none);
      } where
        number : seat.daemon.0 ≡ daemon.0
        number = true-eq seat.daemon.0 daemon.0 e

        same : seat.daemon ≡ daemon
        same i = record { 0 = number i }

      by_seat : (o : Option Seat) → old.broker.seat ≡ o → Crashed w old daemon c.later o
      by_seat None at = no_move (λ h. let none : None ≡ Some h.0 = sym at ∙ h.1 in let x : ⊥ = cc in x)
      by_seat (Some seat) at = of_seat seat (seat.daemon.0 == daemon.0) at refl
