-- Messages move nothing in the world.
use Rattle.std.proofs.Common.{◌≡◌, ℕ, Bool, true, false, List, [], ◌++◌, Some, None, refl, sym, ap, ◌∙◌, subst, inl, inr, ◌⊎◌}
use Rattle.std.specs.Prelude.{nat_lt}
use Rattle.std.specs.Option.{option_and_then}
use Rattle.eden_base.specs.declared.number.DaemonId.{DaemonId}
use Rattle.eden_base.proofs.NumberTests.{eq-or}
use Rattle.broker_core.specs.declared.seat.Seat.{Seat}
use Rattle.takeover_core.specs.Phases as table
use Rattle.takeover_core.specs.Node.{NodeState}
use Rattle.takeover_core.specs.declared.heard.Heard.{Heard as Answer}
use Rattle.takeover_core.specs.declared.heard.Heard.TheVariants as answer
use Rattle.takeover_core.specs.declared.message.Message.{Message}
use Rattle.world.specs.World.{World, Move}
use Rattle.world.specs.Agreement.{Follows, IsHolder, IsGoodForget, is_posted, move_of}
use Rattle.daemon.specs.Serving.{beginning}
use Rattle.daemon.specs.Daemon.{DaemonState}
use Rattle.world.specs.Handing.{IsHanding, part_at}
use Rattle.daemon.specs.Server.{ServerState, IsIdle}
use Rattle.world.specs.State.{State, daemon_of, with_daemon, server_of}
use Rattle.world.specs.Step.{Hears, Reacts, told_reaction}
use Rattle.daemon.specs.Talking.{IsReady, GivesUpSo, ReactsBy, TakesData, ReadsBy, TurnsBy, bytes_of, read_before}
use Rattle.daemon.specs.declared.turn.Reaction.{Reaction}
use Rattle.daemon.specs.declared.turn.Reaction.TheVariants.{Ignores, Accepts, Says}
use Rattle.world.specs.declared.event.Event.{Event}
use Rattle.world.specs.declared.event.Event.TheVariants.{Hear, Drained, GiveUp}
use Rattle.daemon.specs.declared.happened.Happened.{Happened}
use Rattle.world.proofs.Daemons.{server_of-with, server_of-other}
use Rattle.world.proofs.Moving.{MovesBy, unmoved}
use Rattle.world.proofs.HandingTalks.{waits-alone}
use Rattle.world.proofs.Turns.{takes-it, part-it}

-- ---- the holder

-- a daemon serves what it served; or it does not have the seat, and what it serves has nothing in hand
abbrev pub ServesOn : State → DaemonId → DaemonState → DaemonState → Type 0
ServesOn old daemon was later =
    (later.server ≡ was.server)
    ⊎ ((IsHolder old daemon → ⊥) × ((server : ServerState) → later.server ≡ Some server → IsIdle server))

pub talks-follow : (w : World) (old : State) (messages : List Message) (daemon : DaemonId) (was later : DaemonState) → Follows w old → daemon_of old daemon ≡ Some was → ServesOn old daemon was later →
    Follows w (with_daemon (record old { messages = messages }) daemon later)
talks-follow w old messages daemon was later m there on = record {
  manifest = m.manifest;
  is_tree = m.is_tree;
  tree_is_tree = m.tree_is_tree;
  of_manifest = m.of_manifest;
  books = m.books;
  seat_is_last = m.seat_is_last;
  quiet = m.quiet;
  orderly = m.orderly;
  answered = m.answered;
  knows = λ seat at. let k = m.knows seat at in (k.0, record { has_seat = at; serves = holder_in seat at on ∙ (k.1).serves }, k.2, k.3);
  others_idle = λ other server serves no_holder. idle_in other server serves no_holder (eq-or other.0 daemon.0) on;
} where
  base : State
  base = record old { messages = messages }

  at_daemon : server_of (with_daemon base daemon later) daemon ≡ later.server
  at_daemon = server_of-with base daemon was later there

  was_served : server_of old daemon ≡ was.server
  was_served = ap (option_and_then (λ (d : DaemonState). d.server)) there

  elsewhere : (other : DaemonId) → (other.0 ≡ daemon.0 → ⊥) → server_of (with_daemon base daemon later) other ≡ server_of old other
  elsewhere other apart = server_of-other base daemon other was later there (λ e. apart (ap (λ (d : DaemonId). d.0) (sym e)))

  named : (other : DaemonId) → other.0 ≡ daemon.0 → other ≡ daemon
  named other e i = record { 0 = e i }

  same_server : later.server ≡ was.server → (other : DaemonId) → (other.0 ≡ daemon.0) ⊎ (other.0 ≡ daemon.0 → ⊥) → server_of (with_daemon base daemon later) other ≡ server_of old other
  same_server same other (inl e) = ap (server_of (with_daemon base daemon later)) (named other e) ∙ at_daemon ∙ same ∙ sym was_served ∙ ap (server_of old) (sym (named other e))
  same_server same other (inr apart) = elsewhere other apart

  holder_in : (seat : Seat) → old.broker.seat ≡ Some seat → ServesOn old daemon was later → server_of (with_daemon base daemon later) seat.daemon ≡ server_of old seat.daemon
  holder_in seat at (inl same) = same_server same seat.daemon (eq-or seat.daemon.0 daemon.0)
  holder_in seat at (inr (no_holder, idle)) = elsewhere seat.daemon (λ e. no_holder (seat, at, named seat.daemon e))

  idle_in : (other : DaemonId) (server : ServerState) → server_of (with_daemon base daemon later) other ≡ Some server → (IsHolder old other → ⊥) → (other.0 ≡ daemon.0) ⊎ (other.0 ≡ daemon.0 → ⊥) → ServesOn old daemon was later → IsIdle server
  idle_in other server serves no_holder which (inl same) = m.others_idle other server (sym (same_server same other which) ∙ serves) no_holder
  idle_in other server serves no_holder (inl e) (inr (apart, idle)) = idle server (sym at_daemon ∙ ap (server_of (with_daemon base daemon later)) (sym (named other e)) ∙ serves)
  idle_in other server serves no_holder (inr e) (inr x) = m.others_idle other server (sym (elsewhere other e) ∙ serves) no_holder

-- ---- what is told

-- what is told of a message is no posted reply and no forget
told_in : (count : ℕ) (reaction : Reaction) → IsGoodForget (told_reaction count reaction) × (is_posted (told_reaction count reaction) ≡ false)
told_in count Ignores = (tt, refl)
told_in count Accepts = (tt, refl)
told_in count (Says said others) = (tt, refl)

reacts-moved : (w : World) (old : State) (daemon : DaemonId) (turns : DaemonState → Reaction → DaemonState → Type 0) (told : Happened) (new : State) → Follows w old → (r : Reacts old daemon turns told new) → ServesOn old daemon r.was r.later → MovesBy w [] old told new
reacts-moved w old daemon turns told new m r on =
    let t = told_in (Rattle.std.specs.Prelude.length old.messages) r.reaction in
    subst (λ (x : Happened). MovesBy w [] old x new) (sym r.tells)
    (unmoved w old _ new t.0 t.1 (subst (λ (s : State). Follows w s) (sym r.makes) (talks-follow w old _ daemon r.was r.later m r.there on)))

-- ---- what is served

turned-on : (old : State) (daemon : DaemonId) (was : DaemonState) (node : NodeState) (a : Answer) (reaction : Reaction) (later : DaemonState) → TurnsBy was node a reaction later → ServesOn old daemon was later
turned-on old daemon was node answer.Ignored reaction later t = inl (ap (λ (d : DaemonState). d.server) t.becomes)
turned-on old daemon was node answer.Heard reaction later t = inl (ap (λ (d : DaemonState). d.server) t.becomes)
turned-on old daemon was node (answer.Say said) reaction later t = inl (ap (λ (d : DaemonState). d.server) t.becomes)
turned-on old daemon was node (answer.MakeData s g v) reaction later t = absurd t
turned-on old daemon was node (answer.GotData s g v) reaction later t = absurd t
turned-on old daemon was node (answer.GotPart s g v i n) reaction later t = absurd t

-- a daemon whose phase has no generation does not have the seat
chosen-no-holder : (old : State) (daemon : DaemonId) (was : DaemonState) → IsHanding old → daemon_of old daemon ≡ Some was → part_at was.node.phase ≡ None → IsHolder old daemon → ⊥
chosen-no-holder old daemon was h there none holder =
    let part : part_at was.node.phase ≡ Some (holder.0).generation = ((h.daemons daemon was there).part) holder.0 holder.1 (sym holder.2) in
    let two : None ≡ Some (holder.0).generation = sym none ∙ part in
    let x : ⊥ = cc in x

-- a daemon that took data, or could not take it, serves on so
takes-on : (old : State) (daemon : DaemonId) (was : DaemonState) (bytes : List ℕ) (node : NodeState) (g : ℕ) (reaction : Reaction) (later : DaemonState) → IsHanding old → daemon_of old daemon ≡ Some was → part_at was.node.phase ≡ None → TakesData old.manifest old.limit was bytes node g reaction later → ServesOn old daemon was later
takes-on old daemon was bytes node g reaction later h there alone (inl t) = inr (
  chosen-no-holder old daemon was h there alone,
  λ server serves.
      let two : Some (beginning g t.served) ≡ Some server = sym (ap (λ (d : DaemonState). d.server) t.becomes) ∙ serves in
      let is : beginning g t.served ≡ server = cc in
      subst IsIdle is (record { hand = refl; unposted = refl }),
)
takes-on old daemon was bytes node g reaction later h there alone (inr t) = inl (ap (λ (d : DaemonState). d.server) (t.loses).becomes)

heard-on : (old : State) (daemon : DaemonId) (was : DaemonState) (said : Message) (a : Answer) (reaction : Reaction) (later : DaemonState) → IsHanding old → daemon_of old daemon ≡ Some was → table.heard was.node (table.Hear said) ≡ a →
    ReactsBy old.manifest old.limit (bytes_of said) was (table.after was.node (table.Hear said)) a reaction later → ServesOn old daemon was later
heard-on old daemon was said answer.Ignored reaction later h there e t = turned-on old daemon was _ answer.Ignored reaction later t
heard-on old daemon was said answer.Heard reaction later h there e t = turned-on old daemon was _ answer.Heard reaction later t
heard-on old daemon was said (answer.Say x) reaction later h there e t = turned-on old daemon was _ (answer.Say x) reaction later t
heard-on old daemon was said (answer.MakeData s g v) reaction later h there e (inl t) = inl (ap (λ (d : DaemonState). d.server) t.becomes)
heard-on old daemon was said (answer.MakeData s g v) reaction later h there e (inr t) = inl (ap (λ (d : DaemonState). d.server) t.becomes)
heard-on old daemon was said (answer.GotData s g v) reaction later h there e t =
    let it = takes-it was.node.versions was.node.sessions was.node.phase said s g v e in
    takes-on old daemon was (bytes_of said) (table.after was.node (table.Hear said)) g reaction later h there (ap part_at it.was) t
heard-on old daemon was said (answer.GotPart s g v i n) reaction later h there e (inr l) = inl (ap (λ (d : DaemonState). d.server) l.becomes)
heard-on old daemon was said (answer.GotPart s g v i n) reaction later h there e (inl r) = in_ (nat_lt i n) r.reads where
  got : NodeState
  got = table.after was.node (table.Hear said)

  in_ : (b : Bool) → ReadsBy b old.manifest old.limit was (read_before i was ++ bytes_of said) got g reaction later → ServesOn old daemon was later
  in_ true on = inl (ap (λ (d : DaemonState). d.server) on.becomes)
  in_ false taken =
      let it = part-it was.node.versions was.node.sessions was.node.phase said s g v i n e in
      takes-on old daemon was (read_before i was ++ bytes_of said) (table.after got (table.Fed true)) g reaction later h there (waits-alone s g v i n was.node.phase it.was).0 taken

-- ---- the events

no-move : (w : World) (old : State) (event : Event) (told : Happened) (new : State) → (move_of w.seat event told ≡ []) → MovesBy w [] old told new → MovesBy w (move_of w.seat event told) old told new
no-move w old event told new e moved = subst (λ (ms : List Move). MovesBy w ms old told new) (sym e) moved

pub hears-moved : (w : World) (old : State) (daemon : DaemonId) (position : ℕ) (told : Happened) (new : State) → Follows w old → IsHanding old → Hears old daemon position told new → MovesBy w (move_of w.seat (Hear daemon position) told) old told new
hears-moved w old daemon position told new m h t =
    let r = t.reacts in
    no-move w old (Hear daemon position) told new refl
    (reacts-moved w old daemon _ told new m r (heard-on old daemon r.was t.said (table.heard (r.was).node (table.Hear t.said)) r.reaction r.later h r.there refl r.does))

pub drains-moved : (w : World) (old : State) (daemon : DaemonId) (told : Happened) (new : State) → Follows w old → Reacts old daemon IsReady told new → MovesBy w (move_of w.seat (Drained daemon) told) old told new
drains-moved w old daemon told new m r = no-move w old (Drained daemon) told new refl
    (reacts-moved w old daemon IsReady told new m r (inl (ap (λ (d : DaemonState). d.server) (r.does).becomes)))

pub gives-up-moved : (w : World) (old : State) (daemon : DaemonId) (told : Happened) (new : State) → Follows w old → Reacts old daemon GivesUpSo told new → MovesBy w (move_of w.seat (GiveUp daemon) told) old told new
gives-up-moved w old daemon told new m r = no-move w old (GiveUp daemon) told new refl
    (reacts-moved w old daemon GivesUpSo told new m r (turned-on old daemon r.was _ (table.heard (r.was).node table.GiveUp) r.reaction r.later r.does))
