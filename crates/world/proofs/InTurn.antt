-- A list of events until one is refused is moves that may happen, and so is each event.
use Rattle.std.proofs.Common.{◌≡◌, Bool, true, false, ◌||◌, List, [], ◌∷◌, ◌++◌, Option, Some, None, refl, sym, ap, ◌∙◌, subst, inl, inr, ◌⊎◌}
use Rattle.std.specs.Prelude.{if◌then◌else◌}
use Rattle.std.specs.Option.{option_map_or}
use Rattle.std.specs.List.{AllByRecursion, list_any}
use Rattle.fuse_wire.specs.Request.{is_ask, item_of}
use Rattle.fuse_wire.specs.declared.request.Request.{Request}
use Rattle.fuse_wire.specs.declared.item.Item.{Item}
use Rattle.broker_core.specs.Broker.{BrokerState, asked, forgot}
use Rattle.broker_core.specs.declared.seat.Seat.{Seat}
use Rattle.world.specs.World.{World, Move, IsRun, after_all}
use Rattle.world.specs.Agreement.{is_posted, posted_from, IsGoodForget, IsAnswered, Matches, MovesOn, move_of, moves_in_turn, moves_of}
use Rattle.takeover_core.specs.Phases.{claim_wanted}
use Rattle.daemon.specs.Daemon.{DaemonState}
use Rattle.world.specs.State.{State, daemon_of, with_daemon, fault}
use Rattle.daemon.specs.Refusals.{is_made}
use Rattle.world.specs.Step.{after_refusal, unclaimed, Makes, OnceBy, Once, IfMade, Carries, events_of_do, parts_of, Step}
use Rattle.world.specs.declared.event.Event.{Event}
use Rattle.world.specs.declared.event.Event.TheVariants.{Start, Mount, Issue, Take, Work, Post, Deliver, Hear, Drained, GiveUp, Claim, Crash, Do, Show}
use Rattle.daemon.specs.declared.happened.Happened.{Happened}
use Rattle.daemon.specs.declared.happened.Happened.TheVariants as happened
use Rattle.daemon.specs.declared.happened.Refusal.{Refusal}
use Rattle.daemon.specs.declared.happened.Refusal.TheVariants as refusal
use Rattle.world.specs.Attending.{is_claim, may_come, MayBeTold}
use Rattle.world.proofs.AttendingOn.{once-attended}
use Rattle.world.proofs.Coming.{once-comes}
use Rattle.world.proofs.Events.{once-moved}
use Rattle.world.proofs.HandingOn.{once-handing}
use Rattle.world.proofs.Moving.{MovesBy}
use Rattle.world.proofs.Runs.{run-append, after_all-append, answered-after_all}

-- ---- the seat

-- an event leaves the seat as it was: every one but a mount, a claim and a crash
abbrev pub KeepsSeat : Event → Type 0
KeepsSeat (Mount daemon) = ⊥
KeepsSeat (Claim daemon) = ⊥
KeepsSeat (Crash daemon) = ⊥
KeepsSeat event = Unit {0}

issued-seat : (broker : BrokerState) (request : Request) (b : Bool) (o : Option Item) → (if b then asked broker request else option_map_or (forgot broker) o broker).seat ≡ broker.seat
issued-seat broker request true o = refl
issued-seat broker request false None = refl
issued-seat broker request false (Some item) = refl

made-seat : (old : State) (event : Event) (told : Happened) (new : State) → KeepsSeat event → Makes old event told new → new.broker.seat ≡ old.broker.seat
made-seat old (Start versions) told new keeps made = ap (λ (s : State). s.broker.seat) made.1
made-seat old (Mount daemon) told new keeps made = absurd keeps
made-seat old (Issue request) told new keeps made = ap (λ (s : State). s.broker.seat) made.1 ∙ issued-seat old.broker request (is_ask request) (item_of request)
made-seat old (Take daemon) told new keeps made = ap (λ (s : State). s.broker.seat) made.makes
made-seat old (Work daemon position fails) told new keeps made = ap (λ (s : State). s.broker.seat) made.makes
made-seat old (Post daemon position) told new keeps made = ap (λ (s : State). s.broker.seat) made.makes
made-seat old Deliver told new keeps made = ap (λ (s : State). s.broker.seat) made.makes
made-seat old (Hear daemon position) told new keeps made = ap (λ (s : State). s.broker.seat) (made.reacts).makes
made-seat old (Drained daemon) told new keeps made = ap (λ (s : State). s.broker.seat) made.makes
made-seat old (GiveUp daemon) told new keeps made = ap (λ (s : State). s.broker.seat) made.makes
made-seat old (Claim daemon) told new keeps made = absurd keeps
made-seat old (Crash daemon) told new keeps made = absurd keeps
made-seat old event told new keeps made = absurd made

-- a refusal leaves the kernel's side as it was
refused-broker : (old : State) (event : Event) → (after_refusal old event).broker ≡ old.broker
refused-broker old (Claim daemon) = in_ (daemon_of old daemon) where
  in_ : (o : Option DaemonState) → (option_map_or (λ (was : DaemonState). with_daemon old daemon (unclaimed old was (claim_wanted was.node.phase))) o old).broker ≡ old.broker
  in_ None = refl
  in_ (Some was) = refl
refused-broker old event = refl

once-seat : (old : State) (event : Event) (told : Happened) (new : State) → KeepsSeat event → Once old event told new → new.broker.seat ≡ old.broker.seat
once-seat old event told new keeps once = in_ (fault old event) once where
  in_ : (f : Option Refusal) → OnceBy old event f told new → new.broker.seat ≡ old.broker.seat
  in_ (Some r) s = ap (λ (x : State). x.broker.seat) s.1 ∙ ap (λ (b : BrokerState). b.seat) (refused-broker old event)
  in_ None (inl made) = made-seat old event told new keeps made
  in_ None (inr lacks) = ap (λ (x : State). x.broker.seat) lacks.1.1

-- no event of a list but the last moves the seat
abbrev pub StaysSeated : List Event → Type 0
StaysSeated [] = Unit {0}
StaysSeated (event ∷ []) = Unit {0}
StaysSeated (event ∷ next ∷ events) = KeepsSeat event × StaysSeated (next ∷ events)

-- ---- what an event is refused for

-- a refusal that may come of one of these events may also come of the whole event
abbrev pub Covers : Event → List Event → Type 0
Covers whole [] = Unit {0}
Covers whole (event ∷ events) = ((r : Refusal) → may_come r event ≡ true → may_come r whole ≡ true) × Covers whole events

as-part : (whole event : Event) (told : Happened) → ((r : Refusal) → may_come r event ≡ true → may_come r whole ≡ true) → MayBeTold event told → MayBeTold whole told
as-part whole event (happened.Refused r) covers may = covers r may
as-part whole event told covers may = tt

-- a refusal that may come of an event that is no claim may come of each event
no-claim-covers : (whole event : Event) → is_claim event ≡ false → (r : Refusal) → may_come r event ≡ true → may_come r whole ≡ true
no-claim-covers whole event none refusal.Ended may = absurd (let two : true ≡ false = sym may ∙ none in let x : ⊥ = cc in x)
no-claim-covers whole event none (refusal.Stale now) may = absurd (let two : true ≡ false = sym may ∙ none in let x : ⊥ = cc in x)
no-claim-covers whole event none refusal.NotAsked may = absurd (let x : ⊥ = cc in x)
no-claim-covers whole event none (refusal.Unanswered asks) may = absurd (let x : ⊥ = cc in x)
no-claim-covers whole event none r may = refl

-- ---- one after another

-- what a list of events did: moves, good forgets, and refusals that may come
pub record Carried (w : World) (old : State) (events : List Event) (outcome : List Happened) (new : State) : Type 0 where
  pub run : IsRun w (moves_in_turn w events outcome)
  pub matches : Matches (after_all w (moves_in_turn w events outcome)) new
  pub forgets : AllByRecursion IsGoodForget outcome
  pub answered : list_any is_posted outcome ≡ true → IsAnswered (after_all w (moves_in_turn w events outcome)) old.broker.seat
  pub refusals : (whole : Event) → Covers whole events → AllByRecursion (MayBeTold whole) outcome

or_in : (b c : Bool) → (b || c) ≡ true → (b ≡ true) ⊎ (c ≡ true)
or_in true c e = inl refl
or_in false c e = inr e

-- what a list of events did, by what its first event and the other events did
carried-on : (w : World) (old between : State) (event : Event) (events : List Event) (told : Happened) (rest : List Happened) (new : State) → MovesBy w (move_of w.seat event told) old told between → MayBeTold event told →
    Carried (after_all w (move_of w.seat event told)) between events rest new → (list_any is_posted rest ≡ true → between.broker.seat ≡ old.broker.seat) → Carried w old (event ∷ events) (told ∷ rest) new
carried-on w old between event events told rest new one may more seat = record {
  run = run-append w (move_of w.seat event told) (moves_in_turn (after_all w (move_of w.seat event told)) events rest) one.run more.run;
  matches = subst (λ (x : World). Matches x new) (sym joined) more.matches;
  forgets = (one.forget, more.forgets);
  answered = λ e. subst (λ (x : World). IsAnswered x old.broker.seat) (sym joined) (answered_in (or_in (is_posted told) (list_any is_posted rest) e));
  refusals = λ whole covers. (as-part whole event told covers.0 may, more.refusals whole covers.1);
} where
  joined : after_all w (move_of w.seat event told ++ moves_in_turn (after_all w (move_of w.seat event told)) events rest) ≡ after_all (after_all w (move_of w.seat event told)) (moves_in_turn (after_all w (move_of w.seat event told)) events rest)
  joined = after_all-append w (move_of w.seat event told) (moves_in_turn (after_all w (move_of w.seat event told)) events rest)

  answered_in : (is_posted told ≡ true) ⊎ (list_any is_posted rest ≡ true) → IsAnswered (after_all (after_all w (move_of w.seat event told)) (moves_in_turn (after_all w (move_of w.seat event told)) events rest)) old.broker.seat
  answered_in (inl e) = answered-after_all (after_all w (move_of w.seat event told)) (moves_in_turn (after_all w (move_of w.seat event told)) events rest) old.broker.seat (one.answered e)
  answered_in (inr e) = subst (λ (o : Option Seat). IsAnswered (after_all (after_all w (move_of w.seat event told)) (moves_in_turn (after_all w (move_of w.seat event told)) events rest)) o) (seat e) (more.answered e)

-- a list of events of which none happened
carried-none : (w : World) (old new : State) (events : List Event) (rest : List Happened) → Matches w old → rest ≡ [] → new ≡ old → Carried w old events rest new
carried-none w old new events rest m none same = subst (λ (r : List Happened). Carried w old events r new) (sym none) (record {
  run = subst (λ (ms : List Move). IsRun w ms) (sym (no_moves events)) tt;
  matches = subst (λ (ms : List Move). Matches (after_all w ms) new) (sym (no_moves events)) (subst (λ (s : State). Matches w s) (sym same) m);
  forgets = tt;
  answered = λ e. absurd (let x : ⊥ = cc in x);
  refusals = λ whole covers. tt;
}) where
  no_moves : (es : List Event) → moves_in_turn w es [] ≡ []
  no_moves [] = refl
  no_moves (e ∷ es) = refl

stays-behind : (event : Event) (events : List Event) → StaysSeated (event ∷ events) → StaysSeated events
stays-behind event [] stays = tt
stays-behind event (next ∷ events) stays = stays.1

pub carries-moved : (w : World) (old : State) (events : List Event) (outcome : List Happened) (new : State) → Matches w old → StaysSeated events → Carries old events outcome new → Carried w old events outcome new
carries-moved w old [] outcome new m stays (none, same) = carried-none w old new [] outcome m none same
carries-moved w old (event ∷ events) [] new m stays carries = absurd carries
carries-moved w old (event ∷ events) (told ∷ rest) new m stays (between, once, goes) =
    let one = once-moved w old event told between m.follows m.handing once in
    in_ (is_made told) one goes (λ more. carries-moved (after_all w (move_of w.seat event told)) between events rest new matched (stays-behind event events stays) more) where
      matched : Matches (after_all w (move_of w.seat event told)) between
      matched = record {
        follows = (once-moved w old event told between m.follows m.handing once).matches;
        handing = once-handing w old event told between m.follows m.handing once;
        attended = once-attended w old event told between m.follows m.handing m.attended once;
      }

      seat_in : (es : List Event) → es ≡ events → StaysSeated (event ∷ es) → Carries between es rest new → list_any is_posted rest ≡ true → between.broker.seat ≡ old.broker.seat
      seat_in [] e s c posted = absurd (let p : list_any is_posted [] ≡ true = subst (λ (r : List Happened). list_any is_posted r ≡ true) c.0 posted in let x : ⊥ = cc in x)
      seat_in (next ∷ es) e s c posted = once-seat old event told between s.0 once

      in_ : (b : Bool) → MovesBy w (move_of w.seat event told) old told between → IfMade b (Carries between events rest new) ((rest ≡ []) × (new ≡ between)) →
          (Carries between events rest new → Carried (after_all w (move_of w.seat event told)) between events rest new) → Carried w old (event ∷ events) (told ∷ rest) new
      in_ true one goes more = carried-on w old between event events told rest new one (once-comes w old m event told between once) (more goes) (λ p. seat_in events refl stays goes p)
      in_ false one (none, same) more = carried-on w old between event events told rest new one (once-comes w old m event told between once) (carried-none (after_all w (move_of w.seat event told)) between new events rest matched none same)
          (λ p. absurd (let q : list_any is_posted [] ≡ true = subst (λ (r : List Happened). list_any is_posted r ≡ true) none p in let x : ⊥ = cc in x))

-- ---- every event

stays-do : (seat : Option Seat) (request : Request) → StaysSeated (events_of_do seat request)
stays-do None request = tt
stays-do (Some seat) request = in_ (is_ask request) where
  in_ : (b : Bool) → StaysSeated (Issue request ∷ Take seat.daemon ∷ Work seat.daemon 1 false ∷ (if b then Post seat.daemon 1 ∷ Deliver ∷ [] else []))
  in_ true = (tt, (tt, (tt, (tt, tt))))
  in_ false = (tt, (tt, tt))

stays-parts : (seat : Option Seat) (event : Event) → StaysSeated (parts_of seat event)
stays-parts seat (Start versions) = tt
stays-parts seat (Mount daemon) = tt
stays-parts seat (Issue request) = tt
stays-parts seat (Take daemon) = tt
stays-parts seat (Work daemon position fails) = tt
stays-parts seat (Post daemon position) = tt
stays-parts seat Deliver = tt
stays-parts seat (Hear daemon position) = tt
stays-parts seat (Drained daemon) = tt
stays-parts seat (GiveUp daemon) = tt
stays-parts seat (Claim daemon) = tt
stays-parts seat (Crash daemon) = tt
stays-parts seat (Do request) = stays-do seat request
stays-parts seat Show = tt

-- a refusal that may come of a part of an event may come of the event
covers-parts : (seat : Option Seat) (event : Event) → Covers event (parts_of seat event)
covers-parts seat (Start versions) = (λ r may. may, tt)
covers-parts seat (Mount daemon) = (λ r may. may, tt)
covers-parts seat (Issue request) = (λ r may. may, tt)
covers-parts seat (Take daemon) = (λ r may. may, tt)
covers-parts seat (Work daemon position fails) = (λ r may. may, tt)
covers-parts seat (Post daemon position) = (λ r may. may, tt)
covers-parts seat Deliver = (λ r may. may, tt)
covers-parts seat (Hear daemon position) = (λ r may. may, tt)
covers-parts seat (Drained daemon) = (λ r may. may, tt)
covers-parts seat (GiveUp daemon) = (λ r may. may, tt)
covers-parts seat (Claim daemon) = (λ r may. may, tt)
covers-parts seat (Crash daemon) = (λ r may. may, tt)
covers-parts None (Do request) = (no-claim-covers (Do request) (Issue request) refl, tt)
covers-parts (Some seat) (Do request) = (no-claim-covers (Do request) (Issue request) refl, (no-claim-covers (Do request) (Take seat.daemon) refl, (no-claim-covers (Do request) (Work seat.daemon 1 false) refl, in_ (is_ask request)))) where
  in_ : (b : Bool) → Covers (Do request) (if b then Post seat.daemon 1 ∷ Deliver ∷ [] else [])
  in_ true = (no-claim-covers (Do request) (Post seat.daemon 1) refl, (no-claim-covers (Do request) Deliver refl, tt))
  in_ false = tt
covers-parts seat Show = tt

-- Every event, made or refused, is moves that may happen in the world, and the state matches the world after them.
pub step-matched : (w : World) (old : State) (event : Event) (outcome : List Happened) (new : State) → Matches w old → Step old event outcome new → MovesOn w old event outcome new
step-matched w old event outcome new m step = record {
  run = subst (λ (ms : List Move). IsRun w ms) (sym moves) carried.run;
  matches = subst (λ (ms : List Move). Matches (after_all w ms) new) (sym moves) carried.matches;
  forgets = carried.forgets;
  answered = subst (λ (ms : List Move). IsAnswered (after_all w ms) (posted_from old outcome)) (sym moves) (answered_in (list_any is_posted outcome) refl);
  refusals = carried.refusals event (covers-parts old.broker.seat event);
} where
  moves : moves_of w event outcome ≡ moves_in_turn w (parts_of old.broker.seat event) outcome
  moves = ap (λ (o : Option Seat). moves_in_turn w (parts_of o event) outcome) ((m.follows).books).seat

  carried : Carried w old (parts_of old.broker.seat event) outcome new
  carried = carries-moved w old (parts_of old.broker.seat event) outcome new m (stays-parts old.broker.seat event) step.0

  answered_in : (b : Bool) → list_any is_posted outcome ≡ b → IsAnswered (after_all w (moves_in_turn w (parts_of old.broker.seat event) outcome)) (if b then old.broker.seat else None)
  answered_in true e = carried.answered e
  answered_in false e = tt
