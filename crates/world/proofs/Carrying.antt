-- Events one after another, until one is refused.
use Rattle.std.proofs.Common.{◌≡◌, ℕ, suc, zero, ◌+◌, ◌≤◌, length, Bool, true, false, List, [], ◌∷◌, ◌++◌, Option, Some, None, refl, sym, ap, ◌∙◌, subst, arith}
use Rattle.std.proofs.lemmas.List.{append-nil}
use Rattle.std.proofs.Common.{append_assoc}
use Rattle.std.specs.Prelude.{◌≢◌, if◌then◌else◌}
use Rattle.eden_base.specs.declared.number.DaemonId.{DaemonId}
use Rattle.broker_core.specs.declared.seat.Seat.{Seat}
use Rattle.fuse_wire.specs.Request.{is_ask}
use Rattle.fuse_wire.specs.declared.request.Request.{Request}
use Rattle.world.specs.State.{State}
use Rattle.daemon.specs.Refusals.{is_made}
use Rattle.world.specs.Step.{Once, Carries, IfMade, HasRoom, Step, parts_of, events_of_do}
use Rattle.world.specs.Beginning.{Goes, HasTwo, Begins}
use Rattle.world.specs.declared.event.Event.{Event}
use Rattle.world.specs.declared.event.Event.TheVariants.{Issue, Take, Work, Post, Deliver, Do}
use Rattle.daemon.specs.declared.happened.Happened.{Happened}
use Rattle.daemon.specs.declared.happened.Happened.TheVariants.{Refused}
use Rattle.daemon.specs.declared.happened.Refusal.TheVariants.{NoMemory}

-- if the first event is refused, no other one follows
Carries-stop : (old : State) (event : Event) (events : List Event) (told : Happened) (new : State) → Once old event told new → false ≡ is_made told →
    Carries old (event ∷ events) (told ∷ []) new
Carries-stop old event events told new once refused =
    (new, once, subst (λ (b : Bool). IfMade b (Carries new events [] new) ((◌≡◌ {A = List Happened} [] []) × (new ≡ new))) refused (refl, refl))

-- if the first event is made, the others follow
Carries-go : (old : State) (event : Event) (events : List Event) (told : Happened) (between : State) (rest : List Happened) (new : State) →
    Once old event told between → true ≡ is_made told → Carries between events rest new → Carries old (event ∷ events) (told ∷ rest) new
Carries-go old event events told between rest new once made later =
    (between, once, subst (λ (b : Bool). IfMade b (Carries between events rest new) ((rest ≡ []) × (new ≡ between))) made later)

-- a list of one event
Carries-one : (old : State) (event : Event) (told : Happened) (new : State) → Once old event told new → Carries old (event ∷ []) (told ∷ []) new
Carries-one old event told new once = by_made (is_made told) refl where
  by_made : (b : Bool) → is_made told ≡ b → Carries old (event ∷ []) (told ∷ []) new
  by_made true made = Carries-go old event [] told new [] new once (sym made) (refl, refl)
  by_made false refused = Carries-stop old event [] told new once (sym refused)

-- an event that is no `do` is a step of one event
pub Step-alone : (old : State) (event : Event) (told : Happened) (outcome : List Happened) (new : State) → parts_of old.broker.seat event ≡ event ∷ [] →
    Once old event told new → outcome ≡ told ∷ [] → Step old event outcome new
Step-alone old event told outcome new parts once one = (
  subst (λ (es : List Event). Carries old es outcome new) (sym parts) (subst (λ (os : List Happened). Carries old (event ∷ []) os new) (sym one) (Carries-one old event told new once)),
  subst HasRoom (sym one) tt,
)

-- one more event of a list was made
pub goes-on : (old : State) (events : List Event) (before after : List Happened) (between : State) (event : Event) (told : Happened) (next : State) (rest : List Event) →
    Goes old events before between (event ∷ rest) → Once between event told next → after ≡ before ++ told ∷ [] → true ≡ is_made told → Goes old events after next rest
goes-on old events before after between event told next rest goes once added made = λ outcome new h.
    let longer : before ++ told ∷ outcome ≡ after ++ outcome = sym (append_assoc before (told ∷ []) outcome) ∙ ap (λ (os : List Happened). os ++ outcome) (sym added) in
    subst (λ (os : List Happened). Carries old events os new) longer (goes (told ∷ outcome) new (Carries-go between event rest told next outcome new once made h))

-- one event of a list was refused, so the list is done
pub goes-stop : (old : State) (events : List Event) (before after : List Happened) (between : State) (event : Event) (told : Happened) (next : State) (rest : List Event) →
    Goes old events before between (event ∷ rest) → Once between event told next → after ≡ before ++ told ∷ [] → false ≡ is_made told → Carries old events after next
goes-stop old events before after between event told next rest goes once added refused =
    subst (λ (os : List Happened). Carries old events os next) (sym added) (goes (told ∷ []) next (Carries-stop between event rest told next once refused))

-- the last event of a list was made or refused, so the list is done
pub goes-last : (old : State) (events : List Event) (before after : List Happened) (between : State) (event : Event) (told : Happened) (next : State) →
    Goes old events before between (event ∷ []) → Once between event told next → after ≡ before ++ told ∷ [] → Carries old events after next
goes-last old events before after between event told next goes once added =
    subst (λ (os : List Happened). Carries old events os next) (sym added) (goes (told ∷ []) next (Carries-one between event told next once))

-- all events of a list were made, so the list is done
pub goes-end : (old : State) (events : List Event) (told : List Happened) (now : State) → Goes old events told now [] → Carries old events told now
goes-end old events told now goes = subst (λ (os : List Happened). Carries old events os now) (append-nil told) (goes [] now (refl, refl))

-- ---- a `do`

-- an outcome with one thing more is longer by one
pub few-more : (before after : List Happened) (told : Happened) (n : ℕ) → length before ≤ n → after ≡ before ++ told ∷ [] → length after ≤ n + 1
few-more before after told n few added = subst (λ (os : List Happened). length os ≤ n + 1) (sym added) (longer before n few) where
  longer : (os : List Happened) (m : ℕ) → length os ≤ m → length (os ++ told ∷ []) ≤ m + 1
  longer [] m few = omega arith
  longer (o ∷ os) zero few = absurd (omega arith)
  longer (o ∷ os) (suc m) few = let more : length (os ++ told ∷ []) ≤ m + 1 = longer os m (omega arith) in omega arith

-- the events of a `do` are a step, by the seat before it
Step-do : (old : State) (seat : Option Seat) (request : Request) (outcome : List Happened) (new : State) → old.broker.seat ≡ seat →
    Carries old (events_of_do seat request) outcome new → HasRoom outcome → Step old (Do request) outcome new
Step-do old seat request outcome new has h room = (subst (λ (o : Option Seat). Carries old (events_of_do o request) outcome new) (sym has) h, room)

-- without a seat the request of a `do` is issued, and nothing else happens
pub Step-do-unseated : (old : State) (request : Request) (told : Happened) (outcome : List Happened) (new : State) → old.broker.seat ≡ None →
    Once old (Issue request) told new → outcome ≡ told ∷ [] → Step old (Do request) outcome new
Step-do-unseated old request told outcome new free once one =
    Step-do old None request outcome new free (subst (λ (os : List Happened). Carries old (Issue request ∷ []) os new) (sym one) (Carries-one old (Issue request) told new once)) (subst HasRoom (sym one) tt)

-- the events of a `do` after the take
abbrev pub rest_of_do : DaemonId → Request → List Event
rest_of_do daemon request = Work daemon 1 false ∷ (if is_ask request then Post daemon 1 ∷ Deliver ∷ [] else [])

-- the request of a `do` was not issued, or not taken, so the `do` is done
pub Step-do-unbegun : (old : State) (seat : Seat) (request : Request) (outcome : List Happened) (new : State) → old.broker.seat ≡ Some seat →
    Begins old request seat.daemon false outcome new → Step old (Do request) outcome new
Step-do-unbegun old seat request outcome new has begins =
    Step-do old (Some seat) request outcome new has (begins.1 (rest_of_do seat.daemon request)) begins.0

-- the first two things of an outcome stay so if more is told after them
two-more : (before more : List Happened) → HasTwo before → HasTwo (before ++ more)
two-more [] more two = absurd two
two-more (asked ∷ []) more two = absurd two
two-more (asked ∷ taken ∷ later) more two = two

two-room : (outcome : List Happened) → HasTwo outcome → HasRoom outcome
two-room [] two = absurd two
two-room (asked ∷ []) two = absurd two
two-room (asked ∷ taken ∷ later) two = two

pub two-after : (before more after : List Happened) → HasTwo before → after ≡ before ++ more → HasTwo after
two-after before more after two added = subst HasTwo (sym added) (two-more before more two)

-- the request of a `do` was issued and taken, and the other events carried out
pub Step-do-begun : (old : State) (seat : Seat) (request : Request) (outcome : List Happened) (new : State) → old.broker.seat ≡ Some seat →
    HasTwo outcome → Carries old (Issue request ∷ Take seat.daemon ∷ rest_of_do seat.daemon request) outcome new → Step old (Do request) outcome new
Step-do-begun old seat request outcome new has two carries = Step-do old (Some seat) request outcome new has carries (two-room outcome two)

-- ---- how it begins

-- the issue and the take were both made
pub begins-both : (old : State) (request : Request) (daemon : DaemonId) (asked : Happened) (between : State) (taken : Happened) (outcome : List Happened) (new : State) →
    Once old (Issue request) asked between → true ≡ is_made asked → Once between (Take daemon) taken new → true ≡ is_made taken → taken ≢ Refused NoMemory →
    outcome ≡ asked ∷ taken ∷ [] → Begins old request daemon true outcome new
begins-both old request daemon asked between taken outcome new once made then_once then_made room tells = (
  subst (λ (os : List Happened). length os ≤ 2) (sym tells) (omega arith),
  subst HasTwo (sym tells) room,
  λ events more last carries. subst (λ (os : List Happened). Carries old (Issue request ∷ Take daemon ∷ events) (os ++ more) last) (sym tells)
      (Carries-go old (Issue request) (Take daemon ∷ events) asked between (taken ∷ more) last once made (Carries-go between (Take daemon) events taken new more last then_once then_made carries)),
)

-- the take was refused
pub begins-untaken : (old : State) (request : Request) (daemon : DaemonId) (asked : Happened) (between : State) (taken : Happened) (outcome : List Happened) (new : State) →
    Once old (Issue request) asked between → true ≡ is_made asked → Once between (Take daemon) taken new → false ≡ is_made taken → taken ≢ Refused NoMemory →
    outcome ≡ asked ∷ taken ∷ [] → Begins old request daemon false outcome new
begins-untaken old request daemon asked between taken outcome new once made then_once refused room tells = (
  subst HasRoom (sym tells) room,
  λ events. subst (λ (os : List Happened). Carries old (Issue request ∷ Take daemon ∷ events) os new) (sym tells)
      (Carries-go old (Issue request) (Take daemon ∷ events) asked between (taken ∷ []) new once made (Carries-stop between (Take daemon) events taken new then_once refused)),
)

-- the issue was refused
pub begins-unissued : (old : State) (request : Request) (daemon : DaemonId) (asked : Happened) (outcome : List Happened) (new : State) →
    Once old (Issue request) asked new → false ≡ is_made asked → outcome ≡ asked ∷ [] → Begins old request daemon false outcome new
begins-unissued old request daemon asked outcome new once refused tells = (
  subst HasRoom (sym tells) tt,
  λ events. subst (λ (os : List Happened). Carries old (Issue request ∷ Take daemon ∷ events) os new) (sym tells)
      (Carries-stop old (Issue request) (Take daemon ∷ events) asked new once refused),
)
