-- A whole list of events is a run of moves, and the state matches the world after them.
use Rattle.std.proofs.Common.{◌≡◌, ◌⊎◌, ℕ, ◌+◌, ◌-◌, ◌≤◌, true, List, [], ◌∷◌, ◌++◌, Option, Some, None, refl, sym, ap, ◌∙◌, subst, inl, inr, arith}
use Rattle.std.specs.Prelude.{count_by, position, take, drop, IsSome}
use Rattle.std.specs.Option.{option_and_then, option_map}
use Rattle.std.specs.List.{AllByRecursion, concat, position_or_len}
use Rattle.eden_base.proofs.NumberTests.{true-eq}
use Rattle.broker_core.specs.declared.seat.Seat.{Seat}
use Rattle.daemon.specs.Server.{ServerState}
use Rattle.takeover_core.specs.Phases.{goes_whole}
use Rattle.takeover_core.specs.declared.message.Message.{Message}
use Rattle.takeover_core.specs.declared.message.Message.TheVariants.{Data, Part}
use Rattle.takeover_core.specs.declared.phase.Phase.{Phase}
use Rattle.takeover_core.specs.declared.phase.Phase.TheVariants.{Reading}
use Rattle.daemon.specs.Daemon.{DaemonState}
use Rattle.world.specs.Handing.{HasHanded, HasRead, IsPast, data_of, reads_at}
use Rattle.world.specs.State.{State, is_data_of, handed_of}
use Rattle.world.specs.Step.{Steps}
use Rattle.world.specs.World.{World, IsRun, after_all}
use Rattle.world.specs.Agreement.{Agrees, CountsAreOwed, NumbersNameTheirFirstFile, DataIsCurrent, IsHandedNow, begins_data_of, Follows, Matches, IsGoodForget, IsAnswered, posted_from, posters, moves_of, all_moves}
use Rattle.world.specs.Attending.{RefusalsMayCome}
use Rattle.world.specs.declared.event.Event.{Event}
use Rattle.daemon.specs.declared.happened.Happened.{Happened}
use Rattle.world.proofs.InTurn.{step-matched}
use Rattle.world.proofs.Claiming.{HolderHas, holder-has, handed-over}
use Rattle.world.proofs.Daemons.{holder-is, at-is}
use Rattle.world.proofs.Handing.{all-at}
use Rattle.world.proofs.Pieces.{take-and-drop, handed-begins, begins-of-data, some-first, first-some}
use Rattle.world.proofs.Runs.{run-append, after_all-append, answered-after_all}

-- ---- what a match says

pub match-agrees : (w : World) (state : State) → Follows w state → Agrees w state
match-agrees w state m = record {
  manifest = m.manifest;
  books = m.books;
  quiet = m.quiet;
  holder_serves = λ seat at. let k = m.knows seat at in (k.0, k.1);
  under_way = λ seat server at. (holder-is w state seat server m.knows at).under;
  others_idle = m.others_idle;
  tree = λ seat server at. ((holder-is w state seat server m.knows at).knows).tree_is;
}

pub match-counts : (w : World) (state : State) → Follows w state → CountsAreOwed w state
match-counts w state m seat server at = ((holder-is w state seat server m.knows at).knows).counts

pub match-names : (w : World) (state : State) → Follows w state → NumbersNameTheirFirstFile w state
match-names w state m seat server at = let k = (holder-is w state seat server m.knows at).knows in record { files = k.files; sound = k.sound; numbers = k.numbers }

-- data of a generation, in a message of a generation that was, is of a generation that was
past-of : (last g : ℕ) (m : Message) → IsPast last m → is_data_of g m ≡ true → g ≤ last
past-of last g (Data s h bytes) low e = let same : h ≡ g = true-eq h g e in omega arith
past-of last g (Part s h i n bytes) low e = let same : h ≡ g = true-eq h g e in omega arith
past-of last g m low e = absurd (let none : ⊥ = cc in none)

-- a daemon that waits for a part read a beginning of the text
read-begins : (p : Phase) (g : ℕ) (reading : Option (List ℕ)) (text : List ℕ) → reads_at p ≡ Some g → HasRead p reading text → (read rest : List ℕ) × (reading ≡ Some read) × (text ≡ read ++ rest)
read-begins (Reading s h v i n) g reading text e (parts, are, count, kept, low, high) =
    (concat (take (i - 1) parts), concat (drop (i - 1) parts), kept, sym are.joined ∙ take-and-drop parts (i - 1))
read-begins p g reading text e read = absurd (let none : ⊥ = cc in none)

-- data of the seat knows the world, and so does what is served by each daemon that may claim the seat
pub match-current : (w : World) (state : State) → Matches w state → DataIsCurrent w state
match-current w state m = record {
  past = λ position g message at is. past-of state.broker.last g message (all-at (IsPast state.broker.last) state.messages (position - 1) message (m.handing).messages (at-is state.messages position message at)) is;
  alone = λ seat seated. let h = holder seat seated in alone_in seat ((m.handing).once seat h.was h.server h.has);
  handed = λ seat position seated at.
      let h = holder seat seated in
      handed_in seat h (first-some (is_data_of seat.generation) state.messages) (found seat position seated at) ((m.handing).once seat h.was h.server h.has);
  reads = λ seat daemon was seated there reading.
      let h = holder seat seated in
      let r = ((m.handing).daemons daemon was there).reads seat h.was h.server h.has reading in
      some_in seat seated (some-first (is_data_of seat.generation) state.messages r.some);
  held = λ seat daemon was seated there wants.
      let k = handed-over w state daemon was seat m.follows m.handing there seated wants in
      (k.server, k.serves, k.knows);
} where
  holder : (seat : Seat) → state.broker.seat ≡ Some seat → HolderHas w state seat
  holder seat seated = holder-has w state seat m.follows seated

  alone_in : (seat : Seat) {was : DaemonState} {server : ServerState} → (data_of seat.generation state.messages ≡ []) ⊎ HasHanded state seat was server → count_by (begins_data_of seat.generation) state.messages ≤ 1
  alone_in seat (inl none) =
      let same : count_by (begins_data_of seat.generation) state.messages ≡ count_by (begins_data_of seat.generation) (data_of seat.generation state.messages) = begins-of-data seat.generation state.messages in
      let empty : count_by (begins_data_of seat.generation) (data_of seat.generation state.messages) ≡ 0 = ap (count_by (begins_data_of seat.generation)) none in omega arith
  alone_in seat (inr over) =
      let same : count_by (begins_data_of seat.generation) state.messages ≡ count_by (begins_data_of seat.generation) (data_of seat.generation state.messages) = begins-of-data seat.generation state.messages in
      let few : count_by (begins_data_of seat.generation) (data_of seat.generation state.messages) ≤ 1 = handed-begins (goes_whole over.version) seat.generation over.session seat.generation over.text (data_of seat.generation state.messages) over.said in omega arith

  -- a position that is told is the index of a message, and one more
  found : (seat : Seat) (first : ℕ) → state.broker.seat ≡ Some seat → handed_of state ≡ Some first → (k : ℕ) × (position (is_data_of seat.generation) state.messages ≡ Some k)
  found seat first seated at = in_ (position (is_data_of seat.generation) state.messages) refl where
    in_ : (o : Option ℕ) → position (is_data_of seat.generation) state.messages ≡ o → (k : ℕ) × (position (is_data_of seat.generation) state.messages ≡ Some k)
    in_ (Some k) e = (k, e)
    in_ None e = absurd (
        let told : handed_of state ≡ option_map (λ (index : ℕ). index + 1) (position (is_data_of seat.generation) state.messages) =
        ap (λ (o : Option Seat). option_and_then (λ (s : Seat). option_map (λ (index : ℕ). index + 1) (position (is_data_of s.generation) state.messages)) o) seated in
        let two : None ≡ Some first = sym (told ∙ ap (option_map (λ (index : ℕ). index + 1)) e) ∙ at in
        let none : ⊥ = cc in none)

  some_in : (seat : Seat) → state.broker.seat ≡ Some seat → position (is_data_of seat.generation) state.messages ≡ Some (position_or_len (is_data_of seat.generation) state.messages) → IsSome (handed_of state)
  some_in seat seated e =
      let is : handed_of state ≡ Some (position_or_len (is_data_of seat.generation) state.messages + 1) =
      ap (λ (o : Option Seat). option_and_then (λ (s : Seat). option_map (λ (index : ℕ). index + 1) (position (is_data_of s.generation) state.messages)) o) seated ∙ ap (option_map (λ (index : ℕ). index + 1)) e in
      subst (λ (o : Option ℕ). IsSome o) (sym is) refl

  handed_in : (seat : Seat) (h : HolderHas w state seat) → ((k : ℕ) → position (is_data_of seat.generation) state.messages ≡ Some k → data_of seat.generation state.messages ≡ [] → ⊥) → (k : ℕ) × (position (is_data_of seat.generation) state.messages ≡ Some k) → (data_of seat.generation state.messages ≡ []) ⊎ HasHanded state seat h.was h.server → IsHandedNow w state seat
  handed_in seat h some at (inl none) = absurd (some at.0 at.1 none)
  handed_in seat h some at (inr over) = record {
    session = over.session;
    version = over.version;
    text = over.text;
    served = (h.server).served;
    said = over.said;
    handed = over.handed;
    knows = h.knows;
    read = λ daemon was there reading.
        let r = ((m.handing).daemons daemon was there).reads seat h.was h.server h.has reading in
        read-begins was.node.phase seat.generation was.reading over.text reading (r.read over);
  }

-- ---- a list of events

-- what a list of events did: its moves are a run, and the state matches the world after them
pub record Ran (w : World) (events : List Event) (outcomes : List (List Happened)) (new : State) : Type 0 where
  pub run : IsRun w (all_moves w events outcomes)
  pub matches : Matches (after_all w (all_moves w events outcomes)) new
  pub forgets : AllByRecursion (AllByRecursion IsGoodForget) outcomes
  pub refusals : RefusalsMayCome events outcomes

pub steps-matched : (w : World) (old : State) (events : List Event) (outcomes : List (List Happened)) (new : State) → Matches w old → Steps old events outcomes new → Ran w events outcomes new
steps-matched w old [] [] new m same = record { run = tt; matches = subst (λ (s : State). Matches w s) (sym same) m; forgets = tt; refusals = tt }
steps-matched w old [] (outcome ∷ outcomes) new m none = absurd none
steps-matched w old (event ∷ events) [] new m none = absurd none
steps-matched w old (event ∷ events) (outcome ∷ outcomes) new m (between, step, steps) =
    let one = step-matched w old event outcome between m step in
    let w' = after_all w (moves_of w event outcome) in
    let rest = steps-matched w' between events outcomes new one.matches steps in
    record {
      run = run-append w (moves_of w event outcome) (all_moves w' events outcomes) one.run rest.run;
      matches = subst (λ (x : World). Matches x new) (sym (after_all-append w (moves_of w event outcome) (all_moves w' events outcomes))) rest.matches;
      forgets = (one.forgets, rest.forgets);
      refusals = (one.refusals, rest.refusals);
    }

-- each reply that was posted on the way is one that the world saw posted
pub posters-answered : (w : World) (old : State) (events : List Event) (outcomes : List (List Happened)) (new : State) → Matches w old → (steps : Steps old events outcomes new) →
    AllByRecursion (IsAnswered (after_all w (all_moves w events outcomes))) (posters old events outcomes new steps)
posters-answered w old [] [] new m steps = tt
posters-answered w old [] (outcome ∷ outcomes) new m steps = absurd steps
posters-answered w old (event ∷ events) [] new m steps = absurd steps
posters-answered w old (event ∷ events) (outcome ∷ outcomes) new m steps =
    let one = step-matched w old event outcome steps.0 m steps.1 in
    let w' = after_all w (moves_of w event outcome) in
    let later = after_all-append w (moves_of w event outcome) (all_moves w' events outcomes) in
    subst (λ (x : World). AllByRecursion (IsAnswered x) (posters old (event ∷ events) (outcome ∷ outcomes) new steps)) (sym later)
    (answered-after_all w' (all_moves w' events outcomes) (posted_from old outcome) one.answered, posters-answered w' steps.0 events outcomes new one.matches steps.2)
