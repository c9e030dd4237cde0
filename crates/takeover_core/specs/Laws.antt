-- The laws of the phases, which hold for every history.
use Rattle.std.specs.Prelude.{◌≡◌, ◌≢◌, ◌⊎◌, ℕ, ◌≤◌, true, false, List, [], count_by, Some}
use Rattle.std.specs.List.{list_any}
use Rattle.takeover_core.specs.declared.heard.Heard.TheVariants.{Say}
use Rattle.takeover_core.specs.declared.message.Message.TheVariants.{Offer, Choice}
use Rattle.takeover_core.specs.declared.phase.Phase.{Phase}
use Rattle.takeover_core.specs.declared.phase.Phase.TheVariants.{Serving, Draining, Holding, Gone}
use Rattle.takeover_core.specs.Node.{NodeState, new_node}
use Rattle.takeover_core.specs.Phases.{Event, Hear, Crash, heard, phase_after, is_used_up, may_take, claim_wanted}
use Rattle.takeover_core.specs.Versions.{is_among}
use Rattle.takeover_core.specs.Histories.{after_all, handovers, seat_of, HasEnded, is_out, is_given, is_claim, is_handover_of}

-- a daemon has the seat only at a generation at which the broker gave that daemon the seat
abbrev pub ServesOnlyWhereGiven : Type 0
ServesOnlyWhereGiven =
    (versions : List ℕ) (events : List Event) (g : ℕ) →
    seat_of (after_all (new_node versions) events).phase ≡ Some g → list_any (is_given g) events ≡ true

-- a session that has ended stays ended
abbrev pub EndedStaysEnded : Type 0
EndedStaysEnded =
    (session : ℕ) (node : NodeState) (events : List Event) →
    HasEnded session node → HasEnded session (after_all node events)

-- a daemon that handed its data over does not serve again unless a claim succeeds
abbrev pub ServesAgainOnlyByClaim : Type 0
ServesAgainOnlyByClaim =
    (node : NodeState) (events : List Event) →
    is_out node.phase ≡ true → list_any is_claim events ≡ false → is_out (after_all node events).phase ≡ true

-- a daemon hands the data of a session over at most once, in one message or in parts
abbrev pub MakesDataOnce : Type 0
MakesDataOnce =
    (versions : List ℕ) (events : List Event) (session : ℕ) →
    count_by (is_handover_of session) (handovers (new_node versions) events) ≤ 1

-- a daemon may take requests in Serving and Draining only
abbrev pub TakesWhileServing : Type 0
TakesWhileServing =
    (phase : Phase) → may_take phase ≡ true →
    ((g : ℕ) × (phase ≡ Serving g)) ⊎ ((g : ℕ) × (s : ℕ) × (v : ℕ) × (phase ≡ Draining g s v))

-- a daemon wants to claim in Holding only, and from the generation that it holds
abbrev pub ClaimsWhileHolding : Type 0
ClaimsWhileHolding = (phase : Phase) (g : ℕ) → claim_wanted phase ≡ Some g → phase ≡ Holding g

-- a daemon that serves at this generation can begin a session: it has a version, and nothing is used up
pub record CanBegin (node : NodeState) (g : ℕ) : Type 0 where
  pub versions : node.versions ≢ []
  pub numbers : is_used_up node g ≡ false

-- each phase but Gone is left by some event other than a crash; Serving is left if a session can begin
abbrev pub CanBeLeft : Type 0
CanBeLeft =
    (node : NodeState) → node.phase ≢ Gone → ((g : ℕ) → node.phase ≡ Serving g → CanBegin node g) →
    (event : Event) × (event ≢ Crash) × (phase_after node event ≢ node.phase)

-- a daemon that is gone stays gone
abbrev pub GoneForGood : Type 0
GoneForGood =
    (node : NodeState) (events : List Event) → node.phase ≡ Gone → (after_all node events).phase ≡ Gone

-- a version is the greatest that both lists have
pub record IsGreatestCommon (own offered : List ℕ) (v : ℕ) : Type 0 where
  pub own_has : is_among own v ≡ true
  pub offered_has : is_among offered v ≡ true
  pub greatest : (w : ℕ) → is_among own w ≡ true → is_among offered w ≡ true → w ≤ v

-- a session is begun with the greatest version that both daemons have
abbrev pub ChoosesGreatestCommon : Type 0
ChoosesGreatestCommon =
    (node : NodeState) (offered : List ℕ) (s v : ℕ) →
    heard node (Hear (Offer offered)) ≡ Say (Choice s v) → IsGreatestCommon node.versions offered v
