-- Each phase but Gone can be left by another event than a crash.
use Rattle.std.proofs.Common.{◌≡◌, ◌≢◌, ℕ, ◌+◌, max, Bool, true, false, List, [], ◌∷◌, Option, Some, None, Err, filter, is_none, unwrap_or, if◌then◌else◌, refl}
use Rattle.std.specs.List.{reduce}
use Rattle.eden_base.specs.declared.claim.ClaimFault.TheVariants.{Ended}
use Rattle.takeover_core.specs.declared.phase.Phase.{Phase}
use Rattle.takeover_core.specs.declared.phase.Phase.TheVariants.{Waiting, Chosen, Taking, Reading, Raising, Holding, Serving, Draining, Pinged, Making, Handed, Gone}
use Rattle.takeover_core.specs.declared.heard.Heard.TheVariants.{Say}
use Rattle.takeover_core.specs.declared.message.Message.TheVariants.{Offer, NoCommon, Busy}
use Rattle.takeover_core.specs.Laws.{CanBegin, CanBeLeft}
use Rattle.takeover_core.specs.Node.{NodeState}
use Rattle.takeover_core.specs.Phases.{Event, Stays, begins, after_row, is_used_up, Hear, Fed, Raised, DataFailed, GiveUp, Claimed, Crash, phase_after}
use Rattle.takeover_core.specs.Versions.{is_among, greatest_common}
use Rattle.takeover_core.proofs.VersionLaws.{among_first}
use Rattle.takeover_core.proofs.Rows.{node_of}

-- some event but a crash leads out of a phase
abbrev pub IsLeft : List ℕ → ℕ → Phase → Type 0
IsLeft vs n phase = (event : Event) × (event ≢ Crash) × (phase_after (node_of vs n phase) event ≢ phase)

some_first : (p : ℕ → Bool) (v : ℕ) (vs : List ℕ) (b : Bool) → b ≡ true → reduce max (if b then v ∷ filter p vs else filter p vs) ≢ None
some_first p v vs true is = λ e. cc
some_first p v vs false is = let none : ⊥ = cc in absurd none

-- versions have one in common with themselves, if there are any
common_own : (versions : List ℕ) → versions ≢ [] → greatest_common versions versions ≢ None
common_own [] some = absurd (some refl)
common_own (v ∷ vs) some =
    some_first (is_among (v ∷ vs)) v vs (is_among (v ∷ vs) v) (among_first vs v)

-- an offer with a common version begins a session
offer_begins : (node : NodeState) (g : ℕ) (common : Option ℕ) (used_up : Bool) → common ≢ None → used_up ≡ false → (after_row node (if is_none common then Stays (Say NoCommon) else if used_up then Stays (Say Busy) else begins (node.sessions + 1) g (unwrap_or common 0))).phase ≢ Serving g
offer_begins node g None used_up some free = absurd (some refl)
offer_begins node g (Some v) true some free = let none : ⊥ = cc in absurd none
offer_begins node g (Some v) false some free = λ e. cc

left : (versions : List ℕ) (n : ℕ) (phase : Phase) → phase ≢ Gone → ((g : ℕ) → phase ≡ Serving g → CanBegin (node_of versions n phase) g) → IsLeft versions n phase
left vs n Waiting there begin = (GiveUp, λ e. cc, λ e. cc)
left vs n (Chosen s v) there begin = (GiveUp, λ e. cc, λ e. cc)
left vs n (Taking s g v i m) there begin = (Fed false, λ e. cc, λ e. cc)
left vs n (Reading s g v i m) there begin = (GiveUp, λ e. cc, λ e. cc)
left vs n (Raising s g) there begin = (Raised false, λ e. cc, λ e. cc)
left vs n (Holding g) there begin = (Claimed (Err Ended), λ e. cc, λ e. cc)
left vs n (Serving g) there begin =
    let can : CanBegin (node_of vs n (Serving g)) g = begin g refl in (
      Hear (Offer vs),
      λ e. cc,
      offer_begins (node_of vs n (Serving g)) g (greatest_common vs vs) (is_used_up (node_of vs n (Serving g)) g) (common_own vs can.versions) can.numbers,
    )
left vs n (Draining g s v) there begin = (GiveUp, λ e. cc, λ e. cc)
left vs n (Pinged g s v) there begin = (GiveUp, λ e. cc, λ e. cc)
left vs n (Making g s v) there begin = (DataFailed, λ e. cc, λ e. cc)
left vs n (Handed g s) there begin = (GiveUp, λ e. cc, λ e. cc)
left vs n Gone there begin = absurd (there refl)

pub can_be_left_lem : CanBeLeft
can_be_left_lem node there begin = left node.versions node.sessions node.phase there begin
