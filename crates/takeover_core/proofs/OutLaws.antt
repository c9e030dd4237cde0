-- Once its data is out, a daemon serves again only by a claim; and who is gone stays gone.
use Rattle.std.proofs.Common.{◌≡◌, ℕ, true, false, List, [], ◌∷◌, Ok, Err, refl, arith, rules}
use Rattle.std.proofs.lemmas.Bool.{or_parts}
use Rattle.std.specs.List.{list_any}
use Rattle.eden_base.specs.declared.claim.ClaimFault.TheVariants.{Unanswered}
use Rattle.takeover_core.specs.declared.phase.Phase.{Phase}
use Rattle.takeover_core.specs.declared.phase.Phase.TheVariants.{Holding, Handed, Gone}
use Rattle.takeover_core.specs.declared.message.Message.TheVariants.{Offer, Failed}
use Rattle.takeover_core.specs.Phases.{Event, Hear, GiveUp, Claimed, Crash, after, phase_after}
use Rattle.takeover_core.specs.Histories.{after_all, is_out, is_claim}
use Rattle.takeover_core.specs.Laws.{ServesAgainOnlyByClaim, GoneForGood}
use Rattle.takeover_core.specs.Node.{NodeState}
use Rattle.takeover_core.proofs.Rows.{node_of}

out_step : (versions : List ℕ) (n : ℕ) (phase : Phase) (event : Event) → is_out phase ≡ true → is_claim event ≡ false → is_out (phase_after (node_of versions n phase) event) ≡ true
out_step vs n (Handed g s) (Hear (Failed t)) out none = grind (arith, rules)
out_step vs n (Handed g s) (Hear (Offer offered)) out none = refl
out_step vs n (Handed g s) GiveUp out none = refl
out_step vs n (Holding g) (Claimed (Ok h)) out none = cc
out_step vs n (Holding g) (Claimed (Err (Unanswered k))) out none = refl
out_step vs n Gone Crash out none = refl
out_step vs n phase event out none = grind (arith, rules)

out_all : (events : List Event) (node : NodeState) → is_out node.phase ≡ true → list_any is_claim events ≡ false → is_out (after_all node events).phase ≡ true
out_all [] node out none = out
out_all (event ∷ events) node out none =
    let each = or_parts (is_claim event) (list_any is_claim events) none in
    out_all events (after node event) (out_step node.versions node.sessions node.phase event out each.0) each.1

pub serves_again_only_by_claim_lem : ServesAgainOnlyByClaim
serves_again_only_by_claim_lem node events out none = out_all events node out none

gone_step : (versions : List ℕ) (n : ℕ) (phase : Phase) (event : Event) → phase ≡ Gone → phase_after (node_of versions n phase) event ≡ Gone
gone_step vs n Gone Crash gone = refl
gone_step vs n Gone event gone = refl
gone_step vs n phase event gone = cc

gone_all : (events : List Event) (node : NodeState) → node.phase ≡ Gone → (after_all node events).phase ≡ Gone
gone_all [] node gone = gone
gone_all (event ∷ events) node gone =
    gone_all events (after node event) (gone_step node.versions node.sessions node.phase event gone)

pub gone_for_good_lem : GoneForGood
gone_for_good_lem node events gone = gone_all events node gone
