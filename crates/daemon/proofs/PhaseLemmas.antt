-- The phase of a daemon that is to make data, or to take it or a part of it.
use Rattle.std.proofs.Common.{◌≡◌, ◌+◌, ℕ, Bool, true, false, sym, subst, refl}
use Rattle.std.specs.Prelude.{◌==◌, ◌&&◌, is_none, unwrap_or, if◌then◌else◌}
use Rattle.takeover_core.specs.Node.{NodeState}
use Rattle.takeover_core.specs.Phases.{Hear, Row, Stays, Goes, after, after_row, answer_of, begins, goes_in_parts, goes_whole, heard, is_part_count, is_used_up, phase_after, provided, row}
use Rattle.takeover_core.specs.Versions.{greatest_common, is_among}
use Rattle.takeover_core.specs.declared.heard.Heard.{Heard as Answer}
use Rattle.takeover_core.specs.declared.heard.Heard.TheVariants.{Heard, Say, MakeData, GotData, GotPart}
use Rattle.takeover_core.specs.declared.message.Message.{Message}
use Rattle.takeover_core.specs.declared.message.Message.TheVariants.{Offer, Choice, NoCommon, Busy, Ready, Pong, Data, Part, Failed}
use Rattle.takeover_core.specs.declared.phase.Phase.{Phase}
use Rattle.takeover_core.specs.declared.phase.Phase.TheVariants.{Waiting, Chosen, Taking, Reading, Raising, Holding, Serving, Draining, Pinged, Making, Handed, Gone}

-- the phase of a daemon that is to do what the table answers, if that makes or takes data
abbrev pub IsPhaseFor : Answer → Phase → Type 0
IsPhaseFor (MakeData session generation version) phase = phase ≡ Making generation session version
IsPhaseFor (GotData session generation version) phase = phase ≡ Raising session generation
IsPhaseFor (GotPart session generation version position count) phase =
    phase ≡ Taking session generation version position count
IsPhaseFor answer phase = Unit {0}

abbrev IsRowFor : NodeState → Row → Type 0
IsRowFor node line = IsPhaseFor (answer_of line) (after_row node line).phase

-- if the condition of a row does not hold, the message is ignored
by_condition : (node : NodeState) (condition : Bool) (phase : Phase) (answer : Answer) → IsPhaseFor answer phase → IsRowFor node (provided condition (Goes phase answer))
by_condition node true phase answer is = is
by_condition node false phase answer is = tt

stays_so : (node : NodeState) (condition : Bool) (said : Message) → IsRowFor node (provided condition (Stays (Say said)))
stays_so node true said = tt
stays_so node false said = tt

offered_so : (node : NodeState) (g v : ℕ) (none used : Bool) → IsRowFor node (if none then Stays (Say NoCommon) else if used then Stays (Say Busy) else begins (node.sessions + 1) g v)
offered_so node g v true used = tt
offered_so node g v false true = tt
offered_so node g v false false = tt

row_for : (node : NodeState) (phase : Phase) (said : Message) → IsRowFor node (row node phase (Hear said))
row_for node Waiting (Choice t v) = by_condition node (is_among node.versions v) (Chosen t v) Heard tt
row_for node (Chosen s v) (Ready t g) = stays_so node (t == s) (Pong s)
row_for node (Chosen s v) (Data t g bytes) = by_condition node (t == s && goes_whole v) (Raising s g) (GotData s g v) refl
row_for node (Chosen s v) (Part t g i n bytes) =
    by_condition node (t == s && goes_in_parts v && i == 1 && is_part_count n) (Taking s g v 1 n) (GotPart s g v 1 n) refl
row_for node (Reading s g v i n) (Part t h j m bytes) =
    by_condition node (t == s && h == g && j == i && m == n) (Taking s g v i n) (GotPart s g v i n) refl
row_for node (Chosen s v) (Failed t) = by_condition node (t == s) Gone Heard tt
row_for node (Reading s g v i n) (Failed t) = by_condition node (t == s) Gone Heard tt
row_for node (Serving g) (Offer offered) =
    offered_so node g (unwrap_or (greatest_common node.versions offered) 0) (is_none (greatest_common node.versions offered)) (is_used_up node g)
row_for node (Pinged g s v) (Pong t) = by_condition node (t == s) (Making g s v) (MakeData s g v) refl
row_for node (Draining g s v) (Failed t) = by_condition node (t == s) (Serving g) Heard tt
row_for node (Pinged g s v) (Failed t) = by_condition node (t == s) (Serving g) Heard tt
row_for node (Making g s v) (Failed t) = by_condition node (t == s) (Serving g) Heard tt
row_for node (Handed g s) (Failed t) = by_condition node (t == s) (Holding g) Heard tt
row_for node phase said = tt

-- after a message the phase is the one for the table's answer
pub phase_for : (node : NodeState) (said : Message) (answer : Answer) → heard node (Hear said) ≡ answer → IsPhaseFor answer (phase_after node (Hear said))
phase_for node said answer is = subst (λ (a : Answer). IsPhaseFor a (phase_after node (Hear said))) is (row_for node node.phase said)

-- a daemon that heard a message is in the phase for the table's answer
pub phase_heard : (copy node : NodeState) (said : Message) (answer : Answer) → answer ≡ heard copy (Hear said) → node ≡ after copy (Hear said) → IsPhaseFor answer node.phase
phase_heard copy node said answer is is_after =
    subst (λ (n : NodeState). IsPhaseFor answer n.phase) (sym is_after) (phase_for copy said answer (sym is))
