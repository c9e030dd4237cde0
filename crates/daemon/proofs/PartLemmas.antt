-- A part that is read, by the phase in which a daemon takes it.
use Rattle.std.proofs.Common.{◌≡◌, ◌+◌, ℕ, Bool, true, false, List, [], ◌++◌, Option, Some, None, IsSome, refl, sym, ap, subst, ◌∙◌, inl, inr}
use Rattle.std.specs.Prelude.{is_none, nat_lt, if◌then◌else◌}
use Rattle.manifest.specs.Manifest.{Manifest}
use Rattle.map_image.specs.Feeding.{standing_fault}
use Rattle.map_image.specs.declared.fault.ImageFault.{ImageFault}
use Rattle.takeover_core.specs.Node.{NodeState}
use Rattle.takeover_core.specs.Phases as table
use Rattle.takeover_core.specs.declared.heard.Heard.{Heard as Answer}
use Rattle.takeover_core.specs.declared.heard.Heard.TheVariants as answer
use Rattle.takeover_core.specs.declared.message.Message.{Message}
use Rattle.takeover_core.specs.declared.message.Message.TheVariants.{Failed}
use Rattle.takeover_core.specs.declared.phase.Phase.{Phase}
use Rattle.takeover_core.specs.declared.phase.Phase.TheVariants.{Taking, Reading, Raising}
use Rattle.daemon.specs.Daemon.{DaemonState, read_in, turned_to}
use Rattle.daemon.specs.Saying.{of_said, turned, TurnState}
use Rattle.daemon.specs.Talking.{BringsPart, HearsSo, ReactsBy, ReadsBy, TakesData, TakesPart, brings_part, bytes_of, read_before}
use Rattle.daemon.specs.declared.turn.Reaction.{Reaction}
use Rattle.daemon.specs.declared.turn.Reaction.TheVariants.{Says}
use Rattle.daemon.proofs.PhaseLemmas.{phase_for, phase_heard}

-- ---- whether an image may begin so

no_fault : (fault : Option ImageFault) → true ≡ is_none fault → fault ≡ None
no_fault None is = refl
no_fault (Some fault) is = (let no : ⊥ = cc in absurd no)

a_fault : (fault : Option ImageFault) → false ≡ is_none fault → IsSome fault
a_fault None is = (let no : ⊥ = cc in absurd no)
a_fault (Some fault) is = refl

-- ---- the phase behind a part, by the phase in which it is taken

abbrev phase_fed : NodeState → Bool → Phase → Phase
phase_fed node fits phase = (table.after_row node (table.row node phase (table.Fed fits))).phase

abbrev said_fed : NodeState → Bool → Phase → Option Message
said_fed node fits phase = table.said (table.answer_of (table.row node phase (table.Fed fits)))

-- a daemon that read a part that others follow
pub takes_part : (manifest : Manifest) (limit : ℕ) (old : DaemonState) (node : NodeState) (read : List ℕ) (s g v i n : ℕ) (fits : Bool) → node.phase ≡ Taking s g v i n → nat_lt i n ≡ true → fits ≡ is_none (standing_fault read) →
    TakesPart manifest limit old read node g i n (of_said (table.said (table.heard node (table.Fed fits)))) (turned_to (record old { reading = Some read }) (table.after node (table.Fed fits)))
takes_part manifest limit old node read s g v i n true at follow is = inl (record {
  no_fault = no_fault (standing_fault read) is;
  reads = subst (λ (b : Bool). ReadsBy b manifest limit old read node g (of_said (said_fed node true node.phase)) (turned_to (record old { reading = Some read }) (table.after node (table.Fed true)))) (sym follow)
      (record {
        reacts = ap (λ (p : Phase). of_said (said_fed node true p)) at;
        becomes = ap (λ (r : Option (List ℕ)). record old { node = table.after node (table.Fed true); reading = r })
            (ap (λ (p : Phase). read_in (phase_fed node true p) (Some read)) at ∙ ap (λ (b : Bool). read_in (if b then Reading s g v (i + 1) n else Raising s g) (Some read)) follow);
      });
})
takes_part manifest limit old node read s g v i n false at follow is = inr (record {
  said = Failed s;
  faulty = a_fault (standing_fault read) is;
  says = ap (said_fed node false) at;
  reacts = ap (λ (p : Phase). of_said (said_fed node false p)) at;
  becomes = ap (λ (r : Option (List ℕ)). record old { node = table.after node (table.Fed false); reading = r })
      (ap (λ (p : Phase). read_in (phase_fed node false p) (Some read)) at ∙ sym (ap (λ (p : Phase). read_in (phase_fed node false p) old.reading) at));
})

-- ---- a message that brings it

-- a daemon that got a part is in the phase in which it takes it
pub is_taking_part : (copy node : NodeState) (said : Message) (s g v i n : ℕ) → answer.GotPart s g v i n ≡ table.heard copy (table.Hear said) → node ≡ table.after copy (table.Hear said) → table.is_taking node.phase ≡ true
is_taking_part copy node said s g v i n is after =
    ap table.is_taking (phase_heard copy node said (answer.GotPart s g v i n) is after)

-- a daemon that read the last part is in the phase in which it restores the data
pub is_raising_behind : (copy node : NodeState) (said : Message) (s g v i n : ℕ) → answer.GotPart s g v i n ≡ table.heard copy (table.Hear said) → node ≡ table.after copy (table.Hear said) → nat_lt i n ≡ false → table.is_raising (table.phase_after node (table.Fed true)) ≡ true
is_raising_behind copy node said s g v i n is after last =
    let at : node.phase ≡ Taking s g v i n = phase_heard copy node said (answer.GotPart s g v i n) is after in
    ap (λ (p : Phase). table.is_raising (phase_fed node true p)) at ∙ ap (λ (b : Bool). table.is_raising (if b then Reading s g v (i + 1) n else Raising s g)) last

-- a daemon that got data whole is in the phase in which it restores the data
pub is_raising_data : (copy node : NodeState) (said : Message) (s g v : ℕ) → answer.GotData s g v ≡ table.heard copy (table.Hear said) → node ≡ table.after copy (table.Hear said) → table.is_raising node.phase ≡ true
is_raising_data copy node said s g v is after = ap table.is_raising (phase_heard copy node said (answer.GotData s g v) is after)

-- the answer of the table to a part that others follow
pub record IsPart (a : Answer) : Type 0 where
  pub session : ℕ
  pub generation : ℕ
  pub version : ℕ
  pub position : ℕ
  pub count : ℕ
  pub is : a ≡ answer.GotPart session generation version position count
  pub follows : nat_lt position count ≡ true

is_part : (a : Answer) → brings_part a ≡ true → IsPart a
is_part (answer.GotPart s g v i n) brings =
    record { session = s; generation = g; version = v; position = i; count = n; is = refl; follows = brings }
is_part a brings = absurd (let none : ⊥ = cc in none)

-- the part that a message brings
pub part_brought : (old : DaemonState) (said : Message) (node : NodeState) → BringsPart old said node → IsPart (table.heard old.node (table.Hear said))
part_brought old said node brings = is_part (table.heard old.node (table.Hear said)) brings.follows

-- a daemon to which a message brings a part is in the phase in which it takes it
pub phase_brought : (old : DaemonState) (said : Message) (node : NodeState) (brings : BringsPart old said node) →
    node.phase ≡ Taking (part_brought old said node brings).session (part_brought old said node brings).generation (part_brought old said node brings).version (part_brought old said node brings).position (part_brought old said node brings).count
phase_brought old said node brings =
    let part = part_brought old said node brings in
    phase_heard old.node node said (answer.GotPart part.session part.generation part.version part.position part.count) (sym part.is) brings.becomes

-- what came of a part that others follow, by what each call did
pub record ReadsAPart (old : DaemonState) (said : Message) (s g v i n : ℕ) (fits : Bool) (reaction : Reaction)
    (new : DaemonState) : Type 0 where
  pub read : DaemonState
  pub node : NodeState
  pub fed : NodeState
  pub told : Option Message
  pub brings : BringsPart old said node
  pub at : node.phase ≡ Taking s g v i n
  pub read_is : read ≡ record old { reading = Some (read_before i old ++ bytes_of said) }
  pub fits_is : fits ≡ is_none (standing_fault (read_before i old ++ bytes_of said))
  pub told_is : told ≡ table.said (table.heard node (table.Fed fits))
  pub fed_is : fed ≡ table.after node (table.Fed fits)
  pub new_is : new ≡ turned_to read fed
  pub reaction_is : reaction ≡ of_said told

pub reads_so : (manifest : Manifest) (limit : ℕ) (old new : DaemonState) (said : Message) (s g v i n : ℕ) (fits : Bool) (reaction : Reaction) → ReadsAPart old said s g v i n fits reaction new → HearsSo manifest limit old said reaction new
reads_so manifest limit old new said s g v i n fits reaction h =
    let node : NodeState = table.after old.node (table.Hear said) in
    let bytes : List ℕ = read_before i old ++ bytes_of said in
    let part : IsPart (table.heard old.node (table.Hear said)) = is_part (table.heard old.node (table.Hear said)) (h.brings).follows in
    let same : Taking part.session part.generation part.version part.position part.count ≡ Taking s g v i n =
    sym (phase_for old.node said (answer.GotPart part.session part.generation part.version part.position part.count) part.is) ∙ ap (λ (m : NodeState). m.phase) (sym (h.brings).becomes) ∙ h.at in
    let got : answer.GotPart s g v i n ≡ table.heard old.node (table.Hear said) = sym (got_as part.session part.generation part.version part.position part.count same) ∙ sym part.is in
    let follow : nat_lt i n ≡ true = sym (follows_as part.session part.generation part.version part.position part.count same) ∙ part.follows in
    let fed : h.fed ≡ table.after node (table.Fed fits) = h.fed_is ∙ ap (λ (m : NodeState). table.after m (table.Fed fits)) (h.brings).becomes in
    let told : h.told ≡ table.said (table.heard node (table.Fed fits)) = h.told_is ∙ ap (λ (m : NodeState). table.said (table.heard m (table.Fed fits))) (h.brings).becomes in
    let reacts : reaction ≡ of_said (table.said (table.heard node (table.Fed fits))) = h.reaction_is ∙ ap of_said told in
    let becomes : new ≡ turned_to (record old { reading = Some bytes }) (table.after node (table.Fed fits)) =
    h.new_is ∙ ap (λ (d : DaemonState). turned_to d h.fed) h.read_is ∙ ap (turned_to (record old { reading = Some bytes })) fed in
    let takes : TakesPart manifest limit old bytes node g i n (of_said (table.said (table.heard node (table.Fed fits)))) (turned_to (record old { reading = Some bytes }) (table.after node (table.Fed fits))) =
    takes_part manifest limit old node bytes s g v i n fits (phase_for old.node said (answer.GotPart s g v i n) (sym got)) follow h.fits_is in
    let as_told : TakesPart manifest limit old bytes node g i n reaction new =
    subst (λ (r : Reaction). TakesPart manifest limit old bytes node g i n r new) (sym reacts)
    (subst (λ (d : DaemonState). TakesPart manifest limit old bytes node g i n (of_said (table.said (table.heard node (table.Fed fits)))) d) (sym becomes) takes) in
    subst (λ (a : Answer). ReactsBy manifest limit (bytes_of said) old node a reaction new) got as_told
  where
    got_as : (session generation version position count : ℕ) → Taking session generation version position count ≡ Taking s g v i n → answer.GotPart session generation version position count ≡ answer.GotPart s g v i n
    got_as session generation version position count e = cc

    follows_as : (session generation version position count : ℕ) → Taking session generation version position count ≡ Taking s g v i n → nat_lt position count ≡ nat_lt i n
    follows_as session generation version position count e = cc

-- ---- the last part

fed_well : (node : NodeState) (fits : Bool) (phase : Phase) → table.is_taking phase ≡ true → None ≡ said_fed node fits phase → fits ≡ true
fed_well node true phase taking none = refl
fed_well node false (Taking s g v i n) taking none = (let no : ⊥ = cc in absurd no)
fed_well node false phase taking none = (let no : ⊥ = cc in absurd no)

fed_badly : (node : NodeState) (fits : Bool) (phase : Phase) (said : Message) → table.is_taking phase ≡ true → Some said ≡ said_fed node fits phase → fits ≡ false
fed_badly node false phase said taking is = refl
fed_badly node true (Taking s g v i n) said taking is = (let no : ⊥ = cc in absurd no)
fed_badly node true phase said taking is = (let no : ⊥ = cc in absurd no)

-- what was read with the last part is taken over
pub last_taken : (manifest : Manifest) (limit : ℕ) (old new : DaemonState) (node fed : NodeState) (bytes reader : List ℕ) (g i n : ℕ) (fits : Bool) (reaction : Reaction) → table.is_taking node.phase ≡ true → nat_lt i n ≡ false →
    fits ≡ is_none (standing_fault bytes) → None ≡ table.said (table.heard node (table.Fed fits)) → fed ≡ table.after node (table.Fed fits) → reader ≡ bytes →
    TakesData manifest limit old reader fed g reaction new → TakesPart manifest limit old bytes node g i n reaction new
last_taken manifest limit old new node fed bytes reader g i n fits reaction taking last is none fed_is reader_is takes =
    let well : fits ≡ true = fed_well node fits node.phase taking none in
    let by_bytes : TakesData manifest limit old bytes fed g reaction new = subst (λ (r : List ℕ). TakesData manifest limit old r fed g reaction new) reader_is takes in
    let by_node : TakesData manifest limit old bytes (table.after node (table.Fed true)) g reaction new =
    subst (λ (m : NodeState). TakesData manifest limit old bytes m g reaction new) (fed_is ∙ ap (λ (b : Bool). table.after node (table.Fed b)) well) by_bytes in
    inl (record {
      no_fault = no_fault (standing_fault bytes) (sym well ∙ is);
      reads = subst (λ (b : Bool). ReadsBy b manifest limit old bytes node g reaction new) (sym last) by_node;
    })

-- no image begins with what was read with the last part
pub last_lost : (manifest : Manifest) (limit : ℕ) (old : DaemonState) (node fed : NodeState) (bytes : List ℕ) (g i n : ℕ) (fits : Bool) (said : Message) (turn : TurnState) → table.is_taking node.phase ≡ true →
    fits ≡ is_none (standing_fault bytes) → Some said ≡ table.said (table.heard node (table.Fed fits)) → fed ≡ table.after node (table.Fed fits) →
    turn ≡ record { node = fed; held = None; reaction = Says said [] } → TakesPart manifest limit old bytes node g i n turn.reaction (turned old turn)
last_lost manifest limit old node fed bytes g i n fits said turn taking is some fed_is turn_is =
    let badly : fits ≡ false = fed_badly node fits node.phase said taking some in
    let node_is : fed ≡ table.after node (table.Fed false) = fed_is ∙ ap (λ (b : Bool). table.after node (table.Fed b)) badly in
    let says : table.said (table.heard node (table.Fed false)) ≡ Some said = ap (λ (b : Bool). table.said (table.heard node (table.Fed b))) (sym badly) ∙ sym some in
    inr (record {
      said = said;
      faulty = a_fault (standing_fault bytes) (sym badly ∙ is);
      says = says;
      reacts = ap (λ (t : TurnState). t.reaction) turn_is;
      becomes = ap (turned old) turn_is ∙ ap (turned_to old) node_is;
    })
