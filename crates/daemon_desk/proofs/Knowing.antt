-- A daemon that knows what is served after an event knew it before, unless the event restored data.
use Rattle.std.proofs.Common.{◌≡◌, ℕ, true, false, List, rules}
use Rattle.takeover_core.specs.declared.heard.Heard.TheVariants.{MakeData}
use Rattle.takeover_core.specs.declared.message.Message.{Message}
use Rattle.takeover_core.specs.declared.message.Message.TheVariants.{Choice, Ready, Data, Part, Failed}
use Rattle.takeover_core.specs.declared.phase.Phase.{Phase}
use Rattle.takeover_core.specs.declared.phase.Phase.TheVariants.{Waiting, Chosen, Reading}
use Rattle.takeover_core.specs.Phases.{Hear, GiveUp, Drained, heard, phase_after}
use Rattle.daemon.specs.Talking.{brings_data}
use Rattle.daemon_desk.specs.Inside.{knows}
use Rattle.daemon_desk.proofs.Quiet.{node_of}

pub knew : (versions : List ℕ) (sessions : ℕ) (phase : Phase) (said : Message) → brings_data (heard (node_of versions sessions phase) (Hear said)) ≡ false → knows (phase_after (node_of versions sessions phase) (Hear said)) ≡ true → knows phase ≡ true
knew versions sessions Waiting (Choice t v) none later = grind rules
knew versions sessions (Chosen s v) (Ready t g) none later = grind rules
knew versions sessions (Chosen s v) (Data t g bytes) none later = grind rules
knew versions sessions (Chosen s v) (Part t g i n bytes) none later = grind rules
knew versions sessions (Reading s g v i n) (Part t h j m bytes) none later = grind rules
knew versions sessions (Chosen s v) (Failed t) none later = grind rules
knew versions sessions (Reading s g v i n) (Failed t) none later = grind rules
knew versions sessions phase said none later = grind rules

pub knew_making : (versions : List ℕ) (sessions : ℕ) (phase : Phase) (said : Message) (s g v : ℕ) → heard (node_of versions sessions phase) (Hear said) ≡ MakeData s g v → knows phase ≡ true
knew_making versions sessions Waiting (Choice t w) s g v is = grind rules
knew_making versions sessions (Chosen t w) (Ready u h) s g v is = grind rules
knew_making versions sessions (Chosen t w) (Data u h bytes) s g v is = grind rules
knew_making versions sessions (Chosen t w) (Part u h i n bytes) s g v is = grind rules
knew_making versions sessions (Reading t h w i n) (Part u k j m bytes) s g v is = grind rules
knew_making versions sessions (Chosen t w) (Failed u) s g v is = grind rules
knew_making versions sessions (Reading t h w i n) (Failed u) s g v is = grind rules
knew_making versions sessions phase said s g v is = grind rules

pub knew_at_end : (versions : List ℕ) (sessions : ℕ) (phase : Phase) → knows (phase_after (node_of versions sessions phase) GiveUp) ≡ true → knows phase ≡ true
knew_at_end versions sessions phase later = grind rules

pub knew_drained : (versions : List ℕ) (sessions : ℕ) (phase : Phase) (hand unposted : ℕ) → knows (phase_after (node_of versions sessions phase) (Drained hand unposted)) ≡ true → knows phase ≡ true
knew_drained versions sessions phase hand unposted later = grind rules
