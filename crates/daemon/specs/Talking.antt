-- What a daemon makes of a message that it hears, and of its own program's calls in a takeover. What the daemon says
-- and becomes is in the table (`takeover_core`). Added here are the data, made of what the daemon serves, and what is
-- restored from data. (EdenFS's documents on takeover; the table is this project's own.)
use Rattle.std.specs.Prelude.{◌≡◌, ℕ, ◌+◌, ◌==◌, nat_lt, ◌⊎◌, Bool, true, false, List, [], ◌∷◌, ◌++◌, length, Option, Some, None, unwrap_or, IsSome, Result, Ok, Err, if◌then◌else◌}
use Rattle.std.specs.Option.{option_map}
use Rattle.eden_base.specs.declared.claim.ClaimFault.{ClaimFault}
use Rattle.eden_base.specs.declared.claim.ClaimFault.TheVariants as claim
use Rattle.manifest.specs.Manifest.{Manifest}
use Rattle.fuse_ops.specs.Served.{ServedState}
use Rattle.map_image.specs.Feeding.{standing_fault}
use Rattle.map_image.specs.Parts.{AreParts}
use Rattle.map_codec.specs.Handover.{IsHandedOver, CannotBeHandedOver, IsTakenOver, CannotBeTakenOver}
use Rattle.takeover_core.specs.Node.{NodeState}
use Rattle.takeover_core.specs.Phases as table
use Rattle.takeover_core.specs.declared.heard.Heard.{Heard as Answer}
use Rattle.takeover_core.specs.declared.heard.Heard.TheVariants as answer
use Rattle.takeover_core.specs.declared.message.Message.{Message}
use Rattle.takeover_core.specs.declared.message.Message.TheVariants as message
use Rattle.takeover_core.specs.declared.node.DrainFault.{DrainFault}
use Rattle.takeover_core.specs.declared.phase.Phase.TheVariants.{Handed}
use Rattle.daemon.specs.Daemon.{DaemonState, with_node, turned_to, read_in, in_hand, unposted}
use Rattle.daemon.specs.Server.{ServerState}
use Rattle.daemon.specs.Saying.{TurnState, turned, what_is_said}
use Rattle.daemon.specs.Serving.{beginning}
use Rattle.daemon.specs.declared.turn.Effect.{Effect}
use Rattle.daemon.specs.declared.turn.Effect.TheVariants as effect
use Rattle.daemon.specs.declared.turn.Reaction.{Reaction}
use Rattle.daemon.specs.declared.turn.Reaction.TheVariants.{Ignores, Accepts, Says}

-- ---- the data is made

-- the bytes are the image of what a daemon serves, in a form that the version accepts
abbrev pub HasData : Option ServerState → ℕ → ℕ → List ℕ → Type 0
HasData None generation version bytes = ⊥
HasData (Some server) generation version bytes = IsHandedOver server.served generation version bytes

-- a daemon serves nothing, or what it serves has no image that the version accepts
abbrev pub HasNoData : Option ServerState → ℕ → ℕ → Type 0
HasNoData None generation version = Unit {0}
HasNoData (Some server) generation version = CannotBeHandedOver server.served generation version

-- parts as messages of a session at a generation: the first has this position, each next one the next position, and all
-- tell how many parts there are
abbrev pub numbered : (session generation count position : ℕ) → List (List ℕ) → List Message
numbered session generation count position [] = []
numbered session generation count position (part ∷ parts) =
    message.Part session generation position count part
    ∷ numbered session generation count (position + 1) parts

-- the messages that carry all parts of a text, from position 1 on
abbrev pub in_parts : (session generation : ℕ) → List (List ℕ) → List Message
in_parts session generation parts = numbered session generation (length parts) 1 parts

-- the turn of a daemon that says a text in parts
pub record GoesInParts (node : NodeState) (session generation : ℕ) (text : List ℕ) (turn : TurnState) : Type 0 where
  pub parts : List (List ℕ)
  pub are : AreParts text parts
  pub says : what_is_said turn.reaction ≡ in_parts session generation parts
  pub node_is : turn.node ≡ table.after node table.PartsMade
  pub holds_nothing : turn.held ≡ None

-- a text is sent whole, in one message, or else in its numbered parts
abbrev pub IsSentBy : (is_whole : Bool) → (session generation : ℕ) → List ℕ → List Message → Type 0
IsSentBy true session generation text said = said ≡ message.Data session generation text ∷ []
IsSentBy false session generation text said =
    (parts : List (List ℕ)) × AreParts text parts × (said ≡ in_parts session generation parts)

-- a text is sent in a session at a generation, as its version goes
abbrev pub IsSent : (version session generation : ℕ) → List ℕ → List Message → Type 0
IsSent version session generation text said = IsSentBy (table.goes_whole version) session generation text said

-- what a daemon serves is handed over, all of it at once; from then on the daemon serves only if it claims
pub record HandsOver (old : DaemonState) (node : NodeState) (session generation version : ℕ) (reaction : Reaction)
    (new : DaemonState) : Type 0 where
  pub bytes : List ℕ
  pub has : HasData old.server generation version bytes
  pub said : IsSent version session generation bytes (what_is_said reaction)
  pub becomes : new ≡ turned_to old (record node { phase = Handed generation session })

-- a daemon that has no data to hand over says so, and serves on
pub record ServesOn (old : DaemonState) (node : NodeState) (generation version : ℕ) (reaction : Reaction)
    (new : DaemonState) : Type 0 where
  pub said : Message
  pub no_data : HasNoData old.server generation version
  pub says : table.said (table.heard node table.DataFailed) ≡ Some said
  pub reacts : reaction ≡ Says said []
  pub becomes : new ≡ turned_to old (table.after node table.DataFailed)

-- ---- the data is taken

-- the bytes of data that a message carries
abbrev pub bytes_of : Message → List ℕ
bytes_of (message.Data session generation bytes) = bytes
bytes_of (message.Part session generation position count bytes) = bytes
bytes_of other = []

-- a daemon restores the data, and holds the result until it claims the seat
pub record TakesOver (old : DaemonState) (manifest : Manifest) (limit : ℕ) (bytes : List ℕ) (node : NodeState)
    (generation : ℕ) (reaction : Reaction) (new : DaemonState) : Type 0 where
  pub served : ServedState
  pub taken : IsTakenOver manifest limit generation bytes served
  pub reacts : reaction ≡ Accepts
  pub becomes : new ≡ record {
    node = table.after node (table.Raised true);
    server = Some (beginning generation served);
    reading = read_in (table.after node (table.Raised true)).phase old.reading;
  }

-- a daemon that restored nothing says so, and is gone
pub record Loses (old : DaemonState) (node : NodeState) (reaction : Reaction) (new : DaemonState) : Type 0 where
  pub said : Message
  pub says : table.said (table.heard node (table.Raised false)) ≡ Some said
  pub reacts : reaction ≡ Says said []
  pub becomes : new ≡ turned_to old (table.after node (table.Raised false))

-- the data cannot be restored, and the daemon is gone
pub record CannotTakeOver (old : DaemonState) (manifest : Manifest) (text : List ℕ) (node : NodeState) (generation : ℕ)
    (reaction : Reaction) (new : DaemonState) : Type 0 where
  pub cannot : CannotBeTakenOver manifest generation text
  pub loses : Loses old node reaction new

-- a daemon restores the data and holds the result, or is gone if the data cannot be restored
abbrev pub TakesData : Manifest → ℕ → DaemonState → List ℕ → NodeState → ℕ → Reaction → DaemonState → Type 0
TakesData manifest limit old bytes node generation reaction new =
    TakesOver old manifest limit bytes node generation reaction new
    ⊎ CannotTakeOver old manifest bytes node generation reaction new

-- ---- a part is taken

-- what a daemon read of the parts before the one at this position
abbrev pub read_before : ℕ → DaemonState → List ℕ
read_before position old = if position == 1 then [] else unwrap_or old.reading []

-- a daemon keeps what it read, and waits for the next part
pub record ReadsOn (old : DaemonState) (node : NodeState) (read : List ℕ) (reaction : Reaction)
    (new : DaemonState) : Type 0 where
  pub reacts : reaction ≡ Accepts
  pub becomes : new ≡ record old { node = table.after node (table.Fed true); reading = Some read }

-- no image begins with what was read, and the daemon is gone
pub record LosesPart (old : DaemonState) (node : NodeState) (read : List ℕ) (reaction : Reaction)
    (new : DaemonState) : Type 0 where
  pub said : Message
  pub faulty : IsSome (standing_fault read)
  pub says : table.said (table.heard node (table.Fed false)) ≡ Some said
  pub reacts : reaction ≡ Says said []
  pub becomes : new ≡ turned_to old (table.after node (table.Fed false))

-- a daemon keeps what it read if other parts follow, and else restores what it read
abbrev pub ReadsBy : Bool → Manifest → ℕ → DaemonState → List ℕ → NodeState → ℕ → Reaction → DaemonState → Type 0
ReadsBy true manifest limit old read node generation reaction new = ReadsOn old node read reaction new
ReadsBy false manifest limit old read node generation reaction new =
    TakesData manifest limit old read (table.after node (table.Fed true)) generation reaction new

-- a daemon read a part after the parts before, and an image may begin with all that it read
pub record ReadsPart (manifest : Manifest) (limit : ℕ) (old : DaemonState) (read : List ℕ) (node : NodeState)
    (generation position count : ℕ) (reaction : Reaction) (new : DaemonState) : Type 0 where
  pub no_fault : standing_fault read ≡ None
  pub reads : ReadsBy (nat_lt position count) manifest limit old read node generation reaction new

abbrev pub TakesPart : Manifest → ℕ → DaemonState → List ℕ → NodeState → (generation position count : ℕ) → Reaction
    → DaemonState → Type 0
TakesPart manifest limit old read node generation position count reaction new =
    ReadsPart manifest limit old read node generation position count reaction new
    ⊎ LosesPart old node read reaction new

-- ---- by what the table answers

-- a daemon turns to `node` as its part in takeovers, and serves what it served
pub record Turns (old : DaemonState) (node : NodeState) (is reaction : Reaction) (new : DaemonState) : Type 0 where
  pub reacts : reaction ≡ is
  pub becomes : new ≡ turned_to old node

-- what a daemon makes of a table's answer that brings no data
abbrev pub TurnsBy : DaemonState → NodeState → Answer → Reaction → DaemonState → Type 0
TurnsBy old node answer.Ignored reaction new = Turns old node Ignores reaction new
TurnsBy old node answer.Heard reaction new = Turns old node Accepts reaction new
TurnsBy old node (answer.Say said) reaction new = Turns old node (Says said []) reaction new
TurnsBy old node other reaction new = ⊥

-- what a daemon makes of any answer of the table
abbrev pub ReactsBy : Manifest → ℕ → List ℕ → DaemonState → NodeState → Answer → Reaction → DaemonState → Type 0
ReactsBy manifest limit bytes old node (answer.MakeData session generation version) reaction new =
    HandsOver old node session generation version reaction new ⊎ ServesOn old node generation version reaction new
ReactsBy manifest limit bytes old node (answer.GotData session generation version) reaction new =
    TakesData manifest limit old bytes node generation reaction new
ReactsBy manifest limit bytes old node (answer.GotPart session generation version position count) reaction new =
    TakesPart manifest limit old (read_before position old ++ bytes) node generation position count reaction new
ReactsBy manifest limit bytes old node other reaction new = TurnsBy old node other reaction new

-- whether an answer of the table wants memory: data is to be made, or to be read and restored
abbrev pub brings_data : Answer → Bool
brings_data (answer.MakeData session generation version) = true
brings_data (answer.GotData session generation version) = true
brings_data (answer.GotPart session generation version position count) = true
brings_data other = false

-- whether an answer of the table asks for data that goes in parts
abbrev pub makes_parts : Answer → Bool
makes_parts (answer.MakeData session generation version) = table.goes_in_parts version
makes_parts other = false

-- whether an answer of the table brings a part that other parts follow
abbrev pub brings_part : Answer → Bool
brings_part (answer.GotPart session generation version position count) = nat_lt position count
brings_part other = false

-- a daemon hears a message, and does what the table answers
abbrev pub HearsSo : Manifest → ℕ → DaemonState → Message → Reaction → DaemonState → Type 0
HearsSo manifest limit old said reaction new =
    ReactsBy manifest limit (bytes_of said) old (table.after old.node (table.Hear said))
    (table.heard old.node (table.Hear said)) reaction new

-- a message brings a daemon a part that other parts follow, and this is the daemon's part in takeovers from then on
pub record BringsPart (old : DaemonState) (said : Message) (node : NodeState) : Type 0 where
  pub follows : brings_part (table.heard old.node (table.Hear said)) ≡ true
  pub becomes : node ≡ table.after old.node (table.Hear said)

-- what a message comes to: a turn, by which the daemon does what the table answers, or a part that it is to read
abbrev pub ComesTo : Manifest → ℕ → DaemonState → Message → Effect → Type 0
ComesTo manifest limit old said (effect.Turn turn) = HearsSo manifest limit old said turn.reaction (turned old turn)
ComesTo manifest limit old said (effect.Part node) = BringsPart old said node

-- the messages that are said where a message comes to this; before a part is read none is said
abbrev pub said_by : Effect → List Message
said_by (effect.Turn turn) = what_is_said turn.reaction
said_by (effect.Part node) = []

-- a daemon gives its takeover up, and does what the table answers
abbrev pub GivesUpSo : DaemonState → Reaction → DaemonState → Type 0
GivesUpSo old reaction new =
    TurnsBy old (table.after old.node table.GiveUp) (table.heard old.node table.GiveUp) reaction new

-- ---- draining

-- the table's event for a daemon that asks to be drained
abbrev pub drained : DaemonState → table.Event
drained daemon = table.Drained (in_hand daemon) (unposted daemon)

-- a daemon says that it is ready to hand over
pub record IsReady (old : DaemonState) (reaction : Reaction) (new : DaemonState) : Type 0 where
  pub said : Message
  pub says : table.heard old.node (drained old) ≡ answer.Say said
  pub reacts : reaction ≡ Says said []
  pub becomes : new ≡ with_node old (table.after old.node (drained old))

-- a daemon says that it is ready to hand over, or is refused for the first cause and does not change
abbrev pub DrainsBy : Option DrainFault → DaemonState → Result Reaction DrainFault → DaemonState → Type 0
DrainsBy None old (Ok reaction) new = IsReady old reaction new
DrainsBy (Some fault) old (Err told) new = (told ≡ fault) × (new ≡ old)
DrainsBy fault old result new = ⊥

abbrev pub DrainsSo : DaemonState → Result Reaction DrainFault → DaemonState → Type 0
DrainsSo old result new = DrainsBy (table.drain_fault old.node.phase (in_hand old) (unposted old)) old result new

-- ---- the seat

-- a daemon takes the seat at a generation, and serves `server` from then on
abbrev pub MountsSo : ℕ → ServerState → DaemonState → DaemonState → Type 0
MountsSo generation server old new =
    new ≡ record old { node = table.after old.node (table.Mounted generation); server = Some server }

-- a daemon ends, and loses all that it had
abbrev pub EndsSo : DaemonState → DaemonState → Type 0
EndsSo old new = new ≡ record { node = table.after old.node table.Crash; server = None; reading = None }

-- ---- a claim

-- the server, moved to another generation
abbrev pub at_generation : ℕ → ServerState → ServerState
at_generation generation server = record server { generation = generation }

-- the daemon after the answer to its claim: it serves at the next generation; or may claim once more, if asks were
-- unanswered; or is gone with all that it served
abbrev pub after_claim : DaemonState → Result ℕ ClaimFault → DaemonState
after_claim old (Ok next) = record old {
  node = table.after old.node (table.Claimed (Ok next));
  server = option_map (at_generation next) old.server;
}
after_claim old (Err (claim.Unanswered asks)) =
    with_node old (table.after old.node (table.Claimed (Err (claim.Unanswered asks))))
after_claim old (Err fault) =
    record old { node = table.after old.node (table.Claimed (Err fault)); server = None }

abbrev pub ClaimsSo : Result ℕ ClaimFault → DaemonState → DaemonState → Type 0
ClaimsSo answer old new = new ≡ after_claim old answer
