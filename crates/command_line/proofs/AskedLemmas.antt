-- Lemmas on what the words ask for, and on what they are refused for.
use Rattle.std.proofs.Common.{◌≡◌, true, false, List, [], ◌∷◌, Option, Result, Ok, Err, ap, subst, sym, ◌∙◌, inl, inr}
use Rattle.std.specs.Prelude.{IfOk, IsErr, MatchResult}
use Rattle.clap.specs.Words.{FailsBy, HasKind, IsAmong, Kinds, Row, Text, kind_of}
use Rattle.clap.specs.Kinds.{or_else}
use Rattle.clap.specs.declared.error.Error.{Error}
use Rattle.clap.specs.declared.error.kind.ErrorKind.{ErrorKind}
use Rattle.clap.specs.declared.error.kind.ErrorKind.TheVariants as kind
use Rattle.command_line.specs.Asked.{IsAsked, IsServer, IsScript}
use Rattle.command_line.specs.CommandLine.{is_server, script_in, words_fault_in}
use Rattle.command_line.specs.declared.asked.Asked.{Asked}
use Rattle.command_line.specs.declared.asked.Asked.TheVariants.{World, Serve}
use Rattle.command_line.specs.declared.server_command.ServerCommand.{ServerCommand}
use Rattle.command_line.specs.declared.server_command.ServerCommand.TheVariants.{Broker, Daemon, Mount}
use Rattle.command_line.proofs.CommandLemmas.{words_fault-other}

-- an error where nothing is wrong is want of memory
pub only_memory : {A : Type 0} (Holds : A → Type 0) (result : Result A Error) (wrong : Kinds) → wrong ≡ [] → IsErr result → FailsBy wrong result →
    MatchResult result Holds (λ error. kind_of error ≡ kind.OutOfMemory)
only_memory Holds (Ok asked) wrong none refused fails = cc
only_memory Holds (Err error) wrong none refused fails = elim (subst (λ (w : Kinds). HasKind w error) none fails) [
  | inl memory ↦ memory
  | inr among ↦ absurd among
]

among_longer : (k : ErrorKind) (first next : Kinds) → IsAmong k first → IsAmong k (or_else first next)
among_longer k [] next among = absurd among
among_longer k (x ∷ xs) next among = among

-- what fails by a first fault fails so whatever would come next
pub fails_first : {A : Type 0} (result : Result A Error) (first next : Kinds) → IsErr result → FailsBy first result → FailsBy (or_else first next) result
fails_first (Ok asked) first next refused fails = cc
fails_first (Err error) first next refused fails = elim fails [
  | inl memory ↦ inl memory
  | inr among ↦ inr (among_longer (kind_of error) first next among)
]

-- a command that is read as a server command is one
pub server_is : (command : Option (Text × List Row)) (server : ServerCommand) → IsServer command server → is_server command ≡ true
server_is command (Broker broker) (rows, is, parts) = ap is_server is
server_is command (Daemon daemon) (rows, is, parts) = ap is_server is
server_is command (Mount mount) (rows, is, parts) = ap is_server is

-- what is asked for by words that name a script plainly
pub plain_asked : (result : Result Asked Error) (command : Option (Text × List Row)) (script : Text) → script_in command ≡ script → is_server command ≡ false →
    IfOk result (IsAsked command) → FailsBy (words_fault_in command) result → MatchResult result (IsScript script) (λ error. kind_of error ≡ kind.OutOfMemory)
plain_asked (Ok (World world)) command script read apart asked fails = asked.1 ∙ read
plain_asked (Ok (Serve server)) command script read apart asked fails =
    let bad : true ≡ false = sym (server_is command server asked) ∙ apart in cc
plain_asked (Err error) command script read apart asked fails = elim (subst (λ (w : Kinds). HasKind w error) (words_fault-other command apart) fails) [
  | inl memory ↦ memory
  | inr among ↦ absurd among
]
