-- Lemmas on how the program ends whose words may ask for a server command.
use Rattle.std.proofs.Common.{◌≡◌, ◌⊎◌, ◌&&◌, ℕ, Bool, true, false, List, [], ◌∷◌, Option, Some, None, Result, Ok, Err, refl, ap, ap₂, subst, sym, ◌∙◌, inl, inr}
use Rattle.std.specs.Io.KnownBytes.{Keeps}
use Rattle.std.proofs.KnownBytes.{Appends-kept, Keeps-refl, Keeps-trans}
use Rattle.std.specs.declared.io.ErrorKind.{ErrorKind as IoErrorKind}
use Rattle.std.specs.declared.io.Error.{Error as IoError}
use Rattle.clap.specs.Words.{IsAmong, Kinds, Row, Text}
use Rattle.clap.specs.declared.error.kind.ErrorKind.{ErrorKind}
use Rattle.clap.specs.declared.error.kind.ErrorKind.TheVariants as kind
use Rattle.command_line.specs.Asked.{IsAsked, IsServer}
use Rattle.command_line.specs.CommandLine.{command_of, is_server, limit_named, script_named, standard_input, wrong_of}
use Rattle.command_line.specs.declared.asked.Asked.{Asked}
use Rattle.command_line.specs.declared.asked.Asked.TheVariants.{World, Serve}
use Rattle.command_line.specs.declared.server_command.ServerCommand.{ServerCommand}
use Rattle.command_line.specs.declared.server_command.ServerCommand.TheVariants.{Broker, Daemon, Mount}
use Rattle.world_script.specs.ProgramEnd.{Answers, Ends, EndsAfter, EndsAsked, EndsBy, HandlerKnown, Finishes, Had, RunsCommand, RunsNamed, Tells, asks_server, command_had, is_right, limit_had, path_had, plain, untold, untold_by, unwritten, wrong_had}
use Rattle.world_script.specs.FaultText.{fault_line}
use Rattle.world_script.specs.Source.{script_at}
use Rattle.world_script.specs.declared.program_end.ProgramEnd.{ProgramEnd}
use Rattle.world_script.specs.declared.program_end.ProgramEnd.TheVariants.{Ran, Told, Untold, Shown, Refused}
use Rattle.world_script.specs.declared.failure.Cause.{Cause}
use Rattle.world_script.specs.declared.failure.Failure.{Failure}
use Rattle.world_script.specs.declared.program_fault.ProgramFault.{ProgramFault}
use Rattle.world_script.specs.declared.program_fault.ProgramFault.TheVariants.{CannotWrite, NoMemory}
use Rattle.world_script.proofs.ProgramEndLemmas.{Appends-from, ends-answered, ends-finished, ends-no_memory}
use Rattle.world_script.proofs.ProcessLemmas.{ends-from}

-- a fault whose line could not be written is untold
untold_is_by : (fault : ProgramFault) (cause : Option Cause) (failure : Failure) (error : IoError) → (kept : Failure) × (first : IoError) × (untold_by fault cause failure error ≡ Untold kept first)
untold_is_by CannotWrite (Some first) failure error = (plain CannotWrite, first.error, refl)
untold_is_by CannotWrite None failure error = (failure, error, refl)
untold_is_by fault cause failure error = (failure, error, refl)

untold_is : (failure : Failure) (error : IoError) → (kept : Failure) × (first : IoError) × (untold failure error ≡ Untold kept first)
untold_is failure error = untold_is_by failure.fault failure.cause failure error

tells-untold : (failure : Failure) (before after : Option (List ℕ)) (error : IoError) → Tells failure before after (untold failure error)
tells-untold failure before after error =
    let is = untold_is failure error in
    subst (λ (e : ProgramEnd). Tells failure before after e) (sym is.2) (error, sym is.2)

-- a failure that was told is told once all is written
tells-kept : (failure : Failure) (before between after : Option (List ℕ)) (ending : ProgramEnd) → Tells failure before between ending → Keeps between after → Tells failure before after ending
tells-kept failure before between after (Told told) (same, line) kept = (same, Appends-kept before between after (fault_line failure.fault) line kept)
tells-kept failure before between after ending (error, same) kept = (error, same)

tells-unwritten : (failure : Failure) (before between after : Option (List ℕ)) (ending : ProgramEnd) (error : IoError) → Tells failure before between ending → Tells failure before after (unwritten ending error)
tells-unwritten failure before between after (Told told) error (same, line) =
    subst (λ (f : Failure). Tells failure before after (untold f error)) (sym same) (tells-untold failure before after error)
tells-unwritten failure before between after (Untold kept first) error (second, same) = (second, same)
tells-unwritten failure before between after ending error (second, same) = let is = untold_is failure second in let bad : ending ≡ Untold is.0 is.1 = same ∙ is.2 in cc

pub tells-finished : (failure : Failure) (before between after : Option (List ℕ)) (ending new : ProgramEnd) → Tells failure before between ending → Finishes ending between after new → Tells failure before after new
tells-finished failure before between after ending new tells (inl (same, kept)) =
    subst (λ (e : ProgramEnd). Tells failure before after e) (sym same) (tells-kept failure before between after ending tells kept)
tells-finished failure before between after ending new tells (inr (error, same)) =
    subst (λ (e : ProgramEnd). Tells failure before after e) (sym same) (tells-unwritten failure before between after ending error tells)

-- a failure is told after bytes that were kept at first
pub tells-from : (failure : Failure) (a b c : Option (List ℕ)) (ending : ProgramEnd) → Keeps a b → Tells failure b c ending → Tells failure a c ending
tells-from failure a b c (Told told) kept (same, line) = (same, Appends-from a b c (fault_line failure.fault) kept line)
tells-from failure a b c ending kept (error, same) = (error, same)

ran-finished : (before between after : Option (List ℕ)) (new : ProgramEnd) → Keeps before between → Finishes Ran between after new → EndsAfter (Ok tt) before after new
ran-finished before between after new keeps (inl (same, kept)) = subst (λ (e : ProgramEnd). EndsAfter (Ok tt) before after e) (sym same) (Keeps-trans before between after keeps kept)
ran-finished before between after new keeps (inr (error, same)) = subst (λ (e : ProgramEnd). EndsAfter (Ok tt) before after e) (sym same) refl

unwritten-finished : (before between after : Option (List ℕ)) (failure : Failure) (first : IoError) (new : ProgramEnd) → failure ≡ plain CannotWrite → Finishes (Untold failure first) between after new → EndsAfter (Ok tt) before after new
unwritten-finished before between after failure first new is (inl (same, kept)) = subst (λ (e : ProgramEnd). EndsAfter (Ok tt) before after e) (sym same) is
unwritten-finished before between after failure first new is (inr (error, same)) = subst (λ (e : ProgramEnd). EndsAfter (Ok tt) before after e) (sym same) is

-- how the program ends after a server command stays so once all is written
pub ends_after-finished : (result : Result (Unit {0}) Failure) (before between after : Option (List ℕ)) (ending new : ProgramEnd) → EndsAfter result before between ending → Finishes ending between after new → EndsAfter result before after new
ends_after-finished (Err failure) before between after ending new ends finishes = tells-finished failure before between after ending new ends finishes
ends_after-finished (Ok done) before between after Ran new ends finishes = ran-finished before between after new ends finishes
ends_after-finished (Ok done) before between after (Untold failure first) new ends finishes = unwritten-finished before between after failure first new ends finishes
ends_after-finished (Ok done) before between after ending new ends finishes = absurd ends

-- a server command was run, and the program ended after it
pub runs_command : (server : ServerCommand) (handler : HandlerKnown) (result : Result (Unit {0}) Failure) (before between after : Option (List ℕ)) (ending : ProgramEnd) →
    handler.ends server result before between → EndsAfter result between after ending → RunsCommand server handler before after ending
runs_command server handler result before between after ending ran ends =
    record { result = result; begun = before; ended = between; first = Keeps-refl before; ran = ran; ends = ends }

runs_named-finished : (command : Option (Text × List Row)) (handler : HandlerKnown) (before between after : Option (List ℕ)) (ending new : ProgramEnd) →
    RunsNamed command handler before between ending → Finishes ending between after new → RunsNamed command handler before after new
runs_named-finished command handler before between after ending new named finishes = record {
  server = named.server;
  named = named.named;
  runs = record {
    result = named.runs.result;
    begun = named.runs.begun;
    ended = named.runs.ended;
    first = named.runs.first;
    ran = named.runs.ran;
    ends = ends_after-finished named.runs.result named.runs.ended between after ending new named.runs.ends finishes;
  };
}

runs_named-from : (command : Option (Text × List Row)) (handler : HandlerKnown) (a b c : Option (List ℕ)) (ending : ProgramEnd) →
    Keeps a b → RunsNamed command handler b c ending → RunsNamed command handler a c ending
runs_named-from command handler a b c ending kept named = record {
  server = named.server;
  named = named.named;
  runs = record {
    result = named.runs.result;
    begun = named.runs.begun;
    ended = named.runs.ended;
    first = Keeps-trans a b named.runs.begun kept named.runs.first;
    ran = named.runs.ran;
    ends = named.runs.ends;
  };
}

-- how the program ends stays so once all is written
pub ends_by-finished : (had : Had) (input : Option (List ℕ)) (file : List ℕ → Option (List ℕ)) (handler : HandlerKnown) (before between after : Option (List ℕ)) (ending new : ProgramEnd) →
    EndsBy had input file handler before between ending → Finishes ending between after new → EndsBy had input file handler before after new
ends_by-finished had input file handler before between after ending new ends finishes = record {
  script = λ none. ends-finished (wrong_had had) (path_had had) (script_at input file (path_had had)) (limit_had had) before between after ending new (ends.script none) finishes;
  idle = ends.idle;
  server = λ asks. elim (ends.server asks) [
    | inl named ↦ inl (runs_named-finished (command_had had) handler before between after ending new named finishes)
    | inr told ↦ inr (tells-finished (plain NoMemory) before between after ending new told.0 finishes, told.1)
  ];
}

-- the program ends after bytes that were kept at first
pub ends_by-from : (had : Had) (input : Option (List ℕ)) (file : List ℕ → Option (List ℕ)) (handler : HandlerKnown) (a b c : Option (List ℕ)) (ending : ProgramEnd) →
    Keeps a b → EndsBy had input file handler b c ending → EndsBy had input file handler a c ending
ends_by-from had input file handler a b c ending kept ends = record {
  script = λ none. ends-from (wrong_had had) (path_had had) (script_at input file (path_had had)) (limit_had had) a b c ending kept (ends.script none);
  idle = ends.idle;
  server = λ asks. elim (ends.server asks) [
    | inl named ↦ inl (runs_named-from (command_had had) handler a b c ending kept named)
    | inr told ↦ inr (tells-from (plain NoMemory) a b c ending kept told.0, told.1)
  ];
}

-- memory may run out whatever the words ask for
pub ends_by-no_memory : (had : Had) (input : Option (List ℕ)) (file : List ℕ → Option (List ℕ)) (handler : HandlerKnown) (before after : Option (List ℕ)) (ending : ProgramEnd) →
    Tells (plain NoMemory) before after ending → handler.idle → EndsBy had input file handler before after ending
ends_by-no_memory had input file handler before after ending told idle = record {
  script = λ none. ends-no_memory (wrong_had had) (path_had had) (script_at input file (path_had had)) (limit_had had) before after ending told;
  idle = λ none. idle;
  server = λ asks. inr (told, idle);
}

-- words that could not be had ask for no server command
pub ends_by-unread : (k : IoErrorKind) (input : Option (List ℕ)) (file : List ℕ → Option (List ℕ)) (handler : HandlerKnown) (before after : Option (List ℕ)) (ending : ProgramEnd) →
    Ends (wrong_had (Err k)) standard_input (script_at input file standard_input) 1024 before after ending → handler.idle → EndsBy (Err k) input file handler before after ending
ends_by-unread k input file handler before after ending ends idle = record { script = λ none. ends; idle = λ none. idle; server = λ asks. cc }

right_is : (wrong : Kinds) (asks : Bool) → (is_right wrong && asks) ≡ true → wrong ≡ []
right_is [] asks is = refl
right_is (k ∷ more) asks is = cc

tells-answered : (before after : Option (List ℕ)) (ending : ProgramEnd) → Answers kind.OutOfMemory before after ending → Tells (plain NoMemory) before after ending
tells-answered before after Ran none = absurd none
tells-answered before after (Told failure) told = told
tells-answered before after (Untold failure error) (inl same) = (error, ap (λ (f : Failure). Untold f error) same)
tells-answered before after (Untold failure error) (inr (wish, same)) = absurd wish
tells-answered before after (Shown text) (wish, line) = absurd wish
tells-answered before after (Refused text) (mistake, kept) = absurd mistake

memory_is : (k : ErrorKind) (wrong : Kinds) → wrong ≡ [] → (k ≡ kind.OutOfMemory) ⊎ IsAmong k wrong → k ≡ kind.OutOfMemory
memory_is k wrong none (inl memory) = memory
memory_is k wrong none (inr among) = absurd (subst (IsAmong k) none among)

-- what is wrong with the words is answered
pub ends_by-answered : (words : List Text) (input : Option (List ℕ)) (file : List ℕ → Option (List ℕ)) (handler : HandlerKnown) (before after : Option (List ℕ)) (k : ErrorKind) (ending : ProgramEnd) →
    (k ≡ kind.OutOfMemory) ⊎ IsAmong k (wrong_of words) → Answers k before after ending → handler.idle → EndsBy (Ok words) input file handler before after ending
ends_by-answered words input file handler before after k ending has answers idle = record {
  script = λ none. ends-answered (wrong_of words) (script_named words) (script_at input file (script_named words)) (limit_named words) before after k ending has answers;
  idle = λ none. idle;
  server = λ asks.
      let memory = memory_is k (wrong_of words) (right_is (wrong_of words) (is_server (command_of words)) asks) has in
      inr (tells-answered before after ending (subst (λ (k : ErrorKind). Answers k before after ending) memory answers), idle);
}

server_is : (command : Option (Text × List Row)) (server : ServerCommand) → IsServer command server → is_server command ≡ true
server_is command (Broker broker) (rows, is, parts) = ap is_server is
server_is command (Daemon daemon) (rows, is, parts) = ap is_server is
server_is command (Mount mount) (rows, is, parts) = ap is_server is

asks_is : (words : List Text) (asks : Bool) → wrong_of words ≡ [] → is_server (command_of words) ≡ asks → asks_server (Ok words) ≡ asks
asks_is words asks none is = ap₂ (λ (wrong : Kinds) (b : Bool). is_right wrong && b) none is

script-read : (words : List Text) (input : Option (List ℕ)) (file : List ℕ → Option (List ℕ)) (path : Text) (limit : ℕ) (before after : Option (List ℕ)) (ending : ProgramEnd) →
    wrong_of words ≡ [] → path ≡ script_named words → limit ≡ limit_named words → Ends [] path (script_at input file path) limit before after ending →
    Ends (wrong_of words) (script_named words) (script_at input file (script_named words)) (limit_named words) before after ending
script-read words input file path limit before after ending none path_is limit_is ends =
    subst (λ (wrong : Kinds). Ends wrong (script_named words) (script_at input file (script_named words)) (limit_named words) before after ending) (sym none)
    (subst (λ (p : Text). Ends [] p (script_at input file p) (limit_named words) before after ending) path_is
    (subst (λ (l : ℕ). Ends [] path (script_at input file path) l before after ending) limit_is ends))

-- what the words ask for is done
pub ends_by-asked : (words : List Text) (input : Option (List ℕ)) (file : List ℕ → Option (List ℕ)) (handler : HandlerKnown) (before after : Option (List ℕ)) (asked : Asked) (ending : ProgramEnd) →
    wrong_of words ≡ [] → IsAsked (command_of words) asked → EndsAsked asked input file handler before after ending → EndsBy (Ok words) input file handler before after ending
ends_by-asked words input file handler before after (World world) ending none is ends = record {
  script = λ apart. script-read words input file world.script.now world.limit before after ending none is.1 is.2 ends.0;
  idle = λ apart. ends.1;
  server = λ asks. let bad : false ≡ true = sym (asks_is words false none is.0) ∙ asks in cc;
}
ends_by-asked words input file handler before after (Serve server) ending none is ends = record {
  script = λ apart. let bad : true ≡ false = sym (asks_is words true none (server_is (command_of words) server is)) ∙ apart in cc;
  idle = λ apart. let bad : true ≡ false = sym (asks_is words true none (server_is (command_of words) server is)) ∙ apart in cc;
  server = λ asks. inl (record { server = server; named = is; runs = ends });
}
