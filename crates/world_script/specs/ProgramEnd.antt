-- How the program ends, by the words that it is started with and by the script that they name, and what standard error
-- gets. (This project's own; 2 for words that are refused, as `clap` has it.)
use Rattle.std.specs.Prelude.{◌≡◌, ◌⊎◌, ◌&&◌, ℕ, Bool, true, false, List, [], ◌∷◌, ◌++◌, Option, Some, None, Result, Ok, Err, String, map, option_map, codes, if◌then◌else◌, string_bytes, ⊤}
use Rattle.std.specs.Global.{Global, Vec}
use Rattle.std.specs.IoError.{error_kind}
use Rattle.std.specs.Io.KnownBytes.{Appends, Keeps}
use Rattle.std.specs.declared.io.ErrorKind.{ErrorKind as IoErrorKind}
use Rattle.std.specs.declared.io.ErrorKind.TheVariants as io_kind
use Rattle.std.specs.declared.io.Error.{Error as IoError}
use Rattle.clap.specs.Words.{IsAmong, Kinds, Row, Text}
use Rattle.clap.specs.declared.error.kind.ErrorKind.{ErrorKind}
use Rattle.clap.specs.declared.error.kind.ErrorKind.TheVariants as kind
use Rattle.command_line.specs.Asked.{IsServer}
use Rattle.command_line.specs.declared.asked.Asked.{Asked}
use Rattle.command_line.specs.declared.asked.Asked.TheVariants.{World, Serve}
use Rattle.command_line.specs.declared.server_command.ServerCommand.{ServerCommand}
use Rattle.command_line.specs.CommandLine.{command_of, is_server, limit_named, script_named, standard_input, wrong_of}
use Rattle.world_script.specs.FaultText.{fault_line}
use Rattle.world_script.specs.Refusal.{IsRunRefusal, comes_first, is_caused}
use Rattle.world_script.specs.Script.{Runs}
use Rattle.world_script.specs.Source.{OfRead, script_at, stream_at}
use Rattle.world_script.specs.declared.program_end.ProgramEnd.{ProgramEnd}
use Rattle.world_script.specs.declared.program_end.ProgramEnd.TheVariants.{Ran, Told, Untold, Shown, Refused}
use Rattle.world_script.specs.declared.failure.Cause.{Cause}
use Rattle.world_script.specs.declared.failure.Failure.{Failure}
use Rattle.world_script.specs.declared.program_fault.ProgramFault.{ProgramFault}
use Rattle.world_script.specs.declared.program_fault.ProgramFault.TheVariants.{CannotWrite, NoMemory}

-- the exit status of an ending
abbrev pub status_of : ProgramEnd → ℕ
status_of Ran = 0
status_of (Told failure) = 1
status_of (Untold failure error) = 1
status_of (Shown text) = 0
status_of (Refused text) = 2

-- the failure of a fault that no error of the system caused
abbrev pub plain : ProgramFault → Failure
plain fault = record { fault = fault; cause = None }

-- the name of the file or stream whose error caused the failure, if an error did
abbrev pub name_of : Failure → Option (List ℕ)
name_of failure = option_map (λ cause. cause.name.now) failure.cause

-- the name of the file or stream whose error causes this fault: that to which lines are written if they can't be, else
-- that from which the script at this path is read
abbrev pub name_with : List ℕ → ProgramFault → List ℕ
name_with path CannotWrite = codes "standard output"
name_with path _ = stream_at path

-- the name of the file or stream whose error causes this fault, if an error does
abbrev pub name_by : List ℕ → ProgramFault → Option (List ℕ)
name_by path fault = if is_caused fault then Some (name_with path fault) else None

-- the name of the file or stream whose error caused a fault that could not be told; none if that is standard output,
-- whose error is told by itself
abbrev pub name_beside : List ℕ → ProgramFault → Option (List ℕ)
name_beside path CannotWrite = None
name_beside path fault = name_by path fault

abbrev pub untold_by : ProgramFault → Option Cause → Failure → IoError → ProgramEnd
untold_by CannotWrite (Some first) failure error = Untold (plain CannotWrite) first.error
untold_by fault cause failure error = Untold failure error

-- the ending of a failure whose line could not be written, with the error of the first write that failed
abbrev pub untold : Failure → IoError → ProgramEnd
untold failure error = untold_by failure.fault failure.cause failure error

-- the ending that takes the place of this one if the rest of the output cannot be written
abbrev pub unwritten : ProgramEnd → IoError → ProgramEnd
unwritten (Told failure) error = untold failure error
unwritten (Untold failure first) error = Untold failure first
unwritten _ error = Untold (plain CannotWrite) error

-- the line of the failure is written, or the ending says that it could not be
abbrev pub Tells : Failure → Option (List ℕ) → Option (List ℕ) → ProgramEnd → Type 0
Tells failure before after (Told told) = (told ≡ failure) × Appends before after (fault_line failure.fault)
Tells failure before after ending = (error : IoError) × (ending ≡ untold failure error)

-- the help or the version is written, or the ending says that it could not be
abbrev pub Shows : List ℕ → Option (List ℕ) → Option (List ℕ) → ProgramEnd → Type 0
Shows text before after (Shown shown) = (string_bytes shown ≡ text) × Appends before after text
Shows text before after ending = (error : IoError) × (ending ≡ Untold (plain CannotWrite) error)

-- an error of this kind asks for the help or the version
abbrev pub IsWish : ErrorKind → Type 0
IsWish kind.DisplayHelp = ⊤
IsWish kind.DisplayVersion = ⊤
IsWish _ = ⊥

-- an error of this kind is a mistake in the words
abbrev pub IsMistake : ErrorKind → Type 0
IsMistake kind.DisplayHelp = ⊥
IsMistake kind.DisplayVersion = ⊥
IsMistake kind.OutOfMemory = ⊥
IsMistake _ = ⊤

-- how the program ends if its words ask for no script, by the kind of `clap`'s error
abbrev pub Answers : ErrorKind → Option (List ℕ) → Option (List ℕ) → ProgramEnd → Type 0
Answers kind before after Ran = ⊥
Answers kind before after (Told failure) = Tells (plain NoMemory) before after (Told failure)
Answers kind before after (Untold failure error) =
    (failure ≡ plain NoMemory) ⊎ (IsWish kind × (failure ≡ plain CannotWrite))
Answers kind before after (Shown text) = IsWish kind × Appends before after (string_bytes text)
Answers kind before after (Refused text) = IsMistake kind × Keeps before after

-- if words name a script, the fault is one of that script; else memory was refused or output could not be written
abbrev pub IsFault : Kinds → Option (List ℕ) → ProgramFault → Type 0
IsFault [] known fault = OfRead known (λ script. IsRunRefusal script fault)
IsFault (wrong ∷ more) known fault = (fault ≡ NoMemory) ⊎ (fault ≡ CannotWrite)

-- How the program ends, by the kinds of what is wrong with the words, by the path that the words name and what is known
-- of the script there, and by the limit of the words.
abbrev pub Ends : Kinds → List ℕ → Option (List ℕ) → ℕ → Option (List ℕ) → Option (List ℕ) → ProgramEnd → Type 0
-- nothing is wrong with the words, and the script was run with all of its lines written
Ends wrong path known limit before after Ran =
    (wrong ≡ []) × OfRead known (λ script. Runs script limit before after)
-- a fault that comes before any event leaves its own line as all that was written
Ends wrong path known limit before after (Told failure) =
    IsFault wrong known failure.fault × (name_of failure ≡ name_by path failure.fault)
    × (comes_first failure.fault ≡ true → Appends before after (fault_line failure.fault))
Ends wrong path known limit before after (Untold failure error) =
    IsFault wrong known failure.fault × (name_of failure ≡ name_beside path failure.fault)
-- the words ask for help or the version, and its text is all that was written
Ends wrong path known limit before after (Shown text) =
    (wish : ErrorKind) × IsAmong wish wrong × IsWish wish × Appends before after (string_bytes text)
-- something is wrong with the words, and nothing was written
Ends wrong path known limit before after (Refused text) =
    (mistake : ErrorKind) × IsAmong mistake wrong × IsMistake mistake × Keeps before after

-- the words that the program got, or why it got none
abbrev pub Had : Type 0
Had = Result (List Text) IoErrorKind

-- the words as the system gave them
abbrev pub words_had : Result (Vec (String Global)) IoError → Had
words_had (Ok words) = Ok (map string_bytes words.items)
words_had (Err error) = Err (error_kind error)

-- the kinds of what is wrong with the words; words that are no text are refused
abbrev pub wrong_had : Had → Kinds
wrong_had (Ok words) = wrong_of words
wrong_had (Err io_kind.OutOfMemory) = kind.OutOfMemory ∷ []
wrong_had (Err _) = kind.InvalidValue ∷ []

-- the path that the words name
abbrev pub path_had : Had → Text
path_had (Ok words) = script_named words
path_had (Err _) = standard_input

-- the limit that the words name
abbrev pub limit_had : Had → ℕ
limit_had (Ok words) = limit_named words
limit_had (Err _) = 1024

-- how a server command may end: by the command, by its result, and by what the writer holds before and after it
abbrev pub CommandEnds : Type 1
CommandEnds = ServerCommand → Result (Unit {0}) Failure → Option (List ℕ) → Option (List ℕ) → Type 0

-- What is known of server commands: how one may end, and what holds if none is run.
pub record HandlerKnown : Type 1 where
  pub ends : CommandEnds
  -- what holds if no server command is run
  pub idle : Type 0

-- what is known of server commands, by the runner before and after
abbrev pub known_of : {D : Type 0} → (D → D → CommandEnds) → D → D → HandlerKnown
known_of ends old new = record { ends = ends old new; idle = new ≡ old }

-- how the program ends after a server command: a fault is told, and without a fault the last write may fail
abbrev pub EndsAfter : Result (Unit {0}) Failure → Option (List ℕ) → Option (List ℕ) → ProgramEnd → Type 0
EndsAfter (Ok done) before after Ran = Keeps before after
EndsAfter (Ok done) before after (Untold failure error) = failure ≡ plain CannotWrite
EndsAfter (Ok done) before after ending = ⊥
EndsAfter (Err failure) before after ending = Tells failure before after ending

-- The server command was run, and its result determines how the program ended.
pub record RunsCommand (server : ServerCommand) (handler : HandlerKnown) (before after : Option (List ℕ))
    (ending : ProgramEnd) : Type 0 where
  pub result : Result (Unit {0}) Failure
  pub begun : Option (List ℕ)
  pub ended : Option (List ℕ)
  -- nothing was written before the server command
  pub first : Keeps before begun
  pub ran : handler.ends server result begun ended
  pub ends : EndsAfter result ended after ending

-- how the program ends if this is asked for: the script is run, or the server command is run
abbrev pub EndsAsked :
    Asked → Option (List ℕ) → (List ℕ → Option (List ℕ)) → HandlerKnown →
    Option (List ℕ) → Option (List ℕ) → ProgramEnd → Type 0
EndsAsked (World world) input file handler before after ending =
    Ends [] world.script.now (script_at input file world.script.now) world.limit before after ending × handler.idle
EndsAsked (Serve server) input file handler before after ending = RunsCommand server handler before after ending

-- the server command that the words name was run
pub record RunsNamed (command : Option (Text × List Row)) (handler : HandlerKnown)
    (before after : Option (List ℕ)) (ending : ProgramEnd) : Type 0 where
  pub server : ServerCommand
  pub named : IsServer command server
  pub runs : RunsCommand server handler before after ending

-- whether nothing is wrong with the words
abbrev pub is_right : Kinds → Bool
is_right [] = true
is_right (wrong ∷ more) = false

-- whether nothing is wrong with the words, and they ask for a server command
abbrev pub asks_server : Had → Bool
asks_server (Ok words) = is_right (wrong_of words) && is_server (command_of words)
asks_server (Err _) = false

-- the command of the words, if the program got words
abbrev pub command_had : Had → Option (Text × List Row)
command_had (Ok words) = command_of words
command_had (Err _) = None

-- how the program ends, by its words, by what is known of the bytes of standard input and of files, and by what is
-- known of server commands
pub record EndsBy (had : Had) (input : Option (List ℕ)) (file : List ℕ → Option (List ℕ)) (handler : HandlerKnown)
    (before after : Option (List ℕ)) (ending : ProgramEnd) : Type 0 where
  pub script : asks_server had ≡ false →
      Ends (wrong_had had) (path_had had) (script_at input file (path_had had)) (limit_had had) before after ending
  -- if the words ask for no server command, none is run
  pub idle : asks_server had ≡ false → handler.idle
  -- the server command that the words ask for is run, or memory to read the words is refused
  pub server : asks_server had ≡ true →
      RunsNamed (command_had had) handler before after ending
      ⊎ (Tells (plain NoMemory) before after ending × handler.idle)

-- what was gathered is written, or the ending says that it could not be
abbrev pub Finishes : ProgramEnd → Option (List ℕ) → Option (List ℕ) → ProgramEnd → Type 0
Finishes ending before after new =
    ((new ≡ ending) × Keeps before after) ⊎ ((error : IoError) × (new ≡ unwritten ending error))

-- the line that tells the system's error with a file or a stream
abbrev pub complaint : List ℕ → List ℕ → List ℕ
complaint name cause = codes "edend: " ++ name ++ codes ": " ++ cause ++ 10 ∷ []

-- a line tells the system's error with the file or stream of this name, if there is one
abbrev pub Complains : Option (List ℕ) → Option (List ℕ) → Option (List ℕ) → Type 0
Complains None before after = Keeps before after
Complains (Some name) before after = (cause : List ℕ) × Appends before after (complaint name cause)

-- what an ending writes to standard error
abbrev pub Says : ProgramEnd → Option (List ℕ) → Option (List ℕ) → Type 0
Says Ran before after = Keeps before after
Says (Told failure) before after = Complains (name_of failure) before after
Says (Untold failure error) before after =
    (between : Option (List ℕ)) × Complains (name_of failure) before between
    × Complains (Some (codes "standard output")) between after
Says (Shown text) before after = Keeps before after
Says (Refused text) before after = Appends before after (string_bytes text)
