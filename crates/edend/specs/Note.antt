-- The command that the program's words name, a broker's, a daemon's or a mount's, noted in owned strings. (This project's own.)
use Rattle.std.specs.Prelude.{◌≡◌, Some, Ok, Err, string_bytes}
use Rattle.std.specs.Io.KnownBytes.{Keeps}
use Rattle.command_line.specs.declared.server_command.BrokerWords.{BrokerWords}
use Rattle.command_line.specs.declared.server_command.DaemonWords.{DaemonWords}
use Rattle.command_line.specs.declared.server_command.ServerCommand.{ServerCommand}
use Rattle.command_line.specs.declared.server_command.ServerCommand.TheVariants as command
use Rattle.command_line.specs.declared.server_command.MountWords.{MountWords}
use Rattle.world_script.specs.ProgramEnd.{CommandEnds, plain}
use Rattle.world_script.specs.declared.program_fault.ProgramFault.TheVariants.{NoMemory}
use Rattle.edend.specs.declared.note.Note.{Note}
use Rattle.edend.specs.declared.note.Noted.{Noted}
use Rattle.edend.specs.declared.note.Noted.TheVariants.{Broker, Daemon, Mount}
use Rattle.edend.specs.declared.note.NotedBroker.{NotedBroker}
use Rattle.edend.specs.declared.note.NotedDaemon.{NotedDaemon}
use Rattle.edend.specs.declared.note.NotedMount.{NotedMount}

-- the noted words are these words of a broker
abbrev pub IsBroker : NotedBroker → BrokerWords → Type 0
IsBroker noted words =
    (string_bytes noted.socket ≡ words.socket.now) × (string_bytes noted.script ≡ words.script.now)

-- the noted words are these words of a daemon
abbrev pub IsDaemon : NotedDaemon → DaemonWords → Type 0
IsDaemon noted words =
    (noted.start ≡ words.start)
    × (string_bytes noted.broker ≡ words.broker.now)
    × (string_bytes noted.takeover ≡ words.takeover.now)
    × (string_bytes noted.manifest ≡ words.manifest.now)
    × (noted.workers ≡ words.workers)
    × (noted.limit ≡ words.limit)
    × (noted.patience ≡ words.patience)
    × (noted.until_closed ≡ words.until_closed)
    × (string_bytes noted.files ≡ words.files.now)
    × (string_bytes noted.git ≡ words.git.now)
    × (string_bytes noted.commit ≡ words.commit.now)
    × (noted.cache ≡ words.cache)

-- the noted words are these words of a mount
abbrev pub IsMount : NotedMount → MountWords → Type 0
IsMount noted words =
    (string_bytes noted.mountpoint ≡ words.mountpoint.now)
    × (string_bytes noted.socket ≡ words.socket.now)
    × (string_bytes noted.held ≡ words.held.now)
    × (noted.owner ≡ words.owner)
    × (noted.valid ≡ words.valid)

-- the noted command is this one
abbrev pub IsNoted : Noted → ServerCommand → Type 0
IsNoted (Broker noted) (command.Broker words) = IsBroker noted words
IsNoted (Daemon noted) (command.Daemon words) = IsDaemon noted words
IsNoted (Mount noted) (command.Mount words) = IsMount noted words
IsNoted _ _ = ⊥

-- A run of a command notes the command, or memory for that is refused and nothing changes.
abbrev pub Notes : Note → Note → CommandEnds
Notes old new command (Ok done) before after =
    ((noted : Noted) × (new.command ≡ Some noted) × IsNoted noted command) × Keeps before after
Notes old new command (Err failure) before after =
    (failure ≡ plain NoMemory) × (new ≡ old) × Keeps before after
