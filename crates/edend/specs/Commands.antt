-- How a command over sockets ends. (This project's own.)
use Rattle.std.specs.Prelude.{ℕ, ◌<◌, List, [], ◌∷◌, length, codes, Option, Some, Result, Ok, Err, ◌≡◌, ◌⊎◌, ⊤}
use Rattle.std.specs.Io.KnownBytes.{Appends}
use Rattle.std.specs.Option.{IfSome}
use Rattle.std.specs.declared.io.Error.{Error as IoError}
use Rattle.command_line.specs.declared.server_command.DaemonWords.{DaemonWords}
use Rattle.command_line.specs.declared.server_command.ServerCommand.{ServerCommand}
use Rattle.command_line.specs.declared.server_command.ServerCommand.TheVariants.{Broker, Daemon, Mount}
use Rattle.command_line.specs.declared.server_command.StartMode.{StartMode}
use Rattle.command_line.specs.declared.server_command.StartMode.TheVariants as way
use Rattle.command_line.specs.declared.owner.Owner.{Owner}
use Rattle.mount_wire.specs.declared.told_answer.FileOwner.{FileOwner}
use Rattle.broker_process.specs.Mounting.{PrintsDead, PrintsThen, RunsMount, mounted_line}
use Rattle.broker_process.specs.Playing.{PlaysScript, RunsBroker}
use Rattle.broker_process.specs.declared.fault.BrokerFault.{BrokerFault}
use Rattle.broker_process.specs.declared.fault.BrokerFault.TheVariants as broker
use Rattle.broker_process.specs.declared.fault.MountRunFault.{MountRunFault}
use Rattle.broker_process.specs.declared.fault.MountRunFault.TheVariants as mount
use Rattle.broker_script.specs.Reading.{IsRefusal, Says}
use Rattle.broker_script.specs.declared.fault.BrokerScriptFault.{BrokerScriptFault}
use Rattle.broker_script.specs.declared.fault.BrokerScriptFault.TheVariants as script
use Rattle.script_lines.specs.declared.broker_line.BrokerLine.{BrokerLine}
use Rattle.daemon_process.specs.Ending.{PrintsServing, RunsDaemon}
use Rattle.daemon_process.specs.declared.fault.DaemonFault.{DaemonFault}
use Rattle.daemon_process.specs.declared.fault.DaemonFault.TheVariants as daemon
use Rattle.daemon_process.specs.declared.options.DaemonStart.{DaemonStart}
use Rattle.daemon_process.specs.declared.options.DaemonStart.TheVariants as start
use Rattle.git_blobs.specs.declared.tree_fault.TreeFault.{TreeFault}
use Rattle.git_blobs.specs.declared.tree_fault.TreeFault.TheVariants as tree
use Rattle.world_script.specs.Process.{EndsWith}
use Rattle.world_script.specs.Refusal.{IsManifestFault}
use Rattle.world_script.specs.Source.{OfRead, script_at}
use Rattle.world_script.specs.ProgramEnd.{HandlerKnown, RunsCommand, Tells, name_by, name_of, plain}
use Rattle.world_script.specs.declared.failure.Failure.{Failure}
use Rattle.world_script.specs.declared.program_fault.ProgramFault.{ProgramFault}
use Rattle.world_script.specs.declared.program_fault.ProgramFault.TheVariants.{BadLine, Broken, CannotListen, CannotMount, CannotRead, BadTree, CannotWrite, NoBroker, NoCommit, NoDaemon, NoDevice, NoFiles, NoGit, NoLog, NoMemory, NoRepository, NoThread, OfferRefused, Full, Seated, Sha256, TakeoverFailed, TooLong}

-- how a daemon begins, by the start that its words ask for
abbrev pub start_of : StartMode → DaemonStart
start_of way.Mount = start.Mount
start_of way.Takeover = start.Takeover

-- the owner of a mount's files, by the one that its words name
abbrev pub owner_of : Owner → FileOwner
owner_of owner = record { user = owner.user; group = owner.group }

-- the socket, file or stream whose error caused a command's fault, if an error did
abbrev pub name_at : ServerCommand → ProgramFault → Option (List ℕ)
name_at (Broker words) CannotListen = Some words.socket.now
name_at (Broker words) fault = name_by words.script.now fault
name_at (Daemon words) CannotListen = Some words.takeover.now
name_at (Daemon words) NoBroker = Some words.broker.now
name_at (Daemon words) NoDaemon = Some words.takeover.now
name_at (Daemon words) NoFiles = Some words.files.now
name_at (Daemon words) NoGit = Some (codes "git")
name_at (Daemon words) NoRepository = Some words.git.now
name_at (Daemon words) NoCommit = Some words.commit.now
name_at (Daemon words) Sha256 = Some words.git.now
name_at (Daemon words) fault = name_by words.manifest.now fault
name_at (Mount words) CannotListen = Some words.socket.now
name_at (Mount words) NoLog = Some words.held.now
name_at (Mount words) NoDevice = Some (codes "/dev/fuse")
name_at (Mount words) CannotMount = Some words.mountpoint.now
name_at (Mount words) Broken = Some (codes "/dev/fuse")
name_at (Mount words) fault = name_by words.mountpoint.now fault

-- the failure names the socket, file or stream whose error caused it, as the command's words give it
abbrev pub Names : ServerCommand → Failure → Type 0
Names command failure = name_of failure ≡ name_at command failure.fault

-- ---- which fault is told

-- the fault that is told where a broker's script was refused so
abbrev pub fault_of_script : BrokerScriptFault → ProgramFault
fault_of_script (script.BadLine line) = BadLine line
fault_of_script script.NoMemory = NoMemory

-- the fault that is told where a broker ended so
abbrev pub fault_of_broker : BrokerFault → ProgramFault
fault_of_broker (broker.CannotListen error) = CannotListen
fault_of_broker broker.NoMemory = NoMemory
fault_of_broker broker.NoThread = NoThread
fault_of_broker (broker.CannotWrite error) = CannotWrite

-- the fault that is told where a daemon ended so
abbrev pub fault_of_daemon : DaemonFault → ProgramFault
fault_of_daemon (daemon.NoBroker error) = NoBroker
fault_of_daemon daemon.Seated = Seated
fault_of_daemon daemon.Full = Full
fault_of_daemon (daemon.NoDaemon error) = NoDaemon
fault_of_daemon daemon.OfferRefused = OfferRefused
fault_of_daemon daemon.TakeoverFailed = TakeoverFailed
fault_of_daemon (daemon.CannotListen error) = CannotListen
fault_of_daemon (daemon.NoFiles error) = NoFiles
fault_of_daemon daemon.NoMemory = NoMemory
fault_of_daemon daemon.NoThread = NoThread
fault_of_daemon daemon.Broken = Broken

-- the fault that is told where the files of a commit were not read
abbrev pub fault_of_tree : TreeFault → ProgramFault
fault_of_tree (tree.NoGit error) = NoGit
fault_of_tree (tree.NoRepository error) = NoRepository
fault_of_tree (tree.NoCommit error) = NoCommit
fault_of_tree (tree.Sha256 error) = Sha256
fault_of_tree (tree.BadTree fault) = BadTree
fault_of_tree tree.NoMemory = NoMemory

-- the fault that is told where a mount ended so
abbrev pub fault_of_mount : MountRunFault → ProgramFault
fault_of_mount (mount.CannotListen error) = CannotListen
fault_of_mount mount.NoMemory = NoMemory
fault_of_mount mount.NoThread = NoThread
fault_of_mount (mount.NoLog error) = NoLog
fault_of_mount (mount.NoDevice error) = NoDevice
fault_of_mount (mount.CannotMount error) = CannotMount
fault_of_mount (mount.Broken error) = Broken

-- why a script or a manifest was not read to its end, given what is known of its text
abbrev pub IsUnread : Option (List ℕ) → ProgramFault → Type 0
IsUnread known CannotRead = ⊤
IsUnread known TooLong = IfSome known (λ all. 1048576 < length all)
IsUnread known NoMemory = ⊤
IsUnread known fault = ⊥

-- a text that was read is refused as a broker's script, and the fault tells why
abbrev pub IsScriptRefusal : ProgramFault → List ℕ → Type 0
IsScriptRefusal fault text =
    (refused : BrokerScriptFault) × IsRefusal text refused × (fault ≡ fault_of_script refused)

-- a broker that ran by the script of a text ended by a fault, which is told
pub record EndsBroker (before after : Option (List ℕ)) (told : ProgramFault) (text : List ℕ) : Type 0 where
  pub script : List BrokerLine
  pub says : Says text script
  pub fault : BrokerFault
  pub ran : RunsBroker script (Err fault) before after
  pub is_told : told ≡ fault_of_broker fault

-- a daemon ended by a fault, which is told
pub record EndsDaemon (before after : Option (List ℕ)) (told : ProgramFault) : Type 0 where
  pub fault : DaemonFault
  pub ran : PrintsServing before after
  pub is_told : told ≡ fault_of_daemon fault

-- a broker over a mount ended by a fault, which is told
pub record EndsMount (before after : Option (List ℕ)) (told : ProgramFault) : Type 0 where
  pub fault : MountRunFault
  pub ran : RunsMount (Err fault) before after
  pub is_told : told ≡ fault_of_mount fault

-- The fault that a broker tells, given what is known of the text at its script's path: that of a text that was not
-- read, that of a script that was refused, or the one that ended the broker.
abbrev pub BrokerTells : Option (List ℕ) → Option (List ℕ) → Option (List ℕ) → ProgramFault → Type 0
BrokerTells known before after fault =
    IsUnread known fault
    ⊎ (OfRead known (IsScriptRefusal fault) ⊎ OfRead known (EndsBroker before after fault))

-- the fault of a manifest that a daemon can't serve, given what is known of the text at its path: that of a text that was
-- not read, or of a manifest that was refused
abbrev pub IsManifestTold : Option (List ℕ) → ProgramFault → Type 0
IsManifestTold known fault = IsUnread known fault ⊎ OfRead known (λ text. IsManifestFault text fault)

-- the fault of a commit that a daemon can't serve
abbrev pub IsCommitTold : ProgramFault → Type 0
IsCommitTold fault = (refused : TreeFault) × (fault ≡ fault_of_tree refused)

-- the fault of the files that a daemon can't serve: of a manifest where its words name no repository, else of a commit
abbrev pub IsTreeTold : List ℕ → Option (List ℕ) → ProgramFault → Type 0
IsTreeTold [] known fault = IsManifestTold known fault
IsTreeTold (byte ∷ repository) known fault = IsCommitTold fault

-- The fault that a daemon tells, given its repository's path, and what is known of the text at its manifest's: that of the
-- files that it can't serve, or the one that ended the daemon.
abbrev pub DaemonTells : List ℕ → Option (List ℕ) → Option (List ℕ) → Option (List ℕ) → ProgramFault → Type 0
DaemonTells repository known before after fault = IsTreeTold repository known fault ⊎ EndsDaemon before after fault

-- the fault that a command tells
abbrev pub IsTold :
    Option (List ℕ) → (List ℕ → Option (List ℕ)) → ServerCommand → Option (List ℕ) → Option (List ℕ) → ProgramFault → Type 0
IsTold input file (Broker words) before after fault =
    BrokerTells (script_at input file words.script.now) before after fault
IsTold input file (Daemon words) before after fault =
    DaemonTells words.git.now (script_at input file words.manifest.now) before after fault
IsTold input file (Mount words) before after fault = EndsMount before after fault

-- a manifest is refused so, given what is known of the text at its path
abbrev pub IsManifestRefusal : Option (List ℕ) → DaemonWords → Failure → Type 0
IsManifestRefusal known words failure = Names (Daemon words) failure × IsManifestTold known failure.fault

-- the files of a daemon are refused so
abbrev pub IsTreeRefusal : Option (List ℕ) → (List ℕ → Option (List ℕ)) → DaemonWords → Failure → Type 0
IsTreeRefusal input file words failure =
    Names (Daemon words) failure
    × IsTreeTold words.git.now (script_at input file words.manifest.now) failure.fault

-- ---- how a command ends

-- a script was read from what is known of the text at the broker's path, and the whole script was played
pub record PlaysRead (known : Option (List ℕ)) (before after : Option (List ℕ)) : Type 0 where
  pub text : List ℕ
  pub read : IfSome known (λ all. text ≡ all)
  pub script : List BrokerLine
  pub says : Says text script
  pub plays : PlaysScript script before after

-- a command ran well, given what is known of standard input and of the files
abbrev pub RunsWell :
    Option (List ℕ) → (List ℕ → Option (List ℕ)) → ServerCommand → Option (List ℕ) → Option (List ℕ) → Type 0
RunsWell input file (Broker words) before after = PlaysRead (script_at input file words.script.now) before after
RunsWell input file (Daemon words) before after = RunsDaemon words.until_closed (Ok tt) before after
RunsWell input file (Mount words) before after = RunsMount (Ok tt) before after

-- what a command that failed printed before, if each line could be printed: a broker nothing, a daemon the lines of its
-- generations, a mount the lines of mounts that began and died
abbrev pub PrintsFirst : ServerCommand → Option (List ℕ) → Option (List ℕ) → Type 0
PrintsFirst (Broker words) before after = Appends before after []
PrintsFirst (Daemon words) before after = PrintsServing before after
PrintsFirst (Mount words) before after = PrintsDead before after ⊎ PrintsThen mounted_line before after

-- a command failed, and its failure tells the fault and names the cause
pub record Fails (input : Option (List ℕ)) (file : List ℕ → Option (List ℕ)) (command : ServerCommand) (failure : Failure)
    (before after : Option (List ℕ)) : Type 0 where
  pub names : Names command failure
  pub told : IsTold input file command before after failure.fault
  pub first : (failure.fault ≡ CannotWrite) ⊎ PrintsFirst command before after

-- a command ran well, or it failed
abbrev pub RunsTo :
    Option (List ℕ) → (List ℕ → Option (List ℕ)) → ServerCommand → Result (Unit {0}) Failure →
    Option (List ℕ) → Option (List ℕ) → Type 0
RunsTo input file command (Ok done) before after = RunsWell input file command before after
RunsTo input file command (Err failure) before after = Fails input file command failure before after

-- what is known of commands over sockets, given what is known of standard input and of the files
abbrev pub over_sockets : Option (List ℕ) → (List ℕ → Option (List ℕ)) → HandlerKnown
over_sockets input file = record { ends = RunsTo input file; idle = ⊤ }

-- the process ended after it ran this command over sockets, or there was no memory to gather what it prints
abbrev pub RunsOver :
    Option (List ℕ) → (List ℕ → Option (List ℕ)) → ServerCommand →
    Option (List ℕ) → Option (List ℕ) → Option (List ℕ) → Option (List ℕ) →
    ℕ → Result (Unit {0}) IoError → Type 0
RunsOver input file command output output_after errors errors_after status said =
    EndsWith
    (λ ending. RunsCommand command (over_sockets input file) output output_after ending
    ⊎ Tells (plain NoMemory) output output_after ending)
    errors errors_after status said
