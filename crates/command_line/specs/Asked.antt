-- What the words ask for, by the command that they have and what it was given.
use Rattle.std.specs.Prelude.{◌≡◌, false, List, Option, Some, option_and_then, codes}
use Rattle.clap.specs.Words.{Row, Text, first_of}
use Rattle.command_line.specs.CommandLine.{commit_in, has_flag, is_server, limit_in, number_or, script_in, start_by, word_in}
use Rattle.command_line.specs.Owner.{owner_of}
use Rattle.command_line.specs.declared.asked.Asked.{Asked}
use Rattle.command_line.specs.declared.asked.Asked.TheVariants.{World, Serve}
use Rattle.command_line.specs.declared.server_command.BrokerWords.{BrokerWords}
use Rattle.command_line.specs.declared.server_command.DaemonWords.{DaemonWords}
use Rattle.command_line.specs.declared.server_command.ServerCommand.{ServerCommand}
use Rattle.command_line.specs.declared.server_command.ServerCommand.TheVariants.{Broker, Daemon, Mount}
use Rattle.command_line.specs.declared.server_command.MountWords.{MountWords}

-- each word of `broker` is that of its argument
pub record IsBroker (rows : List Row) (broker : BrokerWords) : Type 0 where
  pub socket : broker.socket.now ≡ word_in (codes "SOCKET") rows
  pub script : broker.script.now ≡ word_in (codes "SCRIPT") rows

-- each word of `daemon` is that of its argument, and each number is that of its option
pub record IsDaemon (rows : List Row) (daemon : DaemonWords) : Type 0 where
  pub start : daemon.start ≡ start_by (has_flag (codes "mount") rows)
  pub broker : daemon.broker.now ≡ word_in (codes "BROKER") rows
  pub takeover : daemon.takeover.now ≡ word_in (codes "TAKEOVER") rows
  pub manifest : daemon.manifest.now ≡ word_in (codes "MANIFEST") rows
  pub workers : daemon.workers ≡ number_or 2 (first_of (codes "workers") rows)
  pub limit : daemon.limit ≡ number_or 1024 (first_of (codes "limit") rows)
  pub patience : daemon.patience ≡ number_or 2000 (first_of (codes "patience") rows)
  pub until_closed : daemon.until_closed ≡ has_flag (codes "until-closed") rows
  pub files : daemon.files.now ≡ word_in (codes "files") rows
  pub git : daemon.git.now ≡ word_in (codes "git") rows
  pub commit : daemon.commit.now ≡ commit_in rows
  pub cache : daemon.cache ≡ number_or 256 (first_of (codes "cache") rows)

-- each word of `mount` is that of its argument, the owner is the one that its option names, and so are the seconds for which
-- the kernel may keep what it is told
pub record IsMount (rows : List Row) (mount : MountWords) : Type 0 where
  pub mountpoint : mount.mountpoint.now ≡ word_in (codes "MOUNTPOINT") rows
  pub socket : mount.socket.now ≡ word_in (codes "SOCKET") rows
  pub held : mount.held.now ≡ word_in (codes "held") rows
  pub owner : mount.owner ≡ option_and_then owner_of (first_of (codes "owner") rows)
  pub valid : mount.valid ≡ number_or 86400 (first_of (codes "valid") rows)

-- the command asks for this process
abbrev pub IsServer : Option (Text × List Row) → ServerCommand → Type 0
IsServer command (Broker broker) =
    (rows : List Row) × (command ≡ Some (codes "broker", rows)) × IsBroker rows broker
IsServer command (Daemon daemon) =
    (rows : List Row) × (command ≡ Some (codes "daemon", rows)) × IsDaemon rows daemon
IsServer command (Mount mount) =
    (rows : List Row) × (command ≡ Some (codes "mount", rows)) × IsMount rows mount

-- the command asks for this
abbrev pub IsAsked : Option (Text × List Row) → Asked → Type 0
IsAsked command (World world) =
    (is_server command ≡ false) × (world.script.now ≡ script_in command) × (world.limit ≡ limit_in command)
IsAsked command (Serve server) = IsServer command server

-- what is asked for is this script
abbrev pub IsScript : Text → Asked → Type 0
IsScript script (World world) = world.script.now ≡ script
IsScript script (Serve server) = ⊥
