-- Commands that were noted alike run alike.
use Rattle.std.proofs.Common.{◌≡◌, ◌⊎◌, ℕ, Bool, List, Option, Some, Result, Ok, Err, refl, ap, subst, sym, ◌∙◌, inl, inr}
use Rattle.daemon_process.specs.Ending.{RunsDaemon}
use Rattle.world_script.specs.Source.{script_at}
use Rattle.command_line.specs.declared.server_command.BrokerWords.{BrokerWords}
use Rattle.command_line.specs.declared.server_command.DaemonWords.{DaemonWords}
use Rattle.command_line.specs.declared.server_command.MountWords.{MountWords}
use Rattle.command_line.specs.declared.server_command.ServerCommand.{ServerCommand}
use Rattle.command_line.specs.declared.server_command.ServerCommand.TheVariants as command
use Rattle.world_script.specs.ProgramEnd.{name_by}
use Rattle.world_script.specs.declared.failure.Failure.{Failure}
use Rattle.world_script.specs.declared.program_fault.ProgramFault.{ProgramFault}
use Rattle.world_script.specs.declared.program_fault.ProgramFault.TheVariants.{Broken, CannotListen, CannotMount, CannotWrite, NoBroker, NoCommit, NoDaemon, NoDevice, NoFiles, NoGit, NoLog, NoRepository, Sha256}
use Rattle.edend.specs.Commands.{BrokerTells, DaemonTells, IsTold, PlaysRead, PrintsFirst, RunsTo, RunsWell, name_at}
use Rattle.edend.specs.Note.{IsNoted}
use Rattle.edend.specs.declared.note.Noted.{Noted}
use Rattle.edend.specs.declared.note.Noted.TheVariants.{Broker, Daemon, Mount}

-- two commands with the same words name the same for a fault
same_of_broker : (a b : BrokerWords) (fault : ProgramFault) → a.socket.now ≡ b.socket.now → a.script.now ≡ b.script.now → name_at (command.Broker a) fault ≡ name_at (command.Broker b) fault
same_of_broker a b CannotListen socket script = ap (λ (p : List ℕ). Some p) socket
same_of_broker a b fault socket script = ap (λ (p : List ℕ). name_by p fault) script

same_of_daemon : (a b : DaemonWords) (fault : ProgramFault) → a.broker.now ≡ b.broker.now → a.takeover.now ≡ b.takeover.now → a.manifest.now ≡ b.manifest.now → a.files.now ≡ b.files.now → a.git.now ≡ b.git.now → a.commit.now ≡ b.commit.now → name_at (command.Daemon a) fault ≡ name_at (command.Daemon b) fault
same_of_daemon a b CannotListen broker takeover manifest files git commit = ap (λ (p : List ℕ). Some p) takeover
same_of_daemon a b NoBroker broker takeover manifest files git commit = ap (λ (p : List ℕ). Some p) broker
same_of_daemon a b NoDaemon broker takeover manifest files git commit = ap (λ (p : List ℕ). Some p) takeover
same_of_daemon a b NoFiles broker takeover manifest files git commit = ap (λ (p : List ℕ). Some p) files
same_of_daemon a b NoGit broker takeover manifest files git commit = refl
same_of_daemon a b NoRepository broker takeover manifest files git commit = ap (λ (p : List ℕ). Some p) git
same_of_daemon a b NoCommit broker takeover manifest files git commit = ap (λ (p : List ℕ). Some p) commit
same_of_daemon a b Sha256 broker takeover manifest files git commit = ap (λ (p : List ℕ). Some p) git
same_of_daemon a b fault broker takeover manifest files git commit = ap (λ (p : List ℕ). name_by p fault) manifest

same_of_mount : (a b : MountWords) (fault : ProgramFault) → a.mountpoint.now ≡ b.mountpoint.now → a.socket.now ≡ b.socket.now → a.held.now ≡ b.held.now → name_at (command.Mount a) fault ≡ name_at (command.Mount b) fault
same_of_mount a b CannotListen mountpoint socket held = ap (λ (p : List ℕ). Some p) socket
same_of_mount a b NoLog mountpoint socket held = ap (λ (p : List ℕ). Some p) held
same_of_mount a b NoDevice mountpoint socket held = refl
same_of_mount a b CannotMount mountpoint socket held = ap (λ (p : List ℕ). Some p) mountpoint
same_of_mount a b Broken mountpoint socket held = refl
same_of_mount a b fault mountpoint socket held = ap (λ (p : List ℕ). name_by p fault) mountpoint

same_names : (noted : Noted) (a b : ServerCommand) (fault : ProgramFault) → IsNoted noted a → IsNoted noted b → name_at a fault ≡ name_at b fault
same_names (Broker noted) (command.Broker a) (command.Broker b) fault of_a of_b =
    same_of_broker a b fault (sym of_a.0 ∙ of_b.0) (sym of_a.1 ∙ of_b.1)
same_names (Daemon noted) (command.Daemon a) (command.Daemon b) fault of_a of_b =
    same_of_daemon a b fault (sym of_a.1 ∙ of_b.1) (sym of_a.2 ∙ of_b.2) (sym of_a.3 ∙ of_b.3) (sym of_a.8 ∙ of_b.8) (sym of_a.9 ∙ of_b.9) (sym of_a.10 ∙ of_b.10)
same_names (Broker noted) (command.Daemon a) b fault of_a of_b = absurd of_a
same_names (Broker noted) (command.Broker a) (command.Daemon b) fault of_a of_b = absurd of_b
same_names (Daemon noted) (command.Broker a) b fault of_a of_b = absurd of_a
same_names (Daemon noted) (command.Daemon a) (command.Broker b) fault of_a of_b = absurd of_b
same_names (Mount noted) (command.Mount a) (command.Mount b) fault of_a of_b =
    same_of_mount a b fault (sym of_a.0 ∙ of_b.0) (sym of_a.1 ∙ of_b.1) (sym of_a.2 ∙ of_b.2)
same_names (Broker noted) (command.Mount a) b fault of_a of_b = absurd of_a
same_names (Daemon noted) (command.Mount a) b fault of_a of_b = absurd of_a
same_names (Mount noted) (command.Broker a) b fault of_a of_b = absurd of_a
same_names (Mount noted) (command.Daemon a) b fault of_a of_b = absurd of_a
same_names (Broker noted) (command.Broker a) (command.Mount b) fault of_a of_b = absurd of_b
same_names (Daemon noted) (command.Daemon a) (command.Mount b) fault of_a of_b = absurd of_b
same_names (Mount noted) (command.Mount a) (command.Broker b) fault of_a of_b = absurd of_b
same_names (Mount noted) (command.Mount a) (command.Daemon b) fault of_a of_b = absurd of_b

-- and they run alike
runs_well-noted : (noted : Noted) (a b : ServerCommand) (input : Option (List ℕ)) (file : List ℕ → Option (List ℕ)) (before after : Option (List ℕ)) →
    IsNoted noted a → IsNoted noted b → RunsWell input file a before after → RunsWell input file b before after
runs_well-noted (Broker noted) (command.Broker a) (command.Broker b) input file before after of_a of_b well =
    subst (λ (path : List ℕ). PlaysRead (script_at input file path) before after) (sym of_a.1 ∙ of_b.1) well
runs_well-noted (Daemon noted) (command.Daemon a) (command.Daemon b) input file before after of_a of_b well =
    subst (λ (until_closed : Bool). RunsDaemon until_closed (Ok tt) before after) (sym of_a.7 ∙ of_b.7) well
runs_well-noted (Broker noted) (command.Daemon a) b input file before after of_a of_b well = absurd of_a
runs_well-noted (Broker noted) (command.Broker a) (command.Daemon b) input file before after of_a of_b well = absurd of_b
runs_well-noted (Daemon noted) (command.Broker a) b input file before after of_a of_b well = absurd of_a
runs_well-noted (Daemon noted) (command.Daemon a) (command.Broker b) input file before after of_a of_b well = absurd of_b
runs_well-noted (Mount noted) (command.Mount a) (command.Mount b) input file before after of_a of_b well = well
runs_well-noted (Broker noted) (command.Mount a) b input file before after of_a of_b well = absurd of_a
runs_well-noted (Daemon noted) (command.Mount a) b input file before after of_a of_b well = absurd of_a
runs_well-noted (Mount noted) (command.Broker a) b input file before after of_a of_b well = absurd of_a
runs_well-noted (Mount noted) (command.Daemon a) b input file before after of_a of_b well = absurd of_a
runs_well-noted (Broker noted) (command.Broker a) (command.Mount b) input file before after of_a of_b well = absurd of_b
runs_well-noted (Daemon noted) (command.Daemon a) (command.Mount b) input file before after of_a of_b well = absurd of_b
runs_well-noted (Mount noted) (command.Mount a) (command.Broker b) input file before after of_a of_b well = absurd of_b
runs_well-noted (Mount noted) (command.Mount a) (command.Daemon b) input file before after of_a of_b well = absurd of_b

prints_first-noted : (noted : Noted) (a b : ServerCommand) (before after : Option (List ℕ)) → IsNoted noted a → IsNoted noted b → PrintsFirst a before after → PrintsFirst b before after
prints_first-noted (Broker noted) (command.Broker a) (command.Broker b) before after of_a of_b first = first
prints_first-noted (Daemon noted) (command.Daemon a) (command.Daemon b) before after of_a of_b first = first
prints_first-noted (Broker noted) (command.Daemon a) b before after of_a of_b first = absurd of_a
prints_first-noted (Broker noted) (command.Broker a) (command.Daemon b) before after of_a of_b first = absurd of_b
prints_first-noted (Daemon noted) (command.Broker a) b before after of_a of_b first = absurd of_a
prints_first-noted (Daemon noted) (command.Daemon a) (command.Broker b) before after of_a of_b first = absurd of_b
prints_first-noted (Mount noted) (command.Mount a) (command.Mount b) before after of_a of_b first = first
prints_first-noted (Broker noted) (command.Mount a) b before after of_a of_b first = absurd of_a
prints_first-noted (Daemon noted) (command.Mount a) b before after of_a of_b first = absurd of_a
prints_first-noted (Mount noted) (command.Broker a) b before after of_a of_b first = absurd of_a
prints_first-noted (Mount noted) (command.Daemon a) b before after of_a of_b first = absurd of_a
prints_first-noted (Broker noted) (command.Broker a) (command.Mount b) before after of_a of_b first = absurd of_b
prints_first-noted (Daemon noted) (command.Daemon a) (command.Mount b) before after of_a of_b first = absurd of_b
prints_first-noted (Mount noted) (command.Mount a) (command.Broker b) before after of_a of_b first = absurd of_b
prints_first-noted (Mount noted) (command.Mount a) (command.Daemon b) before after of_a of_b first = absurd of_b

failed-noted : (noted : Noted) (a b : ServerCommand) (fault : ProgramFault) (before after : Option (List ℕ)) → IsNoted noted a → IsNoted noted b →
    (fault ≡ CannotWrite) ⊎ PrintsFirst a before after → (fault ≡ CannotWrite) ⊎ PrintsFirst b before after
failed-noted noted a b fault before after of_a of_b (inl unwritten) = inl unwritten
failed-noted noted a b fault before after of_a of_b (inr first) = inr (prints_first-noted noted a b before after of_a of_b first)

told-noted : (noted : Noted) (a b : ServerCommand) (input : Option (List ℕ)) (file : List ℕ → Option (List ℕ)) (fault : ProgramFault) (before after : Option (List ℕ)) →
    IsNoted noted a → IsNoted noted b → IsTold input file a before after fault → IsTold input file b before after fault
told-noted (Broker noted) (command.Broker a) (command.Broker b) input file fault before after of_a of_b told =
    subst (λ (path : List ℕ). BrokerTells (script_at input file path) before after fault) (sym of_a.1 ∙ of_b.1) told
told-noted (Daemon noted) (command.Daemon a) (command.Daemon b) input file fault before after of_a of_b told =
    subst (λ (path : List ℕ). DaemonTells b.git.now (script_at input file path) before after fault) (sym of_a.3 ∙ of_b.3)
    (subst (λ (repository : List ℕ). DaemonTells repository (script_at input file a.manifest.now) before after fault) (sym of_a.9 ∙ of_b.9) told)
told-noted (Broker noted) (command.Daemon a) b input file fault before after of_a of_b told = absurd of_a
told-noted (Broker noted) (command.Broker a) (command.Daemon b) input file fault before after of_a of_b told = absurd of_b
told-noted (Daemon noted) (command.Broker a) b input file fault before after of_a of_b told = absurd of_a
told-noted (Daemon noted) (command.Daemon a) (command.Broker b) input file fault before after of_a of_b told = absurd of_b
told-noted (Mount noted) (command.Mount a) (command.Mount b) input file fault before after of_a of_b told = told
told-noted (Broker noted) (command.Mount a) b input file fault before after of_a of_b told = absurd of_a
told-noted (Daemon noted) (command.Mount a) b input file fault before after of_a of_b told = absurd of_a
told-noted (Mount noted) (command.Broker a) b input file fault before after of_a of_b told = absurd of_a
told-noted (Mount noted) (command.Daemon a) b input file fault before after of_a of_b told = absurd of_a
told-noted (Broker noted) (command.Broker a) (command.Mount b) input file fault before after of_a of_b told = absurd of_b
told-noted (Daemon noted) (command.Daemon a) (command.Mount b) input file fault before after of_a of_b told = absurd of_b
told-noted (Mount noted) (command.Mount a) (command.Broker b) input file fault before after of_a of_b told = absurd of_b
told-noted (Mount noted) (command.Mount a) (command.Daemon b) input file fault before after of_a of_b told = absurd of_b

pub runs_to-noted : (noted : Noted) (a b : ServerCommand) (input : Option (List ℕ)) (file : List ℕ → Option (List ℕ)) (ran : Result (Unit {0}) Failure) (before after : Option (List ℕ)) →
    IsNoted noted a → IsNoted noted b → RunsTo input file a ran before after → RunsTo input file b ran before after
runs_to-noted noted a b input file (Ok done) before after of_a of_b well = runs_well-noted noted a b input file before after of_a of_b well
runs_to-noted noted a b input file (Err failure) before after of_a of_b fails = record {
  names = fails.names ∙ same_names noted a b failure.fault of_a of_b;
  told = told-noted noted a b input file failure.fault before after of_a of_b fails.told;
  first = failed-noted noted a b failure.fault before after of_a of_b fails.first;
}
