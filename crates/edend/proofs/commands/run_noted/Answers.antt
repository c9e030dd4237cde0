-- The noted command was run, whichever it is.
use Rattle.std.proofs.Common.{subst}
use Rattle.command_line.specs.declared.server_command.ServerCommand.{ServerCommand}
use Rattle.edend.proofs.CommandLemmas.{runs_over-noted}
use Rattle.edend.specs.Note.{IsNoted}
use Rattle.edend.proofs.commands.run_noted.Goals as goal

pub returns-in-Broker : goal.returns-in-Broker
returns-in-Broker g c = λ command is.
    runs_over-noted c.args.noted.now _ command _ _ _ _ _ _ _ _ (subst (λ (e : ServerCommand). IsNoted c.args.noted.now e) c.in-Broker.is c.command.ensures.same) is c.play.ensures

pub returns-in-Daemon : goal.returns-in-Daemon
returns-in-Daemon g c = λ command is.
    runs_over-noted c.args.noted.now _ command _ _ _ _ _ _ _ _ (subst (λ (e : ServerCommand). IsNoted c.args.noted.now e) c.in-Daemon.is c.command.ensures.same) is c.serve.ensures

pub returns-in-Mount : goal.returns-in-Mount
returns-in-Mount g c = λ command is.
    runs_over-noted c.args.noted.now _ command _ _ _ _ _ _ _ _ (subst (λ (e : ServerCommand). IsNoted c.args.noted.now e) c.in-Mount.is c.command.ensures.same) is c.keep.ensures
