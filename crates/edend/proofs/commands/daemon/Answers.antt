-- What the daemon printed before it failed, and which fault is told.
use Rattle.std.proofs.Common.{◌≡◌, ℕ, Bool, List, Result, Err, inl, inr, subst}
use Rattle.command_line.specs.declared.server_command.ServerCommand.TheVariants as command
use Rattle.daemon_process.specs.Ending.{RunsDaemon}
use Rattle.daemon_process.specs.declared.fault.DaemonFault.{DaemonFault}
use Rattle.edend.proofs.FailedCommands.{fails-to}
use Rattle.edend.proofs.commands.daemon.Goals as goal

pub returns-in-Err : goal.returns-in-Err
returns-in-Err g c =
    let refused = c.in-Err.ensures.refused in
    fails-to (g.S.Sources.input_bytes c.args.sources.now) (g.S.Sources.file_bytes c.args.sources.now) (command.Daemon c.args.words.now)
    c.in-Err.failure c.fails.result.ended (g.W.Write.contents c.args.streams.out) (g.W.Write.contents c.fails.result.out)
    c.fails.ensures.ended c.fails.ensures.same refused.0 (inl refused.1)

pub returns-in-Err-ended : goal.returns-in-Err-ended
returns-in-Err-ended g c =
    let old = g.W.Write.contents c.args.streams.out in
    let new = g.W.Write.contents c.run_daemon-run.result.out in
    let ordered = subst (λ (until_closed : Bool). RunsDaemon until_closed c.run_daemon-run.result.ended old new) c.daemon_options_of.ensures.until_closed c.run_daemon-run.ensures.runs in
    let ran = subst (λ (ended : Result (Unit {0}) DaemonFault). RunsDaemon c.args.words.now.until_closed ended old new) c.in-Err-ended.is ordered in
    record {
      names = c.failure_of_daemon.ensures.names;
      told = inr (record { fault = c.in-Err-ended.fault; ran = ran; is_told = c.failure_of_daemon.ensures.told });
      first = inr ran;
    }
