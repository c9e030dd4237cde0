-- The command is made in the steps of its definition.
use Rattle.std.proofs.lemmas.Result.{IfOk-weaker}
use Rattle.command_line.proofs.CommandLemmas.{made, with_command, with_version}
use Rattle.command_line.proofs.commands.edend_command.Goals as goal

pub returns : goal.returns
returns c =
    let top = with_version _ _ _ _ _ _ c.version.ensures c.about.ensures (made _ _ c.new.ensures.app c.new.ensures.local) in
    let world = with_command _ _ _ _ _ top c.in_ok-world.ensures c.in_ok-subcommand.ensures in
    let broker = with_command _ _ _ _ _ world c.in_ok-broker.ensures c.in_ok-subcommand-2.ensures in
    let daemon = with_command _ _ _ _ _ broker c.in_ok-daemon.ensures c.in_ok-subcommand-3.ensures in
    IfOk-weaker c.subcommand-4.result _ _ (λ command adds. (with_command _ _ _ _ _ daemon c.in_ok-mount.ensures adds).0) c.subcommand-4.ensures
