-- The command is made in the steps of its definition.
use Rattle.std.proofs.lemmas.Result.{IfOk-weaker}
use Rattle.command_line.proofs.CommandLemmas.{made, with_about, with_after_help, with_arg, with_usage}
use Rattle.command_line.proofs.commands.mount_command.Goals as goal

pub returns : goal.returns
returns c =
    let told = with_after_help _ _ _ _ c.after_help.ensures (with_usage _ _ _ _ c.override_usage.ensures (with_about _ _ _ _ c.about.ensures (made _ _ c.new.ensures.app c.new.ensures.local))) in
    let mountpoint = with_arg _ _ _ _ _ c.word_arg.ensures.rule c.word_arg.ensures.own told c.in_ok-arg.ensures in
    let socket = with_arg _ _ _ _ _ c.word_arg-2.ensures.rule c.word_arg-2.ensures.own mountpoint c.in_ok-arg-2.ensures in
    let held = with_arg _ _ _ _ _ c.held_arg.ensures.rule c.held_arg.ensures.own socket c.in_ok-arg-3.ensures in
    let owner = with_arg _ _ _ _ _ c.owner_arg.ensures.rule c.owner_arg.ensures.own held c.in_ok-arg-4.ensures in
    IfOk-weaker c.arg-5.result _ _ (λ command adds. with_arg _ _ _ _ _ c.valid_arg.ensures.rule c.valid_arg.ensures.own owner adds) c.arg-5.ensures
