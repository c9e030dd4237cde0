-- The command is made in the steps of its definition.
use Rattle.std.proofs.lemmas.Result.{IfOk-weaker}
use Rattle.command_line.proofs.CommandLemmas.{made, with_about, with_after_help, with_arg, with_usage}
use Rattle.command_line.proofs.commands.daemon_command.Goals as goal

pub returns : goal.returns
returns c =
    let told = with_after_help _ _ _ _ c.after_help.ensures (with_usage _ _ _ _ c.override_usage.ensures
    (with_about _ _ _ _ c.about.ensures (made _ _ c.new.ensures.app c.new.ensures.local))) in
    let mounts = with_arg _ _ _ _ _ c.flag_arg.ensures.rule c.flag_arg.ensures.own told c.in_ok-arg.ensures in
    let takes_over = with_arg _ _ _ _ _ c.flag_arg-2.ensures.rule c.flag_arg-2.ensures.own mounts c.in_ok-arg-2.ensures in
    let broker = with_arg _ _ _ _ _ c.word_arg.ensures.rule c.word_arg.ensures.own takes_over c.in_ok-arg-3.ensures in
    let takeover = with_arg _ _ _ _ _ c.word_arg-2.ensures.rule c.word_arg-2.ensures.own broker c.in_ok-arg-4.ensures in
    let manifest = with_arg _ _ _ _ _ c.manifest_arg.ensures.rule c.manifest_arg.ensures.own takeover c.in_ok-arg-5.ensures in
    let workers = with_arg _ _ _ _ _ c.workers_arg.ensures.rule c.workers_arg.ensures.own manifest c.in_ok-arg-6.ensures in
    let limit = with_arg _ _ _ _ _ c.limit_arg.ensures.rule c.limit_arg.ensures.own workers c.in_ok-arg-7.ensures in
    let patience = with_arg _ _ _ _ _ c.patience_arg.ensures.rule c.patience_arg.ensures.own limit c.in_ok-arg-8.ensures in
    let until_closed = with_arg _ _ _ _ _ c.flag_arg-3.ensures.rule c.flag_arg-3.ensures.own patience c.in_ok-arg-9.ensures in
    let files = with_arg _ _ _ _ _ c.files_arg.ensures.rule c.files_arg.ensures.own until_closed c.in_ok-arg-10.ensures in
    let git = with_arg _ _ _ _ _ c.git_arg.ensures.rule c.git_arg.ensures.own files c.in_ok-arg-11.ensures in
    IfOk-weaker c.arg-12.result _ _ (λ command adds. with_arg _ _ _ _ _ c.cache_arg.ensures.rule c.cache_arg.ensures.own git adds) c.arg-12.ensures
