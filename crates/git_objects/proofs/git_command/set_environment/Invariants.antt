use Rattle.std.proofs.Common.{◌≡◌}
use Rattle.std.specs.Process.{command_args, command_program}
use Rattle.git_objects.proofs.git_command.set_environment.Given as goal

abbrev pub invariant-loop-name : goal.invariant-loop-name
invariant-loop-name l =
    (command_program l.command ≡ command_program l.initial.command) × (command_args l.command ≡ command_args l.initial.command)
