use Rattle.std.proofs.Common.{ℕ, ◌-◌, ◌^◌, List, Option}
use Rattle.std.specs.Io.KnownBytes.{Appends}
use Rattle.eden_base.specs.declared.number.Number.{Number}
use Rattle.broker_script.specs.Printed.{AreHeldAbove, PrintsHeld, held_lines}
use Rattle.broker_script.proofs.print.print_held.Given as goal

-- with the lines of the held numbers above the last one, all lines are written
abbrev pub invariant-loop-number : goal.invariant-loop-number
invariant-loop-number g l =
    (numbers : List Number) (end : Option (List ℕ)) → AreHeldAbove l.broker.held l.last.0 numbers → Appends (g.W.Write.contents l.out) end (held_lines l.broker.held numbers) →
    PrintsHeld l.broker.held (g.W.Write.contents l.initial.out) end

abbrev pub decreases-loop-number : goal.decreases-loop-number
decreases-loop-number g l = 2 ^ 64 - l.last.0
