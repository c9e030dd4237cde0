use Rattle.std.proofs.Common.{◌≡◌, ◌+◌, ◌≤◌, ◌++◌, map, Some, length}
use Rattle.script_lines.specs.EventLine.{event_of}
use Rattle.script_lines.specs.Lines.{lines_of}
use Rattle.world_script.proofs.script.read_events.Given as goal

-- the events so far, and those of the lines that are left, are those of all lines
abbrev pub invariant-loop-rest : goal.invariant-loop-rest
invariant-loop-rest l =
    (map Some l.events.items ++ map event_of (lines_of l.rest) ≡ map event_of (lines_of l.text)) × (length l.events.items + length l.rest ≤ length l.text)

abbrev pub decreases-loop-rest : goal.decreases-loop-rest
decreases-loop-rest l = length l.rest
