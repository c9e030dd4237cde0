use Rattle.std.proofs.Common.{◌≡◌, ◌+◌, ◌≤◌, ◌++◌, List, length, map}
use Rattle.std.specs.Prelude.{All, is_none}
use Rattle.std.specs.List.{position_from}
use Rattle.script_lines.specs.BrokerLine.{broker_line_of, IsSendableLine}
use Rattle.script_lines.specs.Lines.{lines_of}
use Rattle.script_lines.specs.declared.broker_line.BrokerLine.{BrokerLine}
use Rattle.broker_script.specs.Reading.{Says, first_bad}
use Rattle.broker_script.proofs.script.read_broker_script.Given as goal

-- with what the lines that are left say, all is said; and the first bad line stands among those
abbrev pub invariant-loop-rest : goal.invariant-loop-rest
invariant-loop-rest l = record {
  said : (more : List BrokerLine) → Says l.rest more → Says l.text (l.lines.items ++ more);
  bad : position_from is_none (length l.lines.items + 1) (map broker_line_of (lines_of l.rest)) ≡ first_bad (lines_of l.text);
  sendable : All IsSendableLine l.lines.items;
  room : length l.lines.items + length l.rest ≤ length l.text;
}

abbrev pub decreases-loop-rest : goal.decreases-loop-rest
decreases-loop-rest l = length l.rest
