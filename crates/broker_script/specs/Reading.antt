-- A broker's script: each of its lines says what the kernel does or waits for. (This project's own.)
use Rattle.std.specs.Prelude.{◌≡◌, ℕ, List, Option, Some, map, is_none, ⊤}
use Rattle.std.specs.List.{position_from}
use Rattle.script_lines.specs.BrokerLine.{broker_line_of}
use Rattle.script_lines.specs.Lines.{lines_of}
use Rattle.script_lines.specs.declared.broker_line.BrokerLine.{BrokerLine}
use Rattle.broker_script.specs.declared.fault.BrokerScriptFault.{BrokerScriptFault}
use Rattle.broker_script.specs.declared.fault.BrokerScriptFault.TheVariants.{BadLine, NoMemory}

-- this is what the lines of a text say, in order
abbrev pub Says : List ℕ → List BrokerLine → Type 0
Says text said = map Some said ≡ map broker_line_of (lines_of text)

-- the number of the first line that says nothing, if there is one; the first line is line 1
abbrev pub first_bad : List (List ℕ) → Option ℕ
first_bad lines = position_from is_none 1 (map broker_line_of lines)

-- why a text was not read: its first bad line, or no memory
abbrev pub IsRefusal : List ℕ → BrokerScriptFault → Type 0
IsRefusal text (BadLine number) = first_bad (lines_of text) ≡ Some number
IsRefusal text NoMemory = ⊤
