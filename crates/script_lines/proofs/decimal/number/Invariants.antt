use Rattle.std.proofs.Common.{◌≡◌, drop}
use Rattle.script_lines.specs.Number.{number_after}
use Rattle.script_lines.proofs.decimal.number.Given as goal

-- what the digits behind make of the number so far is what all digits make of 0
abbrev pub invariant-loop-byte : goal.invariant-loop-byte
invariant-loop-byte l = number_after l.value (drop l.byte-index l.digits) ≡ number_after 0 l.digits
