use Rattle.std.proofs.Common.{ℕ, ◌-◌, List, Option}
use Rattle.std.specs.Io.KnownBytes.{Appends}
use Rattle.entry_table.specs.Entries.{AreNumbers}
use Rattle.script_lines.specs.Gathered.{IsGathered}
use Rattle.script_lines.specs.Printed.{kept_lines}
use Rattle.script_lines.proofs.NumberLemmas.{above}
use Rattle.script_lines.proofs.print.print_all_kept.Given as goal

-- with the lines of the numbers above the last one, all lines are written; and what is under way is gathered for some
-- numbers
abbrev pub invariant-loop-number : goal.invariant-loop-number
invariant-loop-number g l = record {
  lines : AreNumbers 2 l.map.next l.map.entries → (end : Option (List ℕ)) → Appends (g.W.Write.contents l.out) end (kept_lines l.world l.daemon (above l.last.0 l.map.entries)) →
      Appends (g.W.Write.contents l.initial.out) end (kept_lines l.world l.daemon l.map.entries);
  gathered : IsGathered l.world l.daemon l.under_way;
}

abbrev pub decreases-loop-number : goal.decreases-loop-number
decreases-loop-number g l = l.map.next - l.last.0
