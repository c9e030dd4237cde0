use Rattle.std.proofs.Common.{◌≡◌, ℕ, List, Option, Some, length}
use Rattle.std.specs.Io.KnownBytes.{Appends}
use Rattle.fuse_wire.specs.DirectoryEntries.{Dirent}
use Rattle.script_lines.specs.Listed.{listing_of}
use Rattle.script_lines.specs.Printed.{entry_lines}
use Rattle.script_lines.proofs.listing.print_entries.Given as goal

-- with the lines of the entries that are left, all lines are written
abbrev pub invariant-loop-entry : goal.invariant-loop-entry
invariant-loop-entry g l = (listed : List Dirent) → listing_of l.bytes ≡ Some listed → (left : List Dirent) × (listing_of l.entries ≡ Some left)
    × ((end : Option (List ℕ)) → Appends (g.W.Write.contents l.out) end (entry_lines left) → Appends (g.W.Write.contents l.initial.out) end (entry_lines listed))

abbrev pub decreases-loop-entry : goal.decreases-loop-entry
decreases-loop-entry g l = length l.entries
