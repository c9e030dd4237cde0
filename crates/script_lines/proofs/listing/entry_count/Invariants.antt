use Rattle.std.proofs.Common.{◌≡◌, ◌+◌, ◌≤◌, List, length}
use Rattle.std.specs.Option.{option_map}
use Rattle.fuse_wire.specs.DirectoryEntries.{Dirent}
use Rattle.script_lines.specs.Listed.{listing_of}
use Rattle.script_lines.proofs.listing.entry_count.Given as goal

-- with the entries that are left, so many are read; each of them has a byte
abbrev pub invariant-loop-entry : goal.invariant-loop-entry
invariant-loop-entry l = record {
  all : option_map (λ (left : List Dirent). l.count + length left) (listing_of l.entries) ≡ option_map length (listing_of l.bytes);
  bytes : l.count + length l.entries ≤ length l.bytes;
}

abbrev pub decreases-loop-entry : goal.decreases-loop-entry
decreases-loop-entry l = length l.entries
