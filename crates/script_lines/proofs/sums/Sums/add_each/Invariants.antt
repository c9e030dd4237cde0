use Rattle.std.proofs.Common.{◌≡◌, ◌*◌, ◌^◌, ◌+◌, ◌<◌, ◌≤◌, ℕ, take, sum_by, slice_index_or}
use Rattle.script_lines.proofs.sums.Sums.add_each.Given as goal

-- each sum with that over the members so far, which is below 2^64 for each of them
abbrev pub invariant-loop-member : goal.invariant-loop-member
invariant-loop-member g l = record {
  low_is : l.self.low ≡ l.fn.self.low;
  sums : (i : ℕ) → i < 256 → slice_index_or l.self.sums i 0 ≡ slice_index_or l.fn.self.sums i 0 + sum_by (g.M.Lookups.count (l.fn.self.low + i)) (take l.member-index l.members);
  more : (i : ℕ) → i < 256 → slice_index_or l.self.sums i 0 ≤ slice_index_or l.fn.self.sums i 0 + l.member-index * 2 ^ 64;
}
