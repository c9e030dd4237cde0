use Rattle.std.proofs.Common.{◌≡◌, ◌*◌, ◌^◌, ◌+◌, ◌-◌, ◌<◌, ◌≤◌, ℕ, length, take, sum_by, slice_index_or}
use Rattle.script_lines.proofs.sums.Sums.add_runs.Given as goal

-- each sum with that over the members before `at`, which is below 2^64 for each of them
abbrev pub invariant-loop-at : goal.invariant-loop-at
invariant-loop-at g l = record {
  within : l.at ≤ length l.queue.members;
  low_is : l.self.low ≡ l.fn.self.low;
  sums : (i : ℕ) → i < 256 → slice_index_or l.self.sums i 0 ≡ slice_index_or l.fn.self.sums i 0 + sum_by (g.M.Lookups.count (l.fn.self.low + i)) (take l.at l.queue.members);
  more : (i : ℕ) → i < 256 → slice_index_or l.self.sums i 0 ≤ slice_index_or l.fn.self.sums i 0 + l.at * 2 ^ 64;
}

abbrev pub decreases-loop-at : goal.decreases-loop-at
decreases-loop-at g l = length l.queue.members - l.at
