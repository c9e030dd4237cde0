-- The buckets so far stand where they have to.
use Rattle.std.proofs.Common.{◌≡◌, ℕ, ◌<◌, length, get_or}
use Rattle.key_map.specs.Cells.{empty_bucket, spread}
use Rattle.key_map.proofs.buckets.doubled.Given as goal

abbrev pub invariant-loop-place : goal.invariant-loop-place
invariant-loop-place l = record {
  long : length l.wide.items ≡ l.place;
  buckets : (i : ℕ) → i < l.place → get_or l.wide.items i empty_bucket ≡ spread l.buckets l.shift l.len i;
}
