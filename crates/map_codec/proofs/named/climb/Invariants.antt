use Rattle.std.proofs.Common.{All, ◌≡◌, ◌-◌, ◌<◌, ◌≤◌, length, map, vec_len}
use Rattle.std.specs.Prelude.{vec_capacity}
use Rattle.entry_table.specs.EntryPlaces.{Climbs}
use Rattle.map_codec.specs.Named.{number_at}
use Rattle.map_codec.proofs.named.climb.Given as goal

-- the way leads from the first entry to this one
abbrev pub invariant-loop-at : goal.invariant-loop-at
invariant-loop-at l = record {
  here : l.at < length l.entries;
  climbs : Climbs l.entries (number_at l.entries l.fn.place).0 (map (number_at l.entries) l.way.items) (number_at l.entries l.at).0;
  inside : All (λ i. i < length l.entries) l.way.items;
  long : vec_len l.way ≤ length l.entries;
  capacity : vec_capacity l.way ≡ vec_capacity l.fn.way;
}

abbrev pub decreases-loop-at : goal.decreases-loop-at
decreases-loop-at l = length l.entries - vec_len l.way
