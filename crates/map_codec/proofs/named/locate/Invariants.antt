use Rattle.std.proofs.Common.{All, ◌≡◌, ◌<◌, ℕ, length, map, vec_len}
use Rattle.std.specs.Prelude.{vec_capacity}
use Rattle.entry_table.specs.EntryPlaces.{Climbs}
use Rattle.entry_table.specs.Entries.{IsFileOf}
use Rattle.map_codec.specs.Named.{number_at, AreFound}
use Rattle.map_codec.proofs.named.locate.Given as goal

-- what is left of the way leads to a number of the file
abbrev pub invariant-loop-at : goal.invariant-loop-at
invariant-loop-at l = record {
  top : ℕ;
  climbs : Climbs l.entries (number_at l.entries l.fn.place).0 (map (number_at l.entries) l.way.items) top;
  inside : All (λ i. i < length l.entries) l.way.items;
  names : IsFileOf l.tree l.entries top l.file;
  known : AreFound l.tree l.entries l.found.items;
  capacity : vec_capacity l.way ≡ vec_capacity l.fn.way;
}

abbrev pub decreases-loop-at : goal.decreases-loop-at
decreases-loop-at l = vec_len l.way
