-- Up to here each entry has a directory, and the places of these are known.
use Rattle.std.proofs.Common.{◌≡◌, ◌≤◌, drop, length}
use Rattle.std.specs.Prelude.{vec_capacity, vec_len}
use Rattle.std.specs.List.{list_all}
use Rattle.entry_table.specs.declared.kept.Kept.{Kept}
use Rattle.map_codec.specs.Named.{IsDirectoryOf}
use Rattle.map_codec.specs.Raising.{has_parent}
use Rattle.map_codec.proofs.DirectoryLaws.{IsEachAt}
use Rattle.map_codec.proofs.directories.directories.Given as goal

abbrev pub invariant-loop-kept : goal.invariant-loop-kept
invariant-loop-kept l = record {
  have : list_all (λ (kept : Kept). has_parent l.entries kept.place) (drop l.kept-index l.entries)
      ≡ list_all (λ (kept : Kept). has_parent l.entries kept.place) l.entries;
  room : length l.entries ≤ vec_capacity l.places;
  count : vec_len l.places ≡ l.kept-index;
  len : length l.places.items ≡ l.kept-index;
  each : IsEachAt (λ (kept : Kept) at. IsDirectoryOf l.entries kept.place at) l.entries l.places.items;
}
