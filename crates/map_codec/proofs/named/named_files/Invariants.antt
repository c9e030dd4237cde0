use Rattle.std.proofs.Common.{◌≡◌, ◌≤◌, length}
use Rattle.std.specs.Prelude.{vec_capacity, vec_len}
use Rattle.map_codec.specs.Named.{AreFound}
use Rattle.map_codec.proofs.DirectoryLaws.{IsEachAt}
use Rattle.map_codec.proofs.NamedLaws.{IsFileAt}
use Rattle.map_codec.proofs.named.named_files.Given as goal

-- these are the files of the entries up to here
abbrev pub invariant-loop-place : goal.invariant-loop-place
invariant-loop-place l = record {
  known : AreFound l.tree l.entries l.found.items;
  way_room : length l.entries ≤ vec_capacity l.way;
  files_room : length l.entries ≤ vec_capacity l.files;
  count : vec_len l.files ≡ l.place;
  len : length l.files.items ≡ l.place;
  each : IsEachAt (IsFileAt l.tree l.entries) l.entries l.files.items;
}
