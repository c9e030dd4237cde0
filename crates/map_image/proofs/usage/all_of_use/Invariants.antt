use Rattle.std.proofs.Common.{◌≡◌, drop}
use Rattle.std.specs.List.{list_all}
use Rattle.entry_table.specs.Entries.{is_of_use}
use Rattle.map_image.specs.ImageReading.{are_of_use}
use Rattle.map_image.proofs.usage.all_of_use.Given as goal

abbrev pub invariant-loop-kept : goal.invariant-loop-kept
invariant-loop-kept l = list_all (is_of_use l.entries) (drop l.kept-index l.entries) ≡ are_of_use l.entries
