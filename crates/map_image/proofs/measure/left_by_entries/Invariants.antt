use Rattle.std.proofs.Common.{◌≡◌, ◌≤◌, ◌+◌, length, take}
use Rattle.std.specs.List.{flat_map}
use Rattle.map_image.specs.ImageText.{entry_text}
use Rattle.map_image.proofs.measure.left_by_entries.Given as goal

abbrev pub invariant-loop-kept : goal.invariant-loop-kept
invariant-loop-kept l =
    (l.left + length (flat_map (entry_text l.width) (take l.kept-index l.entries)) ≡ l.room)
    × (l.kept-index + l.left ≤ l.room)
