use Rattle.std.proofs.Common.{◌≡◌, ◌≤◌, ◌+◌, length, take}
use Rattle.std.specs.List.{flat_map}
use Rattle.map_image.specs.ImageText.{link_text}
use Rattle.map_image.proofs.measure.left_by_links.Given as goal

abbrev pub invariant-loop-link : goal.invariant-loop-link
invariant-loop-link l =
    (l.left + length (flat_map link_text (take l.link-index l.links)) ≡ l.room) × (l.link-index + l.left ≤ l.room)
