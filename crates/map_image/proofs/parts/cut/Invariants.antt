use Rattle.std.proofs.Common.{◌≡◌, ◌≤◌, ℕ, ◌+◌, ◌*◌, List, ◌++◌, length, vec_capacity, vec_len}
use Rattle.std.specs.Prelude.{drop}
use Rattle.map_image.specs.Parts.{AreParts}
use Rattle.map_image.specs.Versions.{part_len}
use Rattle.map_image.proofs.parts.cut.Given as goal

-- something is left, which is the text from an index on; there is room for its parts, and they go on with the parts of
-- the text
abbrev pub invariant-loop-rest : goal.invariant-loop-rest
invariant-loop-rest l = record {
  some : 1 ≤ length l.rest;
  at : l.rest ≡ drop l.from l.fn.text.items;
  within : l.from + length l.rest ≡ length l.fn.text.items;
  room : vec_len l.parts * part_len + length l.rest ≤ vec_capacity l.parts * part_len;
  parts : (later : List (List ℕ)) → AreParts l.rest later → AreParts l.fn.text.items (l.parts.items ++ later);
}

abbrev pub decreases-loop-rest : goal.decreases-loop-rest
decreases-loop-rest l = length l.rest
