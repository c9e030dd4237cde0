-- What an index of places, with how many names each directory has, is an index of.
use Rattle.std.specs.Prelude.{Bool}
use Rattle.directory_index.specs.NameCounts.{AreCountsOf}
use Rattle.directory_index.specs.PlaceIndex.{has_place, ArePlacesOf}
use Rattle.directory_index.specs.Standing.{Standing}
use Rattle.directory_index.specs.declared.counted_index.CountedIndex.{CountedIndex}

-- The index is one of this: of these numbers at these places, no two of which are one number's. What the maps have of it
-- is `below`, and so are the counts.
pub record IsCountedOf (at : Standing) (index : CountedIndex) : Type 0 where
  pub below : Standing
  pub places : ArePlacesOf at below index.places
  pub counts : AreCountsOf below index.counts

-- whether a number can be inserted without taking memory
abbrev pub has_room : CountedIndex → Bool
has_room index = has_place index.places
