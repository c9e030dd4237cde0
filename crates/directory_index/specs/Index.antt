-- What an index of places, and of directories, is an index of.
use Rattle.std.specs.Prelude.{◌≡◌, ℕ, Bool, true}
use Rattle.directory_index.specs.Children.{is_child}
use Rattle.directory_index.specs.PlaceIndex.{has_place, ArePlacesOf}
use Rattle.directory_index.specs.Standing.{Standing, StandsIn}
use Rattle.directory_index.specs.declared.children.Children.{Children}
use Rattle.directory_index.specs.declared.directory_index.DirectoryIndex.{DirectoryIndex}

-- the numbers of each directory are those that stand in it
pub record AreChildrenOf (at : Standing) (children : Children) : Type 0 where
  pub each : (dir number : ℕ) → StandsIn at dir number → is_child children dir number ≡ true
  pub no_others : (dir number : ℕ) → is_child children dir number ≡ true → StandsIn at dir number

-- The index is one of this: of these numbers at these places, no two of which are one number's. What the maps have of it
-- is `below`, and so are the numbers of each directory.
pub record IsIndexOf (at : Standing) (index : DirectoryIndex) : Type 0 where
  pub below : Standing
  pub places : ArePlacesOf at below index.places
  pub children : AreChildrenOf below index.children

-- whether a number can be inserted without taking memory
abbrev pub has_room : DirectoryIndex → Bool
has_room index = has_place index.places
