-- Where numbers stand, by their entries, and what an index of these places has.
use Rattle.std.specs.Prelude.{◌≡◌, ℕ, List, Option, Some, None}
use Rattle.std.specs.Option.{option_and_then}
use Rattle.directory_index.specs.CountedIndex.{IsCountedOf}
use Rattle.directory_index.specs.Standing.{AreKnown, Standing}
use Rattle.directory_index.specs.declared.counted_index.CountedIndex.{CountedIndex}
use Rattle.eden_base.specs.declared.place.Place.{Place}
use Rattle.eden_base.specs.declared.place.Place.TheVariants.{Linked, Unlinked}
use Rattle.entry_table.specs.Entries.{entry_of}
use Rattle.entry_table.specs.declared.kept.Kept.{Kept}

-- the number of the directory and the name of a place, if the place has them
abbrev pub place_under : Place → Option (ℕ × List ℕ)
place_under (Linked dir name) = Some (dir.0, name)
place_under (Unlinked file) = None

-- the directory and the name under which number `n` stands, if it has an entry that stands under a name
abbrev pub place_of_number : List Kept → ℕ → Option (ℕ × List ℕ)
place_of_number entries n = option_and_then (λ (kept : Kept). place_under kept.place) (entry_of entries n)

-- The index is one of these places: it has each number where the number stands, and nothing else. So no two numbers
-- stand at one place.
pub record IsIndexed (place : ℕ → Option (ℕ × List ℕ)) (index : CountedIndex) : Type 0 where
  pub at : Standing
  pub of : IsCountedOf at index
  pub known : AreKnown at place
  pub each : (dir : ℕ) (name : List ℕ) (n : ℕ) → place n ≡ Some (dir, name) → at dir name ≡ Some n
