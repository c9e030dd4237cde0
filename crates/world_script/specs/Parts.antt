-- The parts of a script: a manifest's lines, the line `--`, and lines that say events. (This project's own.)
use Rattle.std.specs.Prelude.{◌≡◌, ℕ, ◌+◌, Bool, true, List, [], ◌∷◌, length, map, take, drop, Option, Some, None, is_none, position, codes, if◌then◌else◌}
use Rattle.std.specs.List.{before_first, after_first}
use Rattle.world.specs.declared.event.Event.{Event}
use Rattle.script_lines.specs.EventLine.{event_of}
use Rattle.script_lines.specs.Lines.{is_lf, lines_of}
use Rattle.script_lines.specs.Words.{is_word}

-- whether the line is the one that ends a manifest
abbrev pub is_marker : List ℕ → Bool
is_marker line = is_word line (codes "--")

-- the lines after the first marker, if there is a marker
abbrev pub lines_behind : List (List ℕ) → Option (List (List ℕ))
lines_behind [] = None
lines_behind (line ∷ lines) = if is_marker line then Some lines else lines_behind lines

-- a script is split into its manifest and the text after the first marker, whose first line has this number in the
-- script
pub record IsSplit (script manifest events : List ℕ) (first : ℕ) : Type 0 where
  pub manifest_is : manifest ≡ take (length manifest) script
  pub marker_is : is_marker (before_first is_lf (drop (length manifest) script)) ≡ true
  pub events_are : events ≡ after_first is_lf (drop (length manifest) script)
  pub behind : lines_behind (lines_of script) ≡ Some (lines_of events)
  pub first_is : first + length (lines_of events) ≡ length (lines_of script) + 1

-- the index of the first line that says no event, if there is one
abbrev pub first_bad : List (List ℕ) → Option ℕ
first_bad lines = position is_none (map event_of lines)

-- the events are those that the lines after the script's marker say
pub record SaysEvents (script : List ℕ) (events : List Event) : Type 0 where
  pub lines : List (List ℕ)
  pub behind : lines_behind (lines_of script) ≡ Some lines
  pub each : map Some events ≡ map event_of lines

-- this is the number of the first line after the script's marker that says no event
pub record IsBadLine (script : List ℕ) (number : ℕ) : Type 0 where
  pub lines : List (List ℕ)
  pub index : ℕ
  pub behind : lines_behind (lines_of script) ≡ Some lines
  pub is_first : first_bad lines ≡ Some index
  pub number_is : number + length lines ≡ length (lines_of script) + index + 1
