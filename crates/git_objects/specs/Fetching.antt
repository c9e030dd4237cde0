-- What becomes of a process of git by what it gave.
use Rattle.std.specs.Prelude.{Bool, true, false, Option, Some, None}
use Rattle.git_objects.specs.declared.fault.ObjectFault.{ObjectFault}
use Rattle.git_objects.specs.declared.fault.ObjectFault.TheVariants.{Ambiguous, Damaged, Ended, Missing, Unreadable}

-- whether it stands behind its answer: it gave a whole blob, or said that it has none; else it is killed
abbrev pub is_in_step : Option ObjectFault → Bool
is_in_step None = true
is_in_step (Some Missing) = true
is_in_step (Some Ambiguous) = true
is_in_step (Some Damaged) = true
is_in_step (Some fault) = false

-- whether the next one is asked for the same blob
abbrev pub asks_again : ObjectFault → Bool
asks_again Ended = true
asks_again Unreadable = true
asks_again fault = false
