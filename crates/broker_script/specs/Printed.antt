-- What a broker's script prints. (This project's own.)
use Rattle.std.specs.Prelude.{ℕ, List, [], ◌∷◌, ◌++◌, Option, Some, None, codes}
use Rattle.std.specs.Fmt.{decimal}
use Rattle.std.specs.Io.KnownBytes.{Appends}
use Rattle.broker_core.specs.Broker.{BrokerState}
use Rattle.broker_core.specs.Held.{HeldMap, held_count, IsLeastHeldAfter}
use Rattle.daemon.specs.Refusals.{refusal_of_issue}
use Rattle.eden_base.specs.declared.number.Number.{Number}
use Rattle.script_lines.specs.Printed.{line, asked_words, refusal_line, reply_line}
use Rattle.broker_script.specs.declared.awaited.Came.{Came}
use Rattle.broker_script.specs.declared.awaited.Came.TheVariants.{Answered, Lost, Seat, Idle, Lacks}
use Rattle.broker_script.specs.declared.line.BegunLine.{BegunLine}
use Rattle.broker_script.specs.declared.line.BegunLine.TheVariants.{Waits, Forgot, Refused, Tells}

-- these are all numbers above `n` that the kernel holds, the least first
abbrev pub AreHeldAbove : HeldMap → ℕ → List Number → Type 0
AreHeldAbove held n [] = IsLeastHeldAfter held n None
AreHeldAbove held n (next ∷ more) = IsLeastHeldAfter held n (Some next) × AreHeldAbove held next.0 more

-- the line of a number that the kernel holds: `held N K`
abbrev pub held_line : HeldMap → Number → List ℕ
held_line held number =
    line (codes "held" ∷ decimal number.0 ∷ decimal (held_count held number.0) ∷ [])

-- a line for each of these numbers
abbrev pub held_lines : HeldMap → List Number → List ℕ
held_lines held [] = []
held_lines held (number ∷ more) = held_line held number ++ held_lines held more

-- a line for each number that the kernel holds was written; there is no number 0
pub record PrintsHeld (held : HeldMap) (old new : Option (List ℕ)) : Type 0 where
  pub numbers : List Number
  pub are_held : AreHeldAbove held 0 numbers
  pub written : Appends old new (held_lines held numbers)

-- what the immediate result of a line prints: nothing if the line waits
abbrev pub PrintsBegun : BrokerState → BegunLine → Option (List ℕ) → Option (List ℕ) → Type 0
PrintsBegun broker (Waits awaited) old new = Appends old new []
PrintsBegun broker Forgot old new = Appends old new (line (asked_words None))
PrintsBegun broker (Refused fault) old new = Appends old new (refusal_line (refusal_of_issue fault))
PrintsBegun broker Tells old new = PrintsHeld broker.held old new

-- the lines of what came of a wait: none if memory was refused
abbrev pub came_lines : Came → List ℕ
came_lines (Answered reply) = reply_line (codes "answer") reply
came_lines (Lost unique) = line (codes "lost" ∷ decimal unique ∷ [])
came_lines (Seat generation) = line (codes "seat" ∷ decimal generation ∷ [])
came_lines Idle = line (codes "idle" ∷ [])
came_lines Lacks = []
