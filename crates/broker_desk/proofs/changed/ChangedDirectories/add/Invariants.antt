-- The directories that were passed are noted.
use Rattle.std.proofs.Common.{take}
use Rattle.broker_desk.specs.Changed.{Adds}
use Rattle.broker_desk.proofs.changed.ChangedDirectories.add.Given as goal

abbrev pub invariant-loop-number : goal.invariant-loop-number
invariant-loop-number l = Adds l.fn.self (take l.number-index l.fn.numbers) l.self-inside.numbers.keys
