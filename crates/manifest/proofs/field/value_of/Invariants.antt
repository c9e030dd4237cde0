-- The number of the digits so far.
use Rattle.std.proofs.Common.{◌≡◌, take}
use Rattle.manifest.specs.Text.{decimal}
use Rattle.manifest.proofs.field.value_of.Given as goal

abbrev pub invariant-loop-digit : goal.invariant-loop-digit
invariant-loop-digit l = l.value ≡ decimal (take l.digit-index l.digits)
