use Rattle.std.proofs.Common.{◌∷◌, []}
use Rattle.std.proofs.KnownBytes.{Appends-nil, Appends-trans}
use Rattle.broker_script.proofs.print.print_held.Goals as goal

pub loop-number-init : goal.loop-number-init
loop-number-init g c = λ numbers end are written. record { numbers = numbers; are_held = are; written = written }

pub loop-number-preserved : goal.loop-number-preserved
loop-number-preserved g c = λ numbers end are written.
    c.loop-number.invariant (c.in-Some.number ∷ numbers) end (c.in-Some.ensures.least, are) (Appends-trans _ _ _ _ _ c.in_ok-print_count.ensures written)

pub returns : goal.returns
returns g c = record {
  printed = c.loop-number.invariant [] _ c.in_default.ensures.least (Appends-nil _);
}
