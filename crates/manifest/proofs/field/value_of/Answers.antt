-- A number above a tenth of the limit, and one digit more, is too large.
use Rattle.std.proofs.Common.{◌≡◌, false, nat_le, Some, None, if◌then◌else◌, arith, ap, sym}
use Rattle.std.proofs.lemmas.Bool.Decides.{nat_tests}
use Rattle.eden_base.specs.Limits.{greatest_size}
use Rattle.manifest.specs.Text.{decimal}
use Rattle.manifest.proofs.TextLemmas.{decimal-tenfold}
use Rattle.manifest.proofs.field.value_of.Goals as goal

pub returns-then-value-clause-value : goal.returns-then-value-clause-value
returns-then-value-clause-value c =
    let ds = c.args.digits.now in
    let more = decimal-tenfold ds c.loop-digit.digit-index c.loop-digit-test.true in
    let large : nat_le (decimal ds) greatest_size ≡ false = grind (arith, nat_tests) in
    sym (ap (λ b. if b then Some (decimal ds) else None) large)
