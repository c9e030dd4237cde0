-- There are none yet.
use Rattle.std.proofs.Common.{refl, arith}
use Rattle.checkout.proofs.UnlinkedLemmas.{none-IsDistinct}
use Rattle.checkout.proofs.unlinked_files.UnlinkedFiles.with_room.Goals as goal

pub invariant_of-result : goal.invariant_of-result
invariant_of-result c =
    let capacity = c.in_ok-files.ensures.capacity in
    let len = c.in_ok-files.ensures.len in
    rw (c.in_ok-marks.ensures, c.in_ok-files.ensures.items) (none-IsDistinct, (λ q. refl, λ q x low high. absurd (omega (arith, low, high))), λ q h. absurd (cc), len, capacity)
