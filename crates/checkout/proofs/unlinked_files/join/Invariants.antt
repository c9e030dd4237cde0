-- The marks are what they were of any files that are gone, and blocks grow.
use Rattle.std.proofs.Common.{◌≡◌, ◌-◌, ◌≤◌, ℕ, Bool}
use Rattle.checkout.specs.UnlinkedFiles.{AreMarks}
use Rattle.checkout.proofs.unlinked_files.join.Given as goal

abbrev pub invariant-loop-half : goal.invariant-loop-half
invariant-loop-half l = record {
  half : 1 ≤ l.half;
  room : l.marks.room ≡ l.initial.marks.room;
  marks : (gone : ℕ → Bool) → AreMarks gone l.initial.marks → AreMarks gone l.marks;
}

abbrev pub decreases-loop-half : goal.decreases-loop-half
decreases-loop-half l = 16777216 - l.half
