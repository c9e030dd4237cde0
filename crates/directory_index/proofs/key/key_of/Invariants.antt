-- What is left makes of the key so far what all bytes make of the first key.
use Rattle.std.proofs.Common.{◌≡◌, length}
use Rattle.directory_index.specs.Keys.{eights, key_with_all}
use Rattle.directory_index.proofs.key.key_of.Given as goal

abbrev pub invariant-loop-word : goal.invariant-loop-word
invariant-loop-word l = key_with_all l.key (eights l.rest) ≡ key_with_all l.initial.key (eights l.bytes)

abbrev pub decreases-loop-word : goal.decreases-loop-word
decreases-loop-word l = length l.rest
