-- The messages that were made, and those of the parts that are left.
use Rattle.std.proofs.Common.{◌≡◌, ◌≤◌, ◌+◌, ◌++◌, length, vec_len, vec_capacity}
use Rattle.std.specs.Vec.Iter.{into_iter_items, into_iter_len}
use Rattle.daemon.specs.Talking.{numbered}
use Rattle.daemon.proofs.handing.messages_of.Given as goal

abbrev pub invariant-loop-part : goal.invariant-loop-part
invariant-loop-part l =
    (goal.iterator-loop-part).can_next l.part-iterator
    × (goal.iterator-loop-part).is_finite l.part-iterator
    × (l.position + into_iter_len l.part-iterator ≡ l.count)
    × (into_iter_len l.part-iterator ≡ length (into_iter_items l.part-iterator))
    × (vec_len l.others + into_iter_len l.part-iterator ≤ vec_capacity l.others)
    × (l.others.items ++ numbered l.session l.generation l.count (l.position + 1) (into_iter_items l.part-iterator) ≡ numbered l.session l.generation l.count 2 (into_iter_items l.initial.part-iterator))
