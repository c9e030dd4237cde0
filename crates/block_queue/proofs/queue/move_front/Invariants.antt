use Rattle.std.proofs.Common.{◌≡◌, ◌+◌, ◌++◌, ◌≤◌}
use Rattle.std.specs.VecDeque.{deque_len, deque_capacity}
use Rattle.block_queue.proofs.queue.move_front.Given as goal

abbrev pub invariant-loop : goal.invariant-loop
invariant-loop g l =
    (l.ring.items ++ l.back.items ≡ l.initial.ring.items ++ l.initial.back.items)
    × (deque_len l.ring ≤ deque_len l.initial.ring + l.counter)
    × (deque_len l.ring + deque_len l.back ≡ deque_len l.initial.ring + deque_len l.initial.back)
    × (deque_len l.back ≤ deque_len l.initial.back)
    × (deque_capacity l.back ≡ deque_capacity l.initial.back)
    × (deque_capacity l.ring ≡ deque_capacity l.initial.ring)
