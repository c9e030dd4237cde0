-- The list is a chain so far.
use Rattle.std.proofs.Common.{◌≡◌, ◌≤◌, ◌-◌, length}
use Rattle.std.specs.Vec.{vec_len}
use Rattle.measure.specs.Chain.{IsChain}
use Rattle.measure.proofs.map.list_chain.Given as goal

abbrev pub invariant-loop-alloc : goal.invariant-loop-alloc
invariant-loop-alloc l = record {
  chain : IsChain 2 l.list.items;
  counted : length l.list.items ≡ vec_len l.list;
  few : vec_len l.list ≤ l.entries;
}

abbrev pub decreases-loop-alloc : goal.decreases-loop-alloc
decreases-loop-alloc l = l.entries - vec_len l.list
