-- What was taken is the front of the list, and the rest is left.
use Rattle.std.proofs.Common.{◌≡◌, ◌≤◌, length, take, drop}
use Rattle.broker_core.proofs.forgets.first_items.Given as goal

abbrev pub invariant-loop : goal.invariant-loop
invariant-loop l = record {
  first : l.first ≡ take l.counter l.initial.items.items;
  left : l.items.items ≡ drop l.counter l.initial.items.items;
  few : length l.first ≤ l.counter;
}
