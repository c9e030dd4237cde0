use Rattle.std.proofs.Common.{◌≡◌, ◌+◌, ◌≤◌, ◌++◌, take, length}
use Rattle.std.specs.Prelude.{map}
use Rattle.daemon.specs.Server.{single}
use Rattle.daemon.proofs.server.put_each.Given as goal

-- the items so far are in hand, and there is room for the others
abbrev pub invariant-loop-item : goal.invariant-loop-item
invariant-loop-item l = record {
  put : l.hand.members ≡ l.fn.hand.members ++ map single (take l.item-index l.items);
  room : length l.items ≤ l.hand.room + l.item-index;
}
