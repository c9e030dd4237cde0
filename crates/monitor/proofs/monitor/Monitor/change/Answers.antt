-- The change was called once, at the value under the lock.
use Rattle.std.proofs.Common.{refl}
use Rattle.monitor.proofs.monitor.Monitor.change.Goals as goal

pub returns : goal.returns
returns g c = record {
  changed = (c.deref_mut.result.now, _, record { shown = c.deref_mut.result; shows = refl; left = _; met = c.change-changed.ensures; leaves = refl });
}
