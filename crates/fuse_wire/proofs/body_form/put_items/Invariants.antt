use Rattle.std.proofs.Common.{take}
use Rattle.fuse_wire.proofs.Written.{AreWritten}
use Rattle.fuse_wire.proofs.body_form.put_items.Given as goal

abbrev pub invariant-loop-item : goal.invariant-loop-item
invariant-loop-item l = AreWritten l.initial.fields l.fields (take l.item-index l.items)
