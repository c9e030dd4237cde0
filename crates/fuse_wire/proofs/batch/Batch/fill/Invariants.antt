use Rattle.std.proofs.Common.{◌≡◌, ◌≤◌, ◌*◌, vec_len, vec_capacity}
use Rattle.fuse_wire.proofs.ItemsRead.{AreRead}
use Rattle.fuse_wire.proofs.batch.Batch.fill.Given as goal

abbrev pub invariant-loop : goal.invariant-loop
invariant-loop l = (l.fields.bytes.now ≡ l.bytes) × (l.fields.at ≡ 16 * l.counter) × (vec_len l.items ≡ l.counter) × (l.count ≤ vec_capacity l.items) × AreRead l.items.items l.counter l.count l.bytes
