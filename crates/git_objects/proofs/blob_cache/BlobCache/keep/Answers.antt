-- One more blob stands first, among those that leave room for it.
use Rattle.std.proofs.Common.{arith, sym, ap, ◌∙◌, ◌-◌, ◌≡◌, List, false, is_some}
use Rattle.std.specs.Map.{lookup}
use Rattle.lru.specs.LruCache.{LruCache}
use Rattle.git_objects.specs.BlobCache.{held_by, same_id}
use Rattle.git_objects.specs.declared.blob_cache.Kept.{Kept}
use Rattle.git_objects.proofs.Keeping.{put_kept}
use Rattle.git_objects.proofs.blob_cache.BlobCache.keep.Goals as goal

pub invariant_of-self-clause-counted : goal.invariant_of-self-clause-counted
invariant_of-self-clause-counted c =
    let gone : is_some (lookup (same_id c.args.blob.object) c.args.self.now.kept.entries) ≡ false = sym c.contains.ensures ∙ c.if-contains.false in
    let before = c.make_room.new.self in
    let put = put_kept (c.args.self.now.bound - c.cost_of-cost.result) before.kept.cap c.args.self.now.kept.entries before.kept.entries c.args.blob.object
    (record { blob = c.args.blob; cost = c.cost_of-cost.result }) gone c.make_room.ensures.entries c.make_room.ensures.few before.unlimited in
    let held = ap held_by (ap (λ (k : LruCache (List _) Kept). k.entries) c.in-Ok.ensures.entries ∙ put) in
    let was = ap held_by c.make_room.ensures.entries in
    omega (arith, held, was, before.counted)

pub returns-in-Ok-clause-entries : goal.returns-in-Ok-clause-entries
returns-in-Ok-clause-entries c =
    let gone : is_some (lookup (same_id c.args.blob.object) c.args.self.now.kept.entries) ≡ false = sym c.contains.ensures ∙ c.if-contains.false in
    let before = c.make_room.new.self in
    let put = put_kept (c.args.self.now.bound - c.cost_of-cost.result) before.kept.cap c.args.self.now.kept.entries before.kept.entries c.args.blob.object
    (record { blob = c.args.blob; cost = c.cost_of-cost.result }) gone c.make_room.ensures.entries c.make_room.ensures.few before.unlimited in
    let entries = ap (λ (k : LruCache (List _) Kept). k.entries) c.in-Ok.ensures.entries ∙ put in
    rw (gone, ← c.cost_of-cost.ensures.cost) entries
