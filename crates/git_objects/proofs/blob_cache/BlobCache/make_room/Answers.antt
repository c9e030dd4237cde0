-- Where the room is free all that is left fits, and else the last one doesn't.
use Rattle.std.proofs.Common.{arith, sym, ◌∙◌, ◌-◌, ◌<◌, ◌≤◌, length, length-take-le}
use Rattle.git_objects.specs.BlobCache.{held_by}
use Rattle.git_objects.proofs.Keeping.{fits_all, front_fits, some_held}
use Rattle.git_objects.proofs.blob_cache.BlobCache.make_room.Goals as goal

pub returns-then-self-room-clause-entries : goal.returns-then-self-room-clause-entries
returns-then-self-room-clause-entries c =
    let cache = c.loop-blob.self in
    let before = c.loop-blob.invariant in
    let fits : held_by cache.kept.entries ≤ c.args.self.now.bound - c.args.room = omega (arith, cache.counted) in
    sym (fits_all _ cache.kept.entries fits) ∙ before.0

pub loop-blob-preserved : goal.loop-blob-preserved
loop-blob-preserved c =
    let cache = c.loop-blob.self in
    let es = cache.kept.entries in
    let before = c.loop-blob.invariant in
    let over : c.args.self.now.bound - c.args.room < held_by es = omega (arith, cache.counted) in
    let some = some_held es _ over in
    let short = length-take-le (length es - 1) es (omega arith) in (
      rw c.let_go.ensures.entries (front_fits _ es over ∙ before.0),
      c.let_go.ensures.bound ∙ before.1,
      rw c.let_go.ensures.entries (omega (arith, short, some)),
      before.3,
    )
