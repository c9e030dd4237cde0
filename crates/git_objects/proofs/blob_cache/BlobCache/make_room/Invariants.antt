use Rattle.std.proofs.Common.{◌≡◌, ◌+◌, ◌-◌, ◌<◌, ◌^◌, length}
use Rattle.git_objects.specs.BlobCache.{fitting}
use Rattle.git_objects.proofs.blob_cache.BlobCache.make_room.Given as goal

abbrev pub invariant-loop-blob : goal.invariant-loop-blob
invariant-loop-blob l =
    (fitting (l.fn.self.bound - l.room) l.self.kept.entries ≡ fitting (l.fn.self.bound - l.room) l.fn.self.kept.entries)
    × (l.self.bound ≡ l.fn.self.bound)
    × (length l.self.kept.entries + l._blob ≡ length l.fn.self.kept.entries)
    × (length l.fn.self.kept.entries < 2 ^ 63)
