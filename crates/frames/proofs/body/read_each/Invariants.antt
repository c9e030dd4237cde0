use Rattle.std.proofs.Common.{◌≡◌, ◌*◌, ◌≤◌, ◌-◌, ◌++◌, length}
use Rattle.frames.specs.Reading.{numbers_at}
use Rattle.frames.proofs.body.read_each.Given as goal

abbrev pub invariant-loop : goal.invariant-loop
invariant-loop l =
    (length l.rest ≡ 2 * (l.count - l.counter))
    × (length l.versions.items ≡ l.counter)
    × (l.counter ≤ l.count)
    × (l.versions.items ++ numbers_at (l.count - l.counter) l.rest ≡ numbers_at l.count l.bytes)
