-- How much of a wait is counted. Moments and times are in nanoseconds. (This project's own.)
use Rattle.std.specs.Prelude.{ℕ, ◌-◌, min, Option, Some, None}
use Rattle.std.specs.Time.{instant_nanos}
use Rattle.std.specs.declared.time.Instant.{Instant}

-- the longest sleep between two looks: a tenth of a second
abbrev pub longest_slice : ℕ
longest_slice = 100_000_000

-- what a look counts behind one at `looked`: the time between them, but 300 milliseconds at most
abbrev pub counted : ℕ → ℕ → ℕ
counted looked now = min (now - looked) 300_000_000

-- what is left of a wait after a look; nothing where the clock told no time
abbrev pub left_after : ℕ → Option Instant → Option Instant → ℕ
left_after left (Some looked) (Some now) = left - counted (instant_nanos looked) (instant_nanos now)
left_after left looked now = 0
