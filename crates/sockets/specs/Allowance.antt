-- How a wait counts time. (This project's own.)
use Rattle.std.specs.Prelude.{ℕ, ◌-◌, ◌==◌, ◌&&◌, min, Bool}
use Rattle.std.specs.Duration.{as_nanos}
use Rattle.std.specs.Time.{instant_nanos}
use Rattle.sockets.specs.declared.allowance.Allowance.{Allowance}

-- Below, times are in nanoseconds.

-- how long a socket waits at a time
abbrev pub longest_slice : ℕ
longest_slice = 100_000_000

-- how much one look at an allowance counts at most, whatever the clock says went by: three slices
abbrev pub most_counted : ℕ
most_counted = 300_000_000

-- what a look counts of the time from the last look to this one; nothing if the clock went back
abbrev pub counted : ℕ → ℕ → ℕ
counted looked now = min (now - looked) most_counted

-- what is left of an allowance after a look at this time
abbrev pub left_after : Allowance → ℕ → ℕ
left_after allowance now = as_nanos allowance.left - counted (instant_nanos allowance.looked) now

-- whether nothing is left of an allowance
abbrev pub is_spent : Allowance → Bool
is_spent allowance = as_nanos allowance.left == 0

-- whether so much is left of one allowance as of another one, at the same look
abbrev pub is_like : Allowance → Allowance → Bool
is_like one another =
    (instant_nanos one.looked == instant_nanos another.looked) && (as_nanos one.left == as_nanos another.left)
