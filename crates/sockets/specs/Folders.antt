-- The folders in which sockets are made. (This project's own.)
use Rattle.std.specs.Prelude.{ℕ, ◌-◌, nat_lt, Bool}

-- whether an empty folder is of a process that is gone, by when it was changed last and the time now, in nanoseconds
-- since 1970: more than 60 seconds went by
abbrev pub is_old : ℕ → ℕ → Bool
is_old changed now = nat_lt 60_000_000_000 (now - changed)
