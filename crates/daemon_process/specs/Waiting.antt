-- Replies that wait in channels for the bytes of files. (This project's own.)
use Rattle.std.specs.Prelude.{ℕ, ◌*◌, ◌/◌, Bool, List, max, nat_lt}
use Rattle.std.specs.List.{list_any}

-- Below, `waiting` is how many replies wait in a channel.

-- whether replies wait in one of these channels
abbrev pub has_waiting : {C : Type 0} → (C → ℕ) → List C → Bool
has_waiting {C} waiting channels = list_any (λ (channel : C). nat_lt 0 (waiting channel)) channels

-- how many nanoseconds each of so many reads gets: whole milliseconds, of which all of them get so many at most
abbrev pub share_of : ℕ → ℕ → ℕ
share_of milliseconds count = milliseconds / max count 1 * 1_000_000
