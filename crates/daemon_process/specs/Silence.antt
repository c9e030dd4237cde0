-- Whether a daemon says that its broker is silent. (This project's own.)
use Rattle.std.specs.Prelude.{ℕ, ◌==◌, ◌&&◌, Bool}

-- Below, `silent` is how many of a daemon's threads had no answer of the broker for long.

-- whether it is said that the broker is silent, as one more thread has no answer: it is the only one
abbrev pub says_silent : ℕ → Bool
says_silent silent = silent == 0

-- whether it is said that the broker answers again, as one of the threads waits no more, by whether it was answered: it
-- was the last one
abbrev pub says_answered : ℕ → Bool → Bool
says_answered silent is_answered = is_answered && silent == 1
