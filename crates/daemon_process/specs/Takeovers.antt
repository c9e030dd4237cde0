-- How long a daemon waits for another one. (This project's own.)
use Rattle.std.specs.Prelude.{ℕ}
use Rattle.takeover_core.specs.declared.phase.Phase.{Phase}
use Rattle.takeover_core.specs.declared.phase.Phase.TheVariants.{Handed}

-- how many times the patience another daemon may be silent
abbrev pub times_of : Phase → ℕ
times_of (Handed generation session) = 10
times_of phase = 1
