-- How much longer somebody waits for a blob. Moments and times are in nanoseconds.
use Rattle.std.specs.Prelude.{◌≡◌, ℕ, Bool, true, false, Option}
use Rattle.std.specs.Duration.{as_nanos}
use Rattle.std.specs.declared.time.Instant.{Instant}
use Rattle.monitor.specs.Patience.{left_after}
use Rattle.git_objects.specs.declared.object_wait.ObjectWait.{ObjectWait}

-- how long the longest wait is in which nothing comes: twenty seconds
abbrev pub longest_wait : ℕ
longest_wait = 20_000_000_000

-- a wait begins at this moment, by when something had come so often
pub record IsBegun (now : Option Instant) (came : ℕ) (wait : ObjectWait) : Type 0 where
  pub left : as_nanos wait.patience.left ≡ longest_wait
  pub looked : wait.patience.looked ≡ now
  pub seen : wait.seen ≡ came

-- a wait goes on after a look at this moment, as nothing came since the last one
pub record IsLonger (was : ObjectWait) (now : Option Instant) (came : ℕ) (wait : ObjectWait) : Type 0 where
  pub left : as_nanos wait.patience.left ≡ left_after (as_nanos was.patience.left) was.patience.looked now
  pub looked : wait.patience.looked ≡ now
  pub seen : wait.seen ≡ came

-- a wait after a look, by whether something came since the last one: then it begins again
abbrev pub IsAfter : Bool → ObjectWait → Option Instant → ℕ → ObjectWait → Type 0
IsAfter true was now came wait = IsBegun now came wait
IsAfter false was now came wait = IsLonger was now came wait
