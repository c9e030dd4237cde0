-- What wakes the script of a broker, and what is answered to a daemon that mounts. (This project's own.)
use Rattle.std.specs.Prelude.{ℕ, ◌==◌, Bool, true, false, if◌then◌else◌}
use Rattle.broker_script.specs.declared.awaited.Awaited.{Awaited}
use Rattle.broker_script.specs.declared.awaited.Awaited.TheVariants as awaited
use Rattle.frames.specs.declared.frame.Frame.{Frame}
use Rattle.frames.specs.declared.frame.Frame.TheVariants.{Ask, Empty, Posted, Claimed, Mounted}
use Rattle.broker_process.specs.declared.shared_desk.Agreed.{Agreed}
use Rattle.broker_process.specs.declared.shared_desk.Agreed.TheVariants.{Always, NotYet, To}
use Rattle.broker_process.specs.declared.shared_desk.Granted.{Granted}
use Rattle.broker_process.specs.declared.shared_desk.Granted.TheVariants.{Now, Later, Never}
use Rattle.broker_process.specs.declared.shared_desk.Waiting.{Waiting}
use Rattle.broker_process.specs.declared.shared_desk.Waiting.TheVariants.{Reply, Seat, Idle}

-- whether a script that waits for this is woken by the answer to a daemon: a posted reply, a seat that was mounted or
-- claimed, or an ask or a forget that was taken
abbrev pub wakes : Waiting → Frame → Bool
wakes Reply Posted = true
wakes Seat (Mounted generation) = true
wakes Seat (Claimed generation) = true
wakes Idle (Ask text) = true
wakes waiting frame = false

-- what a script waits for, by what it awaits
abbrev pub waiting_for : Awaited → Waiting
waiting_for (awaited.Reply unique) = Reply
waiting_for (awaited.Seat generation) = Seat
waiting_for awaited.Idle = Idle

-- whether a Take found nothing
abbrev pub is_empty : Frame → Bool
is_empty Empty = true
is_empty frame = false

-- what is answered to a daemon that mounted at this generation, by what the kernel agreed to and by whether nobody has
-- the seat: where the kernel did not agree to this mount, it may yet, unless the mount is over
abbrev pub granted_by : Agreed → Bool → ℕ → Granted
granted_by Always is_free generation = Now
granted_by NotYet is_free generation = if is_free then Never else Later
granted_by (To made) is_free generation = if made == generation then Now else if is_free then Never else Later
