-- What holds of the rooms of the queues, whatever becomes of them, so that only an issue takes memory.
use Rattle.std.specs.Prelude.{◌≡◌, ℕ, ◌+◌, ◌-◌, ◌*◌, ◌≤◌, Bool, false, nat_le, List, length, take, map, ◌++◌, vec_len}
use Rattle.std.specs.Option.{option_map_or}
use Rattle.std.specs.VecDeque.{deque_len, deque_capacity}
use Rattle.fuse_wire.specs.declared.request.Ask.{Ask}
use Rattle.broker_core.specs.Rising.{IsRising}
use Rattle.broker_core.specs.Traffic.{front, asked_of}
use Rattle.fuse_wire.specs.declared.form.Form.{Form}
use Rattle.broker_core.specs.declared.forgets.Forgets.TheInside.{Inside as Forgets}
use Rattle.broker_core.specs.declared.traffic.Traffic.TheInside.{Inside as Traffic}

-- there are as many rooms as waiting items need, at 256 items a batch
abbrev pub IsRoomyForBatches : Forgets → Type 0
IsRoomyForBatches forgets = deque_len forgets.items ≤ 256 * vec_len forgets.rooms

-- the taken asks among those without a reply: all before the untaken ones
abbrev pub taken_among : List (ℕ × Form) → List Ask → List (ℕ × Form)
taken_among unanswered untaken = take (length unanswered - length untaken) unanswered

-- there is an untaken ask, and this unique is at least that of the first one
abbrev pub is_not_before : List Ask → ℕ → Bool
is_not_before untaken unique = option_map_or (λ ask. nat_le ask.unique unique) (front untaken) false

-- the asks without a reply are the taken ones and then the untaken ones, and there is room for a reply to each
pub record IsRoomyForReplies (traffic : Traffic) : Type 0 where
  pub rising : IsRising traffic.unanswered
  pub parts : traffic.unanswered
      ≡ taken_among traffic.unanswered traffic.untaken.items ++ map asked_of traffic.untaken.items
  pub room : deque_len traffic.posted + length traffic.unanswered ≤ deque_capacity traffic.posted
