-- The numbers that the kernel holds: the lookup counts of libfuse's `fuse_lowlevel.h`, seen from the kernel's side.
use Rattle.std.specs.Prelude.{◌≡◌, ℕ, ◌+◌, ◌-◌, ◌<◌, nat_le, List, Option, Some, None, if◌then◌else◌}
use Rattle.std.specs.Option.{unwrap_or}
use Rattle.std.specs.Ordering.{nat_cmp}
use Rattle.std.specs.Coded.{Coded, coded_ℕ}
use Rattle.std.specs.FinMap as map
use Rattle.eden_base.specs.declared.number.Number.{Number}

-- a map from each held number to its lookup count
abbrev pub HeldMap : Type 0
HeldMap = map.FinMap nat_cmp ℕ

-- the coding of a map as a list, for the type that contracts see as a map
abbrev pub held_map_code : Coded HeldMap
held_map_code = map.code coded_ℕ coded_ℕ

-- the map of a list of numbers with their counts
abbrev pub map_of : List (ℕ × ℕ) → HeldMap
map_of = map.from_entries

-- how often the kernel holds a number
abbrev pub held_count : HeldMap → ℕ → ℕ
held_count held n = unwrap_or (map.get held n) 0

-- the map in which no number is held
abbrev pub none_held : HeldMap
none_held = map.empty

-- the map after the count of a number rose by 1
abbrev pub raised : HeldMap → ℕ → HeldMap
raised held n = map.insert held n (held_count held n + 1)

-- the map after the count of a number fell by k; at 0 the number is no longer in the map
abbrev pub lowered : HeldMap → ℕ → ℕ → HeldMap
lowered held n k =
    if nat_le (held_count held n) k then map.remove held n
    else map.insert held n (held_count held n - k)

-- this is the least held number above n, or None if no number above n is held
abbrev pub IsLeastHeldAfter : HeldMap → ℕ → Option Number → Type 0
IsLeastHeldAfter held n None = (m : ℕ) → n < m → held_count held m ≡ 0
IsLeastHeldAfter held n (Some next) =
    (n < next.0) × (0 < held_count held next.0) × ((m : ℕ) → n < m → m < next.0 → held_count held m ≡ 0)
