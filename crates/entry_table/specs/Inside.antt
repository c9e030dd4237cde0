-- What is always true of the fields of a table.
use Rattle.std.specs.Prelude.{◌≡◌, ◌+◌, ◌<◌, ◌≤◌, true, vec_len, vec_capacity}
use Rattle.directory_index.specs.CountedIndex.{has_room}
use Rattle.entry_table.specs.declared.table.Table.TheInside as table
use Rattle.entry_table.specs.Slots.{AreSlots, kept_from, spare_of}
use Rattle.entry_table.specs.Standing.{place_of_number, IsIndexed}

-- The fields fit together: slots stand by rising number below the next one, and the index has each linked entry. If a
-- number is reserved, the index and the slots have room for it. The way has room for all slots, and for the reserved
-- one.
pub record IsTable (t : table.Inside) : Type 0 where
  pub slots : AreSlots 2 t.next t.slots.items
  pub indexed : IsIndexed (place_of_number (kept_from t.slots.items)) t.index
  pub ready : t.is_reserved ≡ true → has_room t.index ≡ true
  pub free : t.is_reserved ≡ true → vec_len t.slots < vec_capacity t.slots
  pub room : vec_len t.slots + spare_of t.is_reserved ≤ vec_capacity t.way
