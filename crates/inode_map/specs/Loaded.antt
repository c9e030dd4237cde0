-- The loaded attributes in their nodes, and the notes that name these.
use Rattle.std.specs.Prelude.{◌≡◌, ℕ, List, Some}
use Rattle.std.specs.Map.{values_of}
use Rattle.entry_table.specs.Table.{note_of}
use Rattle.inode_map.specs.declared.loaded.LoadedAttr.{LoadedAttr}
use Rattle.node_arena.specs.Arena.{Arena, value_at}
use Rattle.node_arena.specs.declared.slot.Slot.{Slot}

-- the loaded attributes, the most recent first
abbrev pub attrs_in : Arena LoadedAttr → List LoadedAttr
attrs_in nodes = values_of nodes.entries

-- the slot that a note says
abbrev pub slot_noted : ℕ → Slot
slot_noted note = record { index = note }

-- entries and nodes name each other: a slot that an entry notes holds the attributes of the entry's number, and the
-- entry of the number of loaded attributes notes their slot
pub record AreNamed (notes : List (ℕ × ℕ)) (nodes : Arena LoadedAttr) : Type 0 where
  pub noted : (n note : ℕ) → note_of notes n ≡ Some note →
      (loaded : LoadedAttr) × (value_at nodes (slot_noted note) ≡ Some loaded) × (loaded.number.0 ≡ n)
  pub held : (slot : Slot) (loaded : LoadedAttr) → value_at nodes slot ≡ Some loaded →
      note_of notes loaded.number.0 ≡ Some slot.index
