-- What a contract sees of `NodeArena`: an arena. Its definitions are this project's own.
use Rattle.std.specs.Prelude.{ℕ, ◌-◌, ◌≤◌, Bool, ◌==◌, List, ◌∷◌, length, slice_get, Option, IsSome, refl}
use Rattle.std.specs.List.{IsDistinct}
use Rattle.std.specs.Map.{keys_of, lookup, remove_entry, set_value}
use Rattle.std.specs.Option.{option_map_or}
use Rattle.std.specs.Coded.{Coded, code_by, coded×, coded_list, coded_ℕ}
use Rattle.node_arena.specs.declared.slot.Slot.{Slot}

-- an arena: the held slots with their values, the most recently used first, and how many there may be
pub record Arena (X : Type 0) : Type 0 where
  pub entries : List (Slot × X)
  pub capacity : ℕ

-- whether two slots are the same
abbrev pub is_slot : Slot → Slot → Bool
is_slot s t = s.index == t.index

-- the coding of a slot as its index
abbrev pub slot_code : Coded Slot
slot_code = code_by ℕ coded_ℕ (λ s. s.index) (λ k. record { index = k }) (λ _. refl)

module _ {X : Type 0} where
  -- an arena of these entries and this capacity
  abbrev pub arena : List (Slot × X) → ℕ → Arena X
  arena es n = record { entries = es; capacity = n }

  -- the coding of an arena as its entries and its capacity
  abbrev pub arena_code : Coded X → Coded (Arena X)
  arena_code x =
      code_by (List (Slot × X) × ℕ) (coded× (coded_list (coded× slot_code x)) coded_ℕ)
      (λ a. (a.entries, a.capacity)) (λ p. arena p.0 p.1) (λ _. refl)

  -- the held slots, the most recently used first
  abbrev pub slots_of : Arena X → List Slot
  slots_of a = keys_of a.entries

  -- the value of a slot, if the slot is held
  abbrev pub value_at : Arena X → Slot → Option X
  value_at a s = lookup (is_slot s) a.entries

  -- the slot has a value
  abbrev pub IsHeld : Arena X → Slot → Type 0
  IsHeld a s = IsSome (value_at a s)

  -- the slot that was used the longest time ago, if there is one
  abbrev pub oldest_of : Arena X → Option Slot
  oldest_of a = slice_get (slots_of a) (length (slots_of a) - 1)

  -- the arena with one more slot and its value, as the most recently used
  abbrev pub with_first : Arena X → Slot → X → Arena X
  with_first a s x = arena ((s, x) ∷ a.entries) a.capacity

  -- the arena without this slot and its value
  abbrev pub without : Arena X → Slot → Arena X
  without a s = arena (remove_entry (is_slot s) a.entries) a.capacity

  -- the arena with this slot moved to the front, if it is held
  abbrev pub touched : Arena X → Slot → Arena X
  touched a s = option_map_or (λ x. with_first (without a s) s x) (value_at a s) a

  -- the arena with another value for this slot, whose position in the order is unchanged
  abbrev pub with_value : Arena X → Slot → X → Arena X
  with_value a s x = arena (set_value (is_slot s) a.entries x) a.capacity

  -- no slot is listed twice, and there are at most as many slots as the capacity, which is 1 to 65,536
  pub record IsSound (a : Arena X) : Type 0 where
    pub distinct : IsDistinct is_slot (slots_of a)
    pub within : length a.entries ≤ a.capacity
    pub least : 1 ≤ a.capacity
    pub most : a.capacity ≤ 65536
