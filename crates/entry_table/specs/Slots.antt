-- How the entries stand in the slots of their table.
use Rattle.std.specs.Prelude.{◌≡◌, ℕ, ◌+◌, ◌<◌, ◌≤◌, Bool, List, [], ◌∷◌, map, length, zip, Option, Some, None, if◌then◌else◌}
use Rattle.std.specs.List.{HoldsAt}
use Rattle.std.specs.Map.{lookup}
use Rattle.std.specs.BTreeMap.{is_at}
use Rattle.std.specs.Option.{option_and_then}
use Rattle.std.specs.Ordering.{nat_cmp}
use Rattle.eden_base.specs.declared.number.FileId.{FileId}
use Rattle.eden_base.specs.declared.number.Number.{Number}
use Rattle.entry_table.specs.Table.{kept_of}
use Rattle.entry_table.specs.declared.kept.Kept.{Kept}
use Rattle.entry_table.specs.declared.kept.Entry.{Entry}

-- what a slot holds of an entry at first: all but its number, with this file remembered and no note
abbrev pub held_of : Kept → FileId → Entry
held_of kept file = record { place = kept.place; count = kept.count; file = Some file; note = None }

-- the slot of an entry at first, with the file that is remembered of it
abbrev pub slot_of : Kept × FileId → ℕ × Option Entry
slot_of named = (named.0.number.0, Some (held_of named.0 named.1))

-- the slots of entries at first, with a file for each
abbrev pub slots_of : List Kept → List FileId → List (ℕ × Option Entry)
slots_of entries files = map slot_of (zip entries files)

-- the entries that stand in slots; a slot is empty once its entry was removed
abbrev pub kept_from : List (ℕ × Option Entry) → List Kept
kept_from [] = []
kept_from ((n, Some entry) ∷ slots) = kept_of n entry ∷ kept_from slots
kept_from ((n, None) ∷ slots) = kept_from slots

-- the number of the first entry, if there is one
abbrev pub first_number : List Kept → Option Number
first_number [] = None
first_number (kept ∷ entries) = Some kept.number

-- what stands in the slot of number `n`, if there is such a slot: an entry, or none
abbrev pub slot_at : List (ℕ × Option Entry) → ℕ → Option (Option Entry)
slot_at slots n = lookup (is_at (nat_cmp n)) slots

-- the entry in the slot of number `n`, if there is one
abbrev pub held_in : List (ℕ × Option Entry) → ℕ → Option Entry
held_in slots n = option_and_then (λ (entry : Option Entry). entry) (slot_at slots n)

-- the slot at this index is that of number `n`
abbrev pub IsIndexOf : List (ℕ × Option Entry) → ℕ → ℕ → Type 0
IsIndexOf slots n index = (index < length slots) × HoldsAt (λ (slot : ℕ × Option Entry). slot.0 ≡ n) slots index

-- the list `xs`, with `n` and its value put in front if there is a value
abbrev pub first_beside : {X : Type 0} → ℕ → Option X → List (ℕ × X) → List (ℕ × X)
first_beside n (Some x) xs = (n, x) ∷ xs
first_beside n None xs = xs

-- the values that `part` gives for the entries in slots, each with its number
abbrev pub all_beside : {X : Type 0} → (Entry → Option X) → List (ℕ × Option Entry) → List (ℕ × X)
all_beside part [] = []
all_beside part ((n, Some entry) ∷ slots) = first_beside n (part entry) (all_beside part slots)
all_beside part ((n, None) ∷ slots) = all_beside part slots

-- the file that is remembered of an entry, if there is one
abbrev pub file_beside : Entry → Option FileId
file_beside entry = entry.file

abbrev pub note_beside : Entry → Option ℕ
note_beside entry = entry.note

-- the files that are remembered of the entries in slots, each with its number
abbrev pub files_from : List (ℕ × Option Entry) → List (ℕ × FileId)
files_from slots = all_beside file_beside slots

abbrev pub notes_from : List (ℕ × Option Entry) → List (ℕ × ℕ)
notes_from slots = all_beside note_beside slots

-- how many numbers are reserved: 1 or 0
abbrev pub spare_of : Bool → ℕ
spare_of ready = if ready then 1 else 0

-- the numbers of the slots rise, are at least `low`, and are below `next`
abbrev pub AreSlots : ℕ → ℕ → List (ℕ × Option Entry) → Type 0
AreSlots low next [] = low ≤ next
AreSlots low next (slot ∷ slots) = (low ≤ slot.0) × AreSlots (slot.0 + 1) next slots

-- the numbers of the slots rise from 2, whichever number is next
abbrev pub IsSlots : List (ℕ × Option Entry) → Type 0
IsSlots slots = (next : ℕ) × AreSlots 2 next slots
