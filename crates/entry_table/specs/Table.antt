-- The table as it is seen: its entries, the files that are remembered of them, and the notes of its user.
use Rattle.std.specs.Prelude.{◌≡◌, ℕ, ◌==◌, Bool, true, not, List, Option, Some, None}
use Rattle.std.specs.List.{filter, AllByRecursion}
use Rattle.std.specs.Map.{lookup}
use Rattle.std.specs.BTreeMap.{insert_entry}
use Rattle.std.specs.Ordering.{nat_cmp}
use Rattle.eden_base.specs.declared.number.FileId.{FileId}
use Rattle.eden_base.specs.declared.number.Number.{Number}
use Rattle.eden_base.specs.declared.place.Place.TheVariants.{Linked}
use Rattle.entry_table.specs.Entries.{entry_of, is_kept}
use Rattle.entry_table.specs.declared.kept.Kept.{Kept}
use Rattle.entry_table.specs.declared.kept.Entry.{Entry}

-- What contracts see of a table: its entries, the files remembered of them, and its user's notes of them, each list by
-- rising number. Also the next number, and how many numbers are reserved: 1 or 0.
pub record TableState : Type 0 where
  pub entries : List Kept
  pub remembered : List (ℕ × FileId)
  pub notes : List (ℕ × ℕ)
  pub next : ℕ
  pub spare : ℕ

-- the entry of number `n`, as it is kept with its number
abbrev pub kept_of : ℕ → Entry → Kept
kept_of n entry = record { number = record { 0 = n }; place = entry.place; count = entry.count }

-- the entry of number `n` stands under a name in the directory of number `dir`
abbrev pub IsIn : List Kept → ℕ → Number → Type 0
IsIn entries n dir =
    (kept : Kept) × (name : List ℕ) × (entry_of entries n ≡ Some kept) × (kept.place ≡ Linked dir name)

-- whether `m` is another number than `n`
abbrev pub is_other : ℕ → ℕ → Bool
is_other n m = not (m == n)

-- the notes of all numbers but `n`
abbrev pub without_note : List (ℕ × ℕ) → ℕ → List (ℕ × ℕ)
without_note notes n = filter (λ (note : ℕ × ℕ). is_other n note.0) notes

-- the note of number `n`, if there is one
abbrev pub note_of : List (ℕ × ℕ) → ℕ → Option ℕ
note_of notes n = lookup (λ (m : ℕ). m == n) notes

-- the notes, after number `n` was given this note, or lost its note
abbrev pub noted : List (ℕ × ℕ) → ℕ → Option ℕ → List (ℕ × ℕ)
noted notes n (Some note) = insert_entry nat_cmp notes n note
noted notes n None = without_note notes n

-- the table with these entries, and without the file and the note of number `n`
abbrev pub without_entry : TableState → ℕ → List Kept → TableState
without_entry table n entries =
    record table {
      entries = entries;
      remembered = filter (λ (file : ℕ × FileId). is_other n file.0) table.remembered;
      notes = without_note table.notes n;
    }

-- each element's number, by `number`, has an entry
abbrev pub AreOfKept : {X : Type 0} → (X → ℕ) → List Kept → List X → Type 0
AreOfKept number entries xs = AllByRecursion (λ x. is_kept entries (number x) ≡ true) xs

-- the number of which a file is remembered
abbrev pub file_number : ℕ × FileId → ℕ
file_number file = file.0
