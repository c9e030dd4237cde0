-- A table with the entries of use only, and what is loaded and remembered of them.
use Rattle.std.specs.Prelude.{ℕ, List}
use Rattle.std.specs.List.{filter}
use Rattle.entry_table.specs.Entries.{is_kept}
use Rattle.entry_table.specs.Table.{TableState, file_number}
use Rattle.entry_table.specs.declared.kept.Kept.{Kept}
use Rattle.inode_map.specs.InodeMap.{left_of_use}

-- those of a list whose number has an entry
abbrev pub of_kept : {X : Type 0} → (X → ℕ) → List Kept → List X → List X
of_kept number entries xs = filter (λ x. is_kept entries (number x)) xs

-- the table with the entries of use only, what is remembered of them, and these notes
abbrev pub pruned : TableState → List (ℕ × ℕ) → TableState
pruned table notes = record table {
  entries = left_of_use table.entries;
  remembered = of_kept file_number (left_of_use table.entries) table.remembered;
  notes = notes;
}
