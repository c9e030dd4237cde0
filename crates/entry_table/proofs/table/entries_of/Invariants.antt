use Rattle.std.proofs.Common.{◌≡◌, ◌++◌, drop}
use Rattle.std.specs.List.{AllByRecursion}
use Rattle.entry_table.specs.EntryPlaces.{IsNamedEntry}
use Rattle.entry_table.specs.Slots.{kept_from}
use Rattle.entry_table.proofs.table.entries_of.Given as goal

-- the entries so far, and those of the slots that are left; each is named
abbrev pub invariant-loop-number : goal.invariant-loop-number
invariant-loop-number l =
    (l.entries.items ++ kept_from (drop l.number-index l.slots) ≡ kept_from l.slots)
    × AllByRecursion IsNamedEntry l.entries.items
