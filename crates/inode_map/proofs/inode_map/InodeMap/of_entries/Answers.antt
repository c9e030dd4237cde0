-- Each entry is of use, and nothing is loaded.
use Rattle.std.proofs.Common.{◌≡◌, true, inl}
use Rattle.entry_table.specs.Entries.{is_of_use}
use Rattle.entry_table.specs.declared.kept.Kept.{Kept}
use Rattle.entry_table.proofs.EntryRuns.{each-entry}
use Rattle.inode_map.proofs.inode_map.InodeMap.of_entries.Goals as goal

pub invariant_of-result : goal.invariant_of-result
invariant_of-result c =
    let es = c.args.named.entries.items in
    let are = c.requires.entries in
    record {
      numbers = rw c.in_ok-table.ensures.table are.numbers;
      numbers_fit = rw c.in_ok-table.ensures.table are.last;
      of_use = rw c.in_ok-table.ensures.table (λ n kept e. inl (each-entry es (λ (x : Kept). is_of_use es x ≡ true) n kept are.of_use e));
      loaded = rw c.in_ok-loaded.ensures tt;
      named = rw (c.in_ok-table.ensures.table, c.in_ok-loaded.ensures) (record { noted = λ n note at. absurd (let none : ⊥ = cc in none); held = λ s loaded at. absurd (let none : ⊥ = cc in none) });
    }
