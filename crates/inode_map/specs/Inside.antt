-- What holds of the fields of an inode map.
use Rattle.std.specs.Prelude.{◌≤◌, None}
use Rattle.eden_base.specs.Limits.{end_of_numbers}
use Rattle.inode_map.specs.declared.inode_map.InodeMap.TheInside as map
use Rattle.entry_table.specs.EntryPlaces.{AreOfUseBut}
use Rattle.entry_table.specs.Entries.{AreNumbers}
use Rattle.inode_map.specs.InodeMap.{loaded_number}
use Rattle.inode_map.specs.Loaded.{attrs_in, AreNamed}
use Rattle.entry_table.specs.Table.{AreOfKept}

-- numbers rise and stay below the next, each entry is of use, and loaded attributes belong to an entry, which notes
-- their slot
pub record IsConsistent (m : map.Inside) : Type 0 where
  pub numbers : AreNumbers 2 m.table.next m.table.entries
  pub numbers_fit : m.table.next ≤ end_of_numbers
  pub of_use : AreOfUseBut None m.table.entries
  pub loaded : AreOfKept loaded_number m.table.entries (attrs_in m.loaded)
  pub named : AreNamed m.table.notes m.loaded
