-- The faults with which a new file is refused.
use Rattle.std.specs.Prelude.{◌≡◌, ◌<◌}
use Rattle.eden_base.specs.Limits.{end_of_files}
use Rattle.checkout.specs.declared.fault.CreateFault.{CreateFault}
use Rattle.checkout.specs.declared.fault.CreateFault.TheVariants.{NoFileId, NoMemory}
use Rattle.manifest.specs.Tree.{Tree}

-- the fault is right: with `NoFileId` no id is left, and with `NoMemory` an id is left
abbrev pub IsCreateRefusal : Tree → CreateFault → Type 0
IsCreateRefusal tree NoFileId = tree.next_file ≡ end_of_files
IsCreateRefusal tree NoMemory = tree.next_file < end_of_files
