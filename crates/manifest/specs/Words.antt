-- The words for faults of a manifest. (This project's own.)
use Rattle.std.specs.Prelude.{ℕ, List, codes}
use Rattle.manifest.specs.declared.fault.ManifestFaultKind.{ManifestFaultKind}
use Rattle.manifest.specs.declared.fault.ManifestFaultKind.TheVariants as kind

-- the word for what is wrong with a line
abbrev pub kind_text : ManifestFaultKind → List ℕ
kind_text kind.NoCommit = codes "NoCommit"
kind_text kind.BadLine = codes "BadLine"
kind_text kind.BadMode = codes "BadMode"
kind_text kind.BadSize = codes "BadSize"
kind_text kind.BadPath = codes "BadPath"
kind_text kind.NoParent = codes "NoParent"
kind_text kind.Twice = codes "Twice"
kind_text kind.TooManyLines = codes "TooManyLines"
kind_text kind.NoMemory = codes "NoMemory"
