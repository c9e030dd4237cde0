-- How an index of names lists its links.
use Rattle.std.specs.Prelude.{ℕ, List, Some}
use Rattle.eden_base.specs.declared.number.FileId.{FileId}
use Rattle.manifest.specs.declared.link_change.LinkChange.{LinkChange}

-- a link as a change that added it
abbrev pub added_change : (ℕ × List ℕ) × FileId → LinkChange
added_change link = record { dir = record { 0 = link.0.0 }; name = link.0.1; target = Some link.1 }
