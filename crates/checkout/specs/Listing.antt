-- The lists of changes that the indexes of a tree make, each in the order of its index.
use Rattle.std.specs.Prelude.{ℕ, ◌+◌, ◌-◌, ◌<◌, ◌≤◌, Bool, not, List, length, Option, Some, None, is_some, if◌then◌else◌}
use Rattle.std.specs.List.{AllByRecursion, filter_map, slice_get}
use Rattle.std.specs.FinMap.{FinMap, get}
use Rattle.eden_base.specs.declared.number.FileId.{FileId}
use Rattle.manifest.specs.declared.link_change.LinkChange.{LinkChange}
use Rattle.checkout.specs.declared.changes.Made.{Made}
use Rattle.checkout.specs.declared.made.MadeFile.{MadeFile}
use Rattle.checkout.specs.BadChanges.{gives_same}
use Rattle.checkout.specs.Laying.{base_target}
use Rattle.manifest.specs.Manifest.{Line, Manifest}
use Rattle.manifest.specs.Tree.{link_cmp}

-- a made file, with its id
abbrev pub listed_file : ℕ × MadeFile → Made
listed_file e = record { file = record { 0 = e.0 }; kind = e.1.kind; perm = e.1.perm }

-- the change by which a line's place gives nothing. None if a link was added at this place, or if there is no line
abbrev pub gone_change : FinMap link_cmp FileId → Option Line → Option LinkChange
gone_change added None = None
gone_change added (Some line) =
    if is_some (get added (line.dir.0, line.name)) then None
    else Some (record { dir = line.dir; name = line.name; target = None })

-- the changes that `gone_change` makes of the lines of these files, in the order of the files
abbrev pub gone_changes : FinMap link_cmp FileId → List Line → List ℕ → List LinkChange
gone_changes added lines files = filter_map (λ file. gone_change added (slice_get lines (file - 2))) files

-- each of the files has a line in the manifest
abbrev pub HaveLines : List Line → List ℕ → Type 0
HaveLines lines files = AllByRecursion (λ file. (2 ≤ file) × (file < length lines + 2)) files

-- whether a changed link's target is another than the manifest has at this place; either may be None
abbrev pub differs : Manifest → LinkChange → Bool
differs m change = not (gives_same change.target (base_target m change))
