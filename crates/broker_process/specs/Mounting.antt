-- What a broker over a real mount prints: a line when a mount begins, and one when it ends. (This project's own.)
use Rattle.std.specs.Prelude.{⊤, ℕ, ◌⊎◌, List, [], ◌++◌, map, Result, Ok, Err, Option, codes}
use Rattle.std.specs.Fmt.{decimal}
use Rattle.std.specs.Io.KnownBytes.{Appends}
use Rattle.std.specs.List.{concat}
use Rattle.broker_process.specs.declared.fault.MountRunFault.{MountRunFault}
use Rattle.broker_process.specs.declared.service.MountEnd.{MountEnd}
use Rattle.broker_process.specs.declared.service.MountEnd.TheVariants.{Unmounted, Dead}

-- the line of a mount that began for the daemon of the seat at this generation
abbrev pub mounted_line : ℕ → List ℕ
mounted_line generation = codes "mounted " ++ decimal generation ++ codes "\n"

-- the line of a mount's end
abbrev pub end_line : MountEnd → List ℕ
end_line Unmounted = codes "ended\n"
end_line Dead = codes "dead\n"

-- the lines of a mount that began at this generation, and ended so
abbrev pub lines_by : MountEnd → ℕ → List ℕ
lines_by end generation = mounted_line generation ++ end_line end

-- the lines of mounts whose daemons died, one mount after the other
abbrev pub PrintsDead : Option (List ℕ) → Option (List ℕ) → Type 0
PrintsDead old new = (generations : List ℕ) × Appends old new (concat (map (lines_by Dead) generations))

-- the same, and then the lines of one more mount
abbrev pub PrintsThen : (ℕ → List ℕ) → Option (List ℕ) → Option (List ℕ) → Type 0
PrintsThen lines old new = (mid : Option (List ℕ)) × PrintsDead old mid × ((generation : ℕ) × Appends mid new (lines generation))

-- one mount of a generation prints its line, if it begins
abbrev pub PrintsMount : ℕ → Result MountEnd MountRunFault → Option (List ℕ) → Option (List ℕ) → Type 0
PrintsMount generation (Ok end) old new = Appends old new (mounted_line generation)
PrintsMount generation (Err fault) old new = Appends old new [] ⊎ Appends old new (mounted_line generation)

-- A broker over a mount ends well once somebody unmounted. If it fails, its last mount never began, or did not end.
abbrev pub RunsMount : Result (Unit {0}) MountRunFault → Option (List ℕ) → Option (List ℕ) → Type 0
RunsMount (Ok done) old new = PrintsThen (lines_by Unmounted) old new
RunsMount (Err fault) old new = PrintsDead old new ⊎ PrintsThen mounted_line old new
