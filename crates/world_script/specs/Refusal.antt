-- Why a script is refused: for the first of these causes that holds: no line `--`, a bad manifest, a bad line after it.
-- (This project's own.)
use Rattle.std.specs.Prelude.{◌≡◌, ℕ, ◌+◌, ◌<◌, ◌≤◌, Bool, true, false, is_some, List, length, ⊤, Some, None, Ok, Err, option_map}
use Rattle.manifest.specs.Manifest.{Manifest}
use Rattle.manifest.specs.ManifestText.{manifest_of}
use Rattle.manifest.specs.declared.fault.ManifestFault.{ManifestFault}
use Rattle.manifest.specs.declared.fault.ManifestFaultKind.{ManifestFaultKind}
use Rattle.manifest.specs.declared.fault.ManifestFaultKind.TheVariants as kind
use Rattle.world_script.specs.declared.program_fault.ProgramFault.{ProgramFault}
use Rattle.world_script.specs.declared.program_fault.ProgramFault.TheVariants.{CannotRead, TooLong, NoEvents, BadManifest, BadLine, NoMemory, CannotWrite}
use Rattle.world_script.specs.declared.run_error.RunError.{RunError}
use Rattle.script_lines.specs.Lines.{lines_of}
use Rattle.world_script.specs.Parts.{lines_behind, first_bad, IsBadLine}
use Rattle.world_script.specs.Script.{SaysManifest, IsGood}

-- the program's fault for this fault of a manifest, by its kind
abbrev pub fault_by_kind : ManifestFault → ManifestFaultKind → ProgramFault
fault_by_kind fault kind.NoMemory = NoMemory
fault_by_kind fault _ = BadManifest fault

-- the program's fault for a fault of a manifest; out of memory is no fault of the manifest itself
abbrev pub fault_of_manifest : ManifestFault → ProgramFault
fault_of_manifest fault = fault_by_kind fault fault.kind

-- why lines were not all read as events; the first of them has this number in the script
abbrev pub IsEventsRefusal : List (List ℕ) → ℕ → ProgramFault → Type 0
IsEventsRefusal lines first (BadLine line) = option_map (λ i. first + i) (first_bad lines) ≡ Some line
IsEventsRefusal lines first NoMemory = ⊤
IsEventsRefusal lines first _ = ⊥

-- why a text was not read as a manifest
abbrev pub IsManifestFault : List ℕ → ProgramFault → Type 0
IsManifestFault text (BadManifest fault) = manifest_of text ≡ Err fault
IsManifestFault text NoMemory = ⊤
IsManifestFault text _ = ⊥

-- the text before the first marker is a manifest
abbrev pub HasManifest : List ℕ → Type 0
HasManifest script = (manifest : Manifest) × SaysManifest script (Ok manifest)

-- why a script's text was not read as a script
abbrev pub IsScriptRefusal : List ℕ → ProgramFault → Type 0
IsScriptRefusal script NoEvents = lines_behind (lines_of script) ≡ None
IsScriptRefusal script (BadManifest fault) = SaysManifest script (Err fault)
IsScriptRefusal script (BadLine line) = HasManifest script × IsBadLine script line
IsScriptRefusal script NoMemory = ⊤
IsScriptRefusal script _ = ⊥

-- why a script's bytes were not read
abbrev pub IsReadRefusal : ProgramFault → Type 0
IsReadRefusal CannotRead = ⊤
IsReadRefusal TooLong = ⊤
IsReadRefusal NoMemory = ⊤
IsReadRefusal _ = ⊥

-- whether the fault comes before anything of a script is run
abbrev pub comes_first : ProgramFault → Bool
comes_first CannotWrite = false
comes_first _ = true

-- whether the fault has a cause: an I/O error of the reader or of the writer
abbrev pub is_caused : ProgramFault → Bool
is_caused CannotRead = true
is_caused CannotWrite = true
is_caused _ = false

-- the error tells a cause exactly if its fault has one
abbrev pub IsCaused : RunError → Type 0
IsCaused error = is_some error.cause ≡ is_caused error.fault

-- why a script that was read whole is refused; a longer one is `too long`, whatever it says
abbrev pub IsShortRefusal : List ℕ → ProgramFault → Type 0
IsShortRefusal script fault = (length script ≤ 1048576) × IsScriptRefusal script fault

-- why a script was not run to its end
abbrev pub IsRunRefusal : List ℕ → ProgramFault → Type 0
IsRunRefusal script CannotRead = ⊤
IsRunRefusal script TooLong = 1048576 < length script
IsRunRefusal script NoEvents = IsShortRefusal script NoEvents
IsRunRefusal script (BadManifest fault) = IsShortRefusal script (BadManifest fault)
IsRunRefusal script (BadLine line) = IsShortRefusal script (BadLine line)
IsRunRefusal script NoMemory = ⊤
IsRunRefusal script CannotWrite = IsGood script
IsRunRefusal script _ = ⊥
