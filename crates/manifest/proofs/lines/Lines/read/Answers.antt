-- A fault of the fields is that of the line.
use Rattle.std.proofs.Common.{◌≡◌, true, false, List, Option, Some, None, Err, is_none, refl, rules, subst, if◌then◌else◌}
use Rattle.std.specs.Option.{option_map, option_or}
use Rattle.manifest.specs.declared.fault.ManifestFaultKind.{ManifestFaultKind}
use Rattle.manifest.specs.declared.fault.ManifestFaultKind.TheVariants.{BadLine, BadMode, BadSize}
use Rattle.manifest.specs.Manifest.{Line, most_lines}
use Rattle.manifest.specs.ManifestText.{ManifestEntry, entry_fault, entry_of, line_fault, line_of_entry, placed, IsLineRefusal}
use Rattle.manifest.specs.Placing.{place_fault}
use Rattle.manifest.proofs.lines.Lines.read.Goals as goal

fields_refused : (lines : List Line) (entry : Option ManifestEntry) (fault : ManifestFaultKind) → entry_fault entry ≡ Some fault → IsLineRefusal (line_of_entry lines entry) fault
fields_refused lines None fault h = let same : BadLine ≡ fault = cc in subst (IsLineRefusal (Err BadLine)) same refl
fields_refused lines (Some e) fault h =
    let place = option_map line_fault (place_fault most_lines lines e.path) in
    elim (is_none e.perm) as (λ b. (if b then Some BadMode else if is_none e.size then Some BadSize else None) ≡ Some fault → IsLineRefusal (placed lines e (option_or (if b then Some BadMode else if is_none e.size then Some BadSize else None) place)) fault) [
      | true ↦ λ g. let same : BadMode ≡ fault = cc in subst (IsLineRefusal (Err BadMode)) same refl
      | false ↦ λ g. elim (is_none e.size) as (λ b. (if b then Some BadSize else None) ≡ Some fault → IsLineRefusal (placed lines e (option_or (if b then Some BadSize else None) place)) fault) [
        | true ↦ λ k. let same : BadSize ≡ fault = cc in subst (IsLineRefusal (Err BadSize)) same refl
        | false ↦ λ k. absurd (cc)
      ] g
    ] h

pub returns-in_err-entry-clause-refused : goal.returns-in_err-entry-clause-refused
returns-in_err-entry-clause-refused c =
    let refused = fields_refused c.args.self.now (entry_of c.args.text.now) c.in_err-entry.field-0.0 c.in_err-entry.ensures.refused in
    search (rules, refused)
