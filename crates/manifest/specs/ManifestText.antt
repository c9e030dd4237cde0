-- The text of a manifest, line by line. (This project's own format. A commit is named by the twenty bytes of a hash,
-- as in Git and EdenFS.)
use Rattle.std.specs.Prelude.{◌≡◌, ℕ, ◌+◌, ◌<◌, ◌≤◌, List, [], ◌∷◌, ◌++◌, length, take, codes, Option, Some, None, is_none, Result, Ok, Err, IsOk, IfErr, unwrap_or, if◌then◌else◌}
use Rattle.std.specs.Option.{option_map, option_and_then, option_or}
use Rattle.std.specs.Result.{result_ok}
use Rattle.hex.specs.Hex.{decode_sized}
use Rattle.sha2.specs.Sha256.{sha256}
use Rattle.eden_base.specs.declared.attr.Kind.{Kind}
use Rattle.eden_base.specs.declared.attr.Kind.TheVariants.{Dir, Link, File as RegularFile}
use Rattle.eden_base.specs.declared.attr.Perm.{Perm}
use Rattle.manifest.specs.declared.fault.ManifestFault.{ManifestFault}
use Rattle.manifest.specs.declared.fault.ManifestFaultKind.{ManifestFaultKind}
use Rattle.manifest.specs.declared.fault.ManifestFaultKind.TheVariants.{NoCommit, BadLine, BadMode, BadSize, BadPath, NoParent, Twice, TooManyLines, NoMemory}
use Rattle.manifest.specs.declared.fault.PlaceFault.{PlaceFault}
use Rattle.manifest.specs.declared.fault.PlaceFault.TheVariants as place
use Rattle.manifest.specs.Manifest.{Line, Manifest, most_lines}
use Rattle.manifest.specs.Placing.{line_at, place_fault}
use Rattle.eden_base.specs.Text.{cut}
use Rattle.manifest.specs.Text.{after, parts, mode_of, size_of}
use Rattle.manifest.specs.Tree.{dir_perm, link_perm}

-- the lines of a text that are ended by LF, and then what follows the last LF
abbrev pub lines_of : List ℕ → List (List ℕ)
lines_of text = parts 10 text

-- the commit that a first line names, in hexadecimal digits of either case, if it names one
abbrev pub commit_of : List ℕ → Option (List ℕ)
commit_of line =
    option_and_then (λ (digits : List ℕ). result_ok (decode_sized digits 20)) (after (codes "commit ") line)

-- what a line says: the kind of its file, the permissions and the size if they are well written, and the path
pub record ManifestEntry : Type 0 where
  pub kind : Kind
  pub perm : Option Perm
  pub size : Option ℕ
  pub path : List ℕ

-- the entry of a line `dir PATH`: only the owner may write the directory, and its size is 0
abbrev pub dir_entry : List ℕ → ManifestEntry
dir_entry path = record { kind = Dir; perm = Some dir_perm; size = Some 0; path = path }

-- the entry of what follows `file ` in a line, `MODE SIZE PATH`, if it has these fields
abbrev pub file_entry : List ℕ → Option ManifestEntry
file_entry rest =
    option_and_then (λ (m : List ℕ × List ℕ).
    option_map
    (λ (s : List ℕ × List ℕ). record { kind = RegularFile; perm = mode_of m.0; size = size_of s.0; path = s.1 })
    (cut 32 m.1))
    (cut 32 rest)

-- the entry of what follows `link ` in a line, `SIZE PATH`, if it has these fields
abbrev pub link_entry : List ℕ → Option ManifestEntry
link_entry rest =
    option_map
    (λ (s : List ℕ × List ℕ). record { kind = Link; perm = Some link_perm; size = size_of s.0; path = s.1 })
    (cut 32 rest)

-- the entry of what follows a line's first word, which is that of a directory, a file or a link
abbrev pub entry_behind : Option (List ℕ) → Option (List ℕ) → Option (List ℕ) → Option ManifestEntry
entry_behind (Some path) file link = Some (dir_entry path)
entry_behind None (Some rest) link = file_entry rest
entry_behind None None (Some rest) = link_entry rest
entry_behind None None None = None

-- the entry that a line says, if the line is a directory's, a file's or a symbolic link's
abbrev pub entry_of : List ℕ → Option ManifestEntry
entry_of line = entry_behind (after (codes "dir ") line) (after (codes "file ") line) (after (codes "link ") line)

-- the first fault of a line's fields, in this order, if there is one
abbrev pub entry_fault : Option ManifestEntry → Option ManifestFaultKind
entry_fault None = Some BadLine
entry_fault (Some e) =
    if is_none e.perm then Some BadMode
    else if is_none e.size then Some BadSize
    else None

-- a fault of a path, as one of the path's line
abbrev pub line_fault : PlaceFault → ManifestFaultKind
line_fault place.BadPath = BadPath
line_fault place.NoParent = NoParent
line_fault place.Twice = Twice
line_fault place.TooManyFiles = TooManyLines
line_fault place.NoMemory = NoMemory

-- the line that an entry makes after these lines
abbrev pub line_said : List Line → ManifestEntry → Line
line_said lines e =
    line_at lines e.path (record { kind = e.kind; perm = unwrap_or e.perm dir_perm; size = unwrap_or e.size 0 })

-- the line that an entry makes after these lines, or this fault if there is one
abbrev pub placed : List Line → ManifestEntry → Option ManifestFaultKind → Result Line ManifestFaultKind
placed lines e None = Ok (line_said lines e)
placed lines e (Some fault) = Err fault

-- the line that an entry makes after these lines, or its first fault
abbrev pub line_of_entry : List Line → Option ManifestEntry → Result Line ManifestFaultKind
line_of_entry lines None = Err BadLine
line_of_entry lines (Some e) =
    placed lines e
    (option_or (entry_fault (Some e)) (option_map line_fault (place_fault most_lines lines e.path)))

-- the line that a text makes after these lines, or its first fault
abbrev pub line_of_text : List Line → List ℕ → Result Line ManifestFaultKind
line_of_text lines text = line_of_entry lines (entry_of text)

-- a fault, with the number of its line
abbrev pub fault_at : ℕ → ManifestFaultKind → ManifestFault
fault_at line kind = record { line = line; kind = kind }

-- what `f` makes of the line, or what `g` makes of the fault
abbrev pub on_line : {R : Type 0} → Result Line ManifestFaultKind → (Line → R) → (ManifestFaultKind → R) → R
on_line (Ok line) f g = f line
on_line (Err fault) f g = g fault

-- these lines and then those of a text from this number on, or the first fault; what isn't ended by LF is no line
abbrev pub read_on : List Line → ℕ → List (List ℕ) → Result (List Line) ManifestFault
read_on lines number [] = Ok lines
read_on lines number ([] ∷ []) = Ok lines
read_on lines number ((b ∷ bs) ∷ []) = Err (fault_at number BadLine)
read_on lines number (text ∷ next ∷ more) =
    on_line (line_of_text lines text) (λ line. read_on (lines ++ line ∷ []) (number + 1) (next ∷ more))
    (λ fault. Err (fault_at number fault))

-- the digest by which two daemons compare their manifests: the first twenty bytes of the SHA-256 of the text, since
-- that is the room that an image has
unfoldable pub digest_of : List ℕ → List ℕ
digest_of text = take 20 (sha256 text)

-- the manifest with this digest, this commit and these lines, or the fault of the lines
abbrev pub with_commit : List ℕ → List ℕ → Result (List Line) ManifestFault → Result Manifest ManifestFault
with_commit digest commit (Ok lines) = Ok (record { commit = commit; digest = digest; lines = lines })
with_commit digest commit (Err fault) = Err fault

-- the manifest with the commit of a first line, or the first fault; the first line has to name a commit and be ended
abbrev pub after_commit : List ℕ → Option (List ℕ) → List (List ℕ) → Result Manifest ManifestFault
after_commit digest None rest = Err (fault_at 1 NoCommit)
after_commit digest (Some commit) [] = Err (fault_at 1 BadLine)
after_commit digest (Some commit) (line ∷ more) = with_commit digest commit (read_on [] 2 (line ∷ more))

-- the manifest that the lines of a text with this digest say, or the first fault
abbrev pub manifest_of_lines : List ℕ → List (List ℕ) → Result Manifest ManifestFault
manifest_of_lines digest [] = Err (fault_at 1 NoCommit)
manifest_of_lines digest (first ∷ rest) = after_commit digest (commit_of first) rest

-- the manifest that a text is, or the first faulty line and its first fault
abbrev pub manifest_of : List ℕ → Result Manifest ManifestFault
manifest_of text = manifest_of_lines (digest_of text) (lines_of text)

-- a line is refused with this fault: its first one, or NoMemory if it has none
abbrev pub IsLineRefusal : Result Line ManifestFaultKind → ManifestFaultKind → Type 0
IsLineRefusal line NoMemory = IsOk line
IsLineRefusal line fault = line ≡ Err fault

-- a text is refused with this fault at this line: its first fault, or NoMemory at a line before that of any fault
abbrev pub IsRefusal : {T : Type 0} → Result T ManifestFault → ℕ → ManifestFaultKind → Type 0
IsRefusal said line NoMemory = IfErr said (λ first. line < first.line)
IsRefusal said line fault = said ≡ Err (fault_at line fault)

-- the text of a manifest is refused with this fault
abbrev pub IsManifestRefusal : List ℕ → ManifestFault → Type 0
IsManifestRefusal text fault = IsRefusal (manifest_of text) fault.line fault.kind

-- a fault may stand at this line among a count of lines, the last of which LF doesn't end; NoMemory stands at a line
-- that is ended, and at the commit's only if no other ended line follows
abbrev pub IsAmongLines : ℕ → ℕ → ManifestFaultKind → Type 0
IsAmongLines count line NoMemory = (0 < line) × (line < count) × (line ≡ 1 → count ≡ 2)
IsAmongLines count line fault = (0 < line) × (line ≤ count)

-- a fault stands at one of the text's lines
abbrev pub IsAtLine : List ℕ → ManifestFault → Type 0
IsAtLine text fault = IsAmongLines (length (lines_of text)) fault.line fault.kind
