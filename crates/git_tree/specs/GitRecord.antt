-- What a record of `git ls-tree -l` says. (git-ls-tree(1): `MODE SP TYPE SP OBJECT SP SIZE TAB PATH`.)
use Rattle.std.specs.Prelude.{ℕ, List, Option, Some, None, Result, Ok, Err}
use Rattle.std.specs.Option.{option_and_then, option_map}
use Rattle.eden_base.specs.Text.{cut}
use Rattle.manifest.specs.Manifest.{File}
use Rattle.git_tree.specs.GitMode.{file_of, mode_of, size_in}
use Rattle.git_tree.specs.GitObject.{object_of}
use Rattle.git_tree.specs.declared.fault.GitTreeFaultKind.{GitTreeFaultKind}
use Rattle.git_tree.specs.declared.fault.GitTreeFaultKind.TheVariants.{BadRecord, BadMode, BadObject, BadSize}
use Rattle.git_tree.specs.declared.mode.GitMode.{GitMode}
use Rattle.git_tree.specs.declared.object_id.ObjectId.{ObjectId}

-- the fields of a record
pub record Fields : Type 0 where
  pub mode : List ℕ
  pub object_type : List ℕ
  pub object : List ℕ
  pub size : List ℕ
  pub path : List ℕ

-- what stands before each of the first three spaces, then before the first TAB, and behind it
abbrev pub fields_of : List ℕ → Option Fields
fields_of record_text =
    option_and_then (λ (m : List ℕ × List ℕ).
    option_and_then (λ (t : List ℕ × List ℕ).
    option_and_then (λ (o : List ℕ × List ℕ).
    option_map
    (λ (s : List ℕ × List ℕ). record { mode = m.0; object_type = t.0; object = o.0; size = s.0; path = s.1 })
    (cut 9 o.1))
    (cut 32 t.1))
    (cut 32 m.1))
    (cut 32 record_text)

-- an entry of a commit: its file, its object and its path
pub record GitEntry : Type 0 where
  pub file : File
  pub object : ObjectId
  pub path : List ℕ

-- the entry of a mode, an object and a size, or the first that is missing
abbrev pub entry_with : List ℕ → Option GitMode → Option ObjectId → Option ℕ → Result GitEntry GitTreeFaultKind
entry_with path None object size = Err BadMode
entry_with path (Some mode) None size = Err BadObject
entry_with path (Some mode) (Some object) None = Err BadSize
entry_with path (Some mode) (Some object) (Some size) =
    Ok (record { file = file_of mode size; object = object; path = path })

-- the entry that these fields say, or their first fault
abbrev pub entry_in : Option Fields → Result GitEntry GitTreeFaultKind
entry_in None = Err BadRecord
entry_in (Some f) =
    entry_with f.path (mode_of f.mode f.object_type) (object_of f.object)
    (option_and_then (λ mode. size_in mode f.size) (mode_of f.mode f.object_type))

-- the entry that a record says, or its first fault
abbrev pub entry_of : List ℕ → Result GitEntry GitTreeFaultKind
entry_of record_text = entry_in (fields_of record_text)
