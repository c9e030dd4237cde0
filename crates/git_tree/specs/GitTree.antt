-- The manifest that the output of `git ls-tree -r -t -l -z --full-tree` says, with the object of each file.
-- (git-ls-tree(1). By -z each record is ended by NUL, and a path is not quoted; by -t the record of a directory stands
-- before what it holds.)
use Rattle.std.specs.Prelude.{◌≡◌, ℕ, ◌+◌, ◌<◌, ◌≤◌, List, [], ◌∷◌, ◌++◌, length, Option, Some, None, Result, Ok, Err, IsOk, IfErr}
use Rattle.manifest.specs.Manifest.{most_files}
use Rattle.manifest.specs.Placing.{line_at, place_fault}
use Rattle.manifest.specs.Text.{parts}
use Rattle.manifest.specs.declared.fault.PlaceFault.{PlaceFault}
use Rattle.manifest.specs.declared.fault.PlaceFault.TheVariants as place
use Rattle.git_tree.specs.GitRecord.{GitEntry, entry_of}
use Rattle.git_tree.specs.declared.fault.GitTreeFault.{GitTreeFault}
use Rattle.git_tree.specs.declared.fault.GitTreeFaultKind.{GitTreeFaultKind}
use Rattle.git_tree.specs.declared.fault.GitTreeFaultKind.TheVariants.{BadRecord, BadPath, NoParent, Twice, TooManyFiles, NoMemory}
use Rattle.git_tree.specs.declared.git_files.GitFiles.{GitFiles}
use Rattle.git_tree.specs.declared.git_tree.GitTree.{GitTree}

-- the records of an output, which are ended by NUL, and then what follows the last NUL
abbrev pub records_of : List ℕ → List (List ℕ)
records_of output = parts 0 output

-- no files
abbrev pub no_files : GitFiles
no_files = record { lines = []; objects = [] }

-- the files and one more
abbrev pub with_entry : GitFiles → GitEntry → GitFiles
with_entry files e = record {
  lines = files.lines ++ line_at files.lines e.path e.file ∷ [];
  objects = files.objects ++ e.object ∷ [];
}

-- a fault of a path, as one of the path's record
abbrev pub path_fault : PlaceFault → GitTreeFaultKind
path_fault place.BadPath = BadPath
path_fault place.NoParent = NoParent
path_fault place.Twice = Twice
path_fault place.TooManyFiles = TooManyFiles
path_fault place.NoMemory = NoMemory

-- the files and one more, or this fault of its path if there is one
abbrev pub placed : GitFiles → GitEntry → Option PlaceFault → Result GitFiles GitTreeFaultKind
placed files e None = Ok (with_entry files e)
placed files e (Some fault) = Err (path_fault fault)

-- the files and that of an entry, or the first fault
abbrev pub files_with_entry : GitFiles → Result GitEntry GitTreeFaultKind → Result GitFiles GitTreeFaultKind
files_with_entry files (Err fault) = Err fault
files_with_entry files (Ok e) = placed files e (place_fault most_files files.lines e.path)

-- the files and that of a record, or its first fault
abbrev pub files_with : GitFiles → List ℕ → Result GitFiles GitTreeFaultKind
files_with files record_text = files_with_entry files (entry_of record_text)

-- a fault, with the number of its record
abbrev pub fault_at : ℕ → GitTreeFaultKind → GitTreeFault
fault_at number kind = record { number = number; kind = kind }

-- what `f` makes of the files, or what `g` makes of the fault
abbrev pub on_files : {R : Type 0} → Result GitFiles GitTreeFaultKind → (GitFiles → R) → (GitTreeFaultKind → R) → R
on_files (Ok files) f g = f files
on_files (Err fault) f g = g fault

-- these files and then those of the records from this number on, or the first fault; what isn't ended by NUL is no
-- record
abbrev pub read_on : GitFiles → ℕ → List (List ℕ) → Result GitFiles GitTreeFault
read_on files number [] = Ok files
read_on files number ([] ∷ []) = Ok files
read_on files number ((b ∷ bs) ∷ []) = Err (fault_at number BadRecord)
read_on files number (text ∷ next ∷ more) =
    on_files (files_with files text) (λ longer. read_on longer (number + 1) (next ∷ more))
    (λ fault. Err (fault_at number fault))

-- the tree of a commit with this name and these files, or the fault of the files; the name is a hash over all files
abbrev pub with_commit : List ℕ → Result GitFiles GitTreeFault → Result GitTree GitTreeFault
with_commit commit (Err fault) = Err fault
with_commit commit (Ok files) = Ok (record {
  manifest = record { commit = commit; digest = commit; lines = files.lines };
  objects = files.objects;
})

-- the tree of a commit with this name, whose output this is, or the first faulty record and its first fault
abbrev pub git_tree_of : List ℕ → List ℕ → Result GitTree GitTreeFault
git_tree_of commit output = with_commit commit (read_on no_files 1 (records_of output))

-- a record is refused with this fault: its first one, or NoMemory if it has none
abbrev pub IsRecordRefusal : Result GitFiles GitTreeFaultKind → GitTreeFaultKind → Type 0
IsRecordRefusal said NoMemory = IsOk said
IsRecordRefusal said fault = said ≡ Err fault

-- an output is refused with this fault at this record: its first fault, or NoMemory at a record before that of any
-- fault
abbrev pub IsRefusal : {T : Type 0} → Result T GitTreeFault → ℕ → GitTreeFaultKind → Type 0
IsRefusal said number NoMemory = IfErr said (λ first. number < first.number)
IsRefusal said number fault = said ≡ Err (fault_at number fault)

-- the output of a commit with this name is refused with this fault
abbrev pub IsGitTreeRefusal : List ℕ → List ℕ → GitTreeFault → Type 0
IsGitTreeRefusal commit output fault = IsRefusal (git_tree_of commit output) fault.number fault.kind

-- the number is that of a record of the output, or of what follows the last NUL
abbrev pub IsAmongRecords : List ℕ → ℕ → Type 0
IsAmongRecords output number = (0 < number) × (number ≤ length (records_of output))
