-- The texts that git prints of the entries of a commit. (git-ls-tree(1): by option -l a size stands to the right of
-- a field of seven characters at least.)
use Rattle.std.specs.Prelude.{◌≡◌, ◌≤◌, ℕ, zero, suc, ◌-◌, ◌+◌, ◌==◌, false, List, [], ◌∷◌, ◌++◌, length, codes, Some, Result, Ok, Err}
use Rattle.std.specs.Fmt.{decimal}
use Rattle.std.specs.List.{list_any}
use Rattle.hex.specs.Hex.{encode_lower, IsBytes}
use Rattle.eden_base.specs.Limits.{greatest_size}
use Rattle.manifest.specs.Manifest.{most_files}
use Rattle.manifest.specs.Placing.{place_fault}
use Rattle.git_tree.specs.GitMode.{file_of, mode_of}
use Rattle.git_tree.specs.GitRecord.{GitEntry}
use Rattle.git_tree.specs.GitTree.{fault_at, git_tree_of, no_files, on_files, placed, with_commit}
use Rattle.git_tree.specs.declared.fault.GitTreeFault.{GitTreeFault}
use Rattle.git_tree.specs.declared.git_files.GitFiles.{GitFiles}
use Rattle.git_tree.specs.declared.mode.GitMode.{GitMode}
use Rattle.git_tree.specs.declared.mode.GitMode.TheVariants.{Tree, Submodule, Link, Executable, Regular}

-- this many spaces
abbrev pub spaces : ℕ → List ℕ
spaces zero = []
spaces (suc n) = 32 ∷ spaces n

-- a text with spaces on its left, up to seven characters
abbrev pub padded : List ℕ → List ℕ
padded text = spaces (7 - length text) ++ text

-- a size as git prints it, which only a blob has
abbrev pub size_printed : GitMode → ℕ → List ℕ
size_printed Tree size = codes "-"
size_printed Submodule size = codes "-"
size_printed Link size = decimal size
size_printed Executable size = decimal size
size_printed Regular size = decimal size

-- the text of the record of an entry, without its NUL
pub record IsRecordForm (e : GitEntry) (text : List ℕ) : Type 0 where
  pub mode : GitMode
  pub digits : List ℕ
  pub object_type : List ℕ
  pub size : ℕ
  pub is_mode : mode_of digits object_type ≡ Some mode
  pub is_file : file_of mode size ≡ e.file
  pub size_fits : size ≤ greatest_size
  pub object_has_twenty : length e.object.0 ≡ 20
  pub object_has_bytes : IsBytes e.object.0
  pub is : text ≡ digits ++ 32 ∷ (object_type ++ 32 ∷ (encode_lower e.object.0 ++ 32 ∷
      (padded (size_printed mode size) ++ 9 ∷ e.path)))
  pub is_one_record : list_any (λ byte. byte == 0) text ≡ false

-- the texts of the records of entries, each ended by NUL
abbrev pub AreRecordsForm : List GitEntry → List ℕ → Type 0
AreRecordsForm [] output = output ≡ []
AreRecordsForm (e ∷ entries) output =
    (text rest : List ℕ) × IsRecordForm e text × (output ≡ text ++ 0 ∷ rest) × AreRecordsForm entries rest

-- these files and then those of the entries from this number on, or the first fault of a path
abbrev pub files_from : GitFiles → ℕ → List GitEntry → Result GitFiles GitTreeFault
files_from files number [] = Ok files
files_from files number (e ∷ entries) =
    on_files (placed files e (place_fault most_files files.lines e.path))
    (λ longer. files_from longer (number + 1) entries) (λ fault. Err (fault_at number fault))

-- what git prints of any entries is read as them, for the commit with this name
abbrev pub AreFormsRead : List ℕ → List ℕ → Type 0
AreFormsRead commit output =
    (entries : List GitEntry) → AreRecordsForm entries output →
    git_tree_of commit output ≡ with_commit commit (files_from no_files 1 entries)
