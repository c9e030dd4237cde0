-- Which texts say a manifest. There are several, since the commit's digits may be of either case. (This project's own
-- format.)
use Rattle.std.specs.Prelude.{◌≡◌, ◌<◌, ◌≤◌, ◌⊎◌, ℕ, ◌+◌, ◌/◌, ◌%◌, ◌==◌, true, false, List, [], ◌∷◌, ◌++◌, length, codes, Some, Ok}
use Rattle.std.specs.Fmt.{decimal}
use Rattle.std.specs.List.{list_all, list_any}
use Rattle.eden_base.specs.declared.attr.Kind.{Kind}
use Rattle.eden_base.specs.declared.attr.Kind.TheVariants.{Dir, Link, File as RegularFile}
use Rattle.eden_base.specs.declared.attr.Perm.{Perm}
use Rattle.manifest.specs.Manifest.{File, Line, Manifest, IsManifest, most_lines}
use Rattle.manifest.specs.ManifestText.{digest_of, manifest_of}
use Rattle.manifest.specs.Names.{is_name}
use Rattle.manifest.specs.Placing.{tree_so_far}
use Rattle.manifest.specs.Tree.{file_at, root, root_file, link_perm}

-- this is the hexadecimal digit of a value below sixteen, in either case
abbrev pub IsHexDigit : ℕ → ℕ → Type 0
IsHexDigit value digit =
    ((value < 10) × (digit ≡ 48 + value))
    ⊎ ((10 ≤ value) × (value < 16) × ((digit ≡ 55 + value) ⊎ (digit ≡ 87 + value)))

-- these are two hexadecimal digits for each byte, the high four bits first
abbrev pub IsHexText : List ℕ → List ℕ → Type 0
IsHexText [] [] = Unit {0}
IsHexText (byte ∷ bytes) (high ∷ low ∷ digits) =
    IsHexDigit (byte / 16) high × IsHexDigit (byte % 16) low × IsHexText bytes digits
IsHexText bytes digits = ⊥

-- permissions as four octal digits
abbrev pub mode_text : Perm → List ℕ
mode_text perm =
    (48 + perm.bits / 512) ∷ (48 + perm.bits / 64 % 8) ∷ (48 + perm.bits / 8 % 8) ∷ (48 + perm.bits % 8) ∷ []

-- the parts with this byte between each two
abbrev pub joined : ℕ → List (List ℕ) → List ℕ
joined byte [] = []
joined byte (part ∷ []) = part
joined byte (part ∷ next ∷ more) = part ++ byte ∷ joined byte (next ∷ more)

-- the names with a slash between each two
abbrev pub path_text : List (List ℕ) → List ℕ
path_text names = joined 47 names

-- what stands before the path in a line; a size has no leading zero
abbrev pub fields_text : Kind → Perm → ℕ → List ℕ
fields_text Dir perm size = codes "dir "
fields_text RegularFile perm size = codes "file " ++ mode_text perm ++ 32 ∷ decimal size ++ 32 ∷ []
fields_text Link perm size = codes "link " ++ decimal size ++ 32 ∷ []

-- a line can say this file; of a directory it says no more than its kind, so permissions and size are the root's, and
-- of a symbolic link it says no permissions
abbrev pub IsSayable : Kind → File → Type 0
IsSayable Dir file = file ≡ root_file
IsSayable RegularFile file = Unit {0}
IsSayable Link file = file.perm ≡ link_perm

-- the text of a line that follows these, without its LF: its fields, and the names that lead to it
pub record IsLineForm (above : List Line) (line : Line) (text : List ℕ) : Type 0 where
  pub names : List (List ℕ)
  pub lead : file_at (tree_so_far above) root names ≡ Some line.dir
  pub are_names : list_all is_name (names ++ line.name ∷ []) ≡ true
  pub is_sayable : IsSayable line.file.kind line.file
  pub is : text ≡ fields_text line.file.kind line.file.perm line.file.size ++ path_text (names ++ line.name ∷ [])
  pub is_one_line : list_any (λ byte. byte == 10) text ≡ false

-- the texts of lines that follow these, each ended by LF
abbrev pub AreLinesForm : List Line → List Line → List ℕ → Type 0
AreLinesForm above [] text = text ≡ []
AreLinesForm above (line ∷ lines) text =
    (first rest : List ℕ) × IsLineForm above line first × (text ≡ first ++ 10 ∷ rest)
    × AreLinesForm (above ++ line ∷ []) lines rest

-- the text of a manifest, which has its digest: the line of the commit, and then the others
pub record IsManifestForm (m : Manifest) (text : List ℕ) : Type 0 where
  pub digits : List ℕ
  pub rest : List ℕ
  pub is_hex : IsHexText m.commit digits
  pub are_lines : AreLinesForm [] m.lines rest
  pub few : length m.lines ≤ most_lines
  pub is : text ≡ codes "commit " ++ digits ++ 10 ∷ rest
  pub has_digest : digest_of text ≡ m.digest

-- each manifest that has this text is read from it
abbrev pub AreFormsRead : List ℕ → Type 0
AreFormsRead text = (m : Manifest) → IsManifest m → IsManifestForm m text → manifest_of text ≡ Ok m
