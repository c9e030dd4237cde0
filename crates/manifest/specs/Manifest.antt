-- What a manifest says: the commit of a checkout, and its files in an order in which each directory stands before
-- what it holds. (This project's own; a manifest stands for the store of objects that EdenFS asks.)
use Rattle.std.specs.Prelude.{◌≡◌, ◌≢◌, ℕ, ◌+◌, ◌-◌, ◌<◌, ◌≤◌, ◌⊎◌, ◌==◌, List, [], ◌∷◌, length, slice_get, Option, Some, None, nat_lt, if◌then◌else◌}
use Rattle.eden_base.specs.declared.attr.Kind.TheVariants.{Dir}
use Rattle.eden_base.specs.declared.number.FileId.{FileId}
use Rattle.eden_base.specs.Limits.{greatest_size}
use Rattle.eden_base.specs.Name.{IsNameText}
use Rattle.manifest.specs.declared.content.Content.{Content}

-- what a checkout knows of a file, besides its names
abbrev pub File : Type 0
File = Content

-- a line: a file, and where it stands
pub record Line : Type 0 where
  pub dir : FileId
  pub name : List ℕ
  pub file : File

-- a commit's name, a digest of the text, and lines; the first line is that of file 2, and so on, since file 1 is the
-- root, which has no line
pub record Manifest : Type 0 where
  pub commit : List ℕ
  pub digest : List ℕ
  pub lines : List Line

-- how many lines may follow the commit's in a text
abbrev pub most_lines : ℕ
most_lines = 65535

-- how many lines a manifest may have, wherever it is from
abbrev pub most_files : ℕ
most_files = 16777215

-- the directory is the root, or that of a line before line i
abbrev pub IsDirBefore : List Line → ℕ → FileId → Type 0
IsDirBefore lines i dir =
    (dir.0 ≡ 1)
    ⊎ ((j : ℕ) × (above : Line) × (j < i) × (dir.0 ≡ j + 2) × (slice_get lines j ≡ Some above)
    × (above.file.kind ≡ Dir))

-- what holds of line i
pub record IsLine (lines : List Line) (i : ℕ) (line : Line) : Type 0 where
  pub name : IsNameText line.name
  pub size : line.file.size ≤ greatest_size
  pub dir_before : IsDirBefore lines i line.dir
  pub place_is_new : (j : ℕ) (other : Line) → j < i → slice_get lines j ≡ Some other → other.dir ≡ line.dir →
      other.name ≢ line.name

-- each line stands in the root or in the directory of an earlier line, and no two lines at one place
pub record AreLines (lines : List Line) : Type 0 where
  pub few : length lines ≤ most_files
  pub each : (i : ℕ) (line : Line) → slice_get lines i ≡ Some line → IsLine lines i line

-- a manifest has a commit of twenty bytes, and such lines
pub record IsManifest (m : Manifest) : Type 0 where
  pub commit : length m.commit ≡ 20
  pub lines : AreLines m.lines

-- the line of a file, if it has one; the root has none
abbrev pub line_of : List Line → FileId → Option Line
line_of lines file = if nat_lt file.0 2 then None else slice_get lines (file.0 - 2)

-- how many of the lines stand in a directory
abbrev pub kids_in : ℕ → List Line → ℕ
kids_in dir [] = 0
kids_in dir (l ∷ ls) = (if l.dir.0 == dir then 1 else 0) + kids_in dir ls
