-- The path of a file of a manifest: the names that lead to it from the root, with a slash between two. (This project's own.)
use Rattle.std.specs.Prelude.{◌≡◌, ℕ, List, ◌∷◌, ◌++◌, Some}
use Rattle.eden_base.specs.declared.number.FileId.{FileId}
use Rattle.manifest.specs.Manifest.{Line, line_of}

-- a path leads to the file of a line: the line's name, in the root; or the path of the line's directory, a slash, and the
-- line's name
pub data IsPath (lines : List Line) : FileId → List ℕ → Type 0 where
  InRoot : {file : FileId} (line : Line) → line_of lines file ≡ Some line → line.dir.0 ≡ 1 → IsPath lines file line.name
  Below : {file : FileId} {dir : List ℕ} (line : Line) → line_of lines file ≡ Some line → IsPath lines line.dir dir →
      IsPath lines file (dir ++ 47 ∷ line.name)

-- a path that leads to the file once a path of the directory stands before it; or at once, where that is the root
abbrev pub IsPathFrom : List Line → FileId → FileId → List ℕ → Type 0
IsPathFrom lines dir file rest =
    (dir.0 ≡ 1 → IsPath lines file rest)
    × ((above : List ℕ) → IsPath lines dir above → IsPath lines file (above ++ 47 ∷ rest))
