-- A path grows from its end to the root.
use Rattle.std.proofs.Common.{◌≡◌, ℕ, List, ◌∷◌, ◌++◌, Some, append_assoc, subst}
use Rattle.eden_base.specs.declared.number.FileId.{FileId}
use Rattle.manifest.specs.Manifest.{Line, line_of}
use Rattle.blob_store.specs.FilePath.{IsPath, IsPathFrom, InRoot, Below}

-- the name of a file, from its directory on
pub path_first : (lines : List Line) (file : FileId) (line : Line) → line_of lines file ≡ Some line → IsPathFrom lines line.dir file line.name
path_first lines file line is = (λ root. InRoot line is root, λ above leads. Below line is leads)

-- one directory more in front
pub path_step : (lines : List Line) (dir file : FileId) (line : Line) (rest : List ℕ) → IsPathFrom lines dir file rest → line_of lines dir ≡ Some line → IsPathFrom lines line.dir file (line.name ++ 47 ∷ rest)
path_step lines dir file line rest from is = (
  λ root. from.1 line.name (InRoot line is root),
  λ above leads. subst (IsPath lines file) (append_assoc above (47 ∷ line.name) (47 ∷ rest)) (from.1 (above ++ 47 ∷ line.name) (Below line is leads)),
)

pub path_end : (lines : List Line) (dir file : FileId) (rest : List ℕ) → IsPathFrom lines dir file rest → dir.0 ≡ 1 → IsPath lines file rest
path_end lines dir file rest from root = from.0 root
