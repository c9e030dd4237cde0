-- Where the files of a manifest's lines stand.
use Rattle.std.specs.Prelude.{ℕ, List, Option}
use Rattle.std.specs.FinMap.{get}
use Rattle.std.specs.Option.{option_map}
use Rattle.directory_index.specs.Standing.{Standing}
use Rattle.eden_base.specs.declared.number.FileId.{FileId}
use Rattle.manifest.specs.Manifest.{Line, line_of}
use Rattle.manifest.specs.Tree.{links_from}

-- the directory and the name that lead to the file with this id, if it has a line
abbrev pub place_of : List Line → ℕ → Option (ℕ × List ℕ)
place_of lines id = option_map (λ (line : Line). (line.dir.0, line.name)) (line_of lines (record { 0 = id }))

-- the file at each place that a line has
abbrev pub standing_of : List Line → Standing
standing_of lines dir name = option_map (λ (file : FileId). file.0) (get (links_from 2 lines) (dir, name))
