-- Where the bytes of a script come from. (This project's own.)
use Rattle.std.specs.Prelude.{◌≡◌, ℕ, List, Option, codes, IfSome, if◌then◌else◌}
use Rattle.std.specs.Str.{bytes_eq}

-- the bytes of the script at a path, if they are known: those of standard input if the path is `-`, else those of the
-- file
abbrev pub script_at : Option (List ℕ) → (List ℕ → Option (List ℕ)) → List ℕ → Option (List ℕ)
script_at input file path = if bytes_eq path (codes "-") then input else file path

-- the name of what the script at a path is read from: `standard input`, or the path
abbrev pub stream_at : List ℕ → List ℕ
stream_at path = if bytes_eq path (codes "-") then codes "standard input" else path

-- What `Holds` says is so of the script that was read. That script is all that the reader had, if this is known. The
-- bytes of a real file are not known before they are read, but there is a script all the same.
pub record OfRead (known : Option (List ℕ)) (Holds : List ℕ → Type 0) : Type 0 where
  pub script : List ℕ
  pub is : IfSome known (λ all. script ≡ all)
  pub holds : Holds script
