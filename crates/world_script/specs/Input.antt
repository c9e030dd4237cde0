-- What one read of a script takes from its reader. (This project's own.)
use Rattle.std.specs.Prelude.{◌≡◌, ℕ, List, ◌++◌, ⊤, Option, Some, None}

-- a read moves bytes from the reader to what was read: both together stay what they were, if the reader's bytes are
-- known
abbrev pub Reads : Option (List ℕ) → List ℕ → Option (List ℕ) → List ℕ → Type 0
Reads None old left new = ⊤
Reads (Some rest) old None new = ⊥
Reads (Some rest) old (Some left) new = old ++ rest ≡ new ++ left
