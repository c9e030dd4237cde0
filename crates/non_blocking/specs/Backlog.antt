-- What waits to be written, and which lines are lost. (This project's own.)
use Rattle.std.specs.Prelude.{◌≡◌, ℕ, ◌<◌, ◌≤◌, ◌+◌, List, ◌++◌, length, Option, Some, None, Result, Ok, Err}
use Rattle.std.specs.declared.io.Error.{Error as IoError}
use Rattle.non_blocking.specs.declared.loss.Loss.{Loss}
use Rattle.non_blocking.specs.declared.loss.Loss.TheVariants.{Full, NoMemory, Refused}

-- What waits after a line came, by why the line was lost, if it was. A line waits behind all that came before it, and
-- then at most 65,536 bytes wait. A line that is lost is dropped whole.
abbrev pub Pushes : List ℕ → List ℕ → Option Loss → List ℕ → Type 0
Pushes old line None new = (new ≡ old ++ line) × (length new ≤ 65536)
Pushes old line (Some Full) new = (new ≡ old) × (65536 < length old + length line)
Pushes old line (Some NoMemory) new = new ≡ old
Pushes old line (Some (Refused error)) new = ⊥

-- the loss that is told in the end is the first one
abbrev pub first_loss : Option Loss → Option Loss → Option Loss
first_loss None later = later
first_loss (Some first) later = Some first

-- what is lost of what was to be written, if the system refused it
abbrev pub loss_of : Result (Unit {0}) IoError → Option Loss
loss_of (Ok done) = None
loss_of (Err error) = Some (Refused error)

-- a line came: it waits, or it is lost and noted
pub record Takes (old line : List ℕ) (noted : Option Loss) (new : List ℕ) (noted_then : Option Loss) : Type 0 where
  pub lost : Option Loss
  pub pushes : Pushes old line lost new
  pub notes : noted_then ≡ first_loss noted lost
