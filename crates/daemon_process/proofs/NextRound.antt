-- A round is served only where the daemon serves at its lease's generation.
use Rattle.std.proofs.Common.{◌≡◌, false, Some, rules}
use Rattle.takeover_core.specs.Histories.{seat_of}
use Rattle.takeover_core.specs.declared.phase.Phase.{Phase}
use Rattle.takeover_core.specs.declared.phase.Phase.TheVariants.{Serving}
use Rattle.std.specs.Prelude.{ℕ, Option}
use Rattle.daemon.specs.Server.{ServerState}
use Rattle.daemon_desk.specs.Desk.{is_draining, lendable_at, taking_at}

pub serves_at : (phase : Phase) (server : Option ServerState) (lent : ServerState) (g : ℕ) → is_draining phase ≡ false → Some lent ≡ lendable_at (taking_at phase) server → seat_of phase ≡ Some g → phase ≡ Serving g
serves_at phase server lent g runs is seat = grind rules
