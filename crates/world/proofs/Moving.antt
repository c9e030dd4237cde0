-- What one event did: its moves may happen, and the state matches the world after them.
use Rattle.std.proofs.Common.{◌≡◌, true, false, [], List, sym, ◌∙◌}
use Rattle.world.specs.World.{World, Move, IsRun, after_all}
use Rattle.world.specs.Agreement.{IsGoodForget, IsAnswered, is_posted, Follows}
use Rattle.world.specs.State.{State}
use Rattle.daemon.specs.declared.happened.Happened.{Happened}

pub record MovesBy (w : World) (moves : List Move) (old : State) (told : Happened) (new : State) : Type 0 where
  pub run : IsRun w moves
  pub matches : Follows (after_all w moves) new
  pub forget : IsGoodForget told
  pub answered : is_posted told ≡ true → IsAnswered (after_all w moves) old.broker.seat

-- an event that makes no move leaves the world as it was
pub unmoved : (w : World) (old : State) (told : Happened) (new : State) → IsGoodForget told → is_posted told ≡ false → Follows w new → MovesBy w [] old told new
unmoved w old told new good nobody m = record { run = tt; matches = m; forget = good; answered = λ e. absurd (let none : true ≡ false = sym e ∙ nobody in let x : ⊥ = cc in x) }
