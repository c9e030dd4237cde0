-- Moves one after another.
use Rattle.std.proofs.Common.{◌≡◌, suc, ◌<◌, length, List, [], ◌∷◌, ◌++◌, Option, Some, None, refl, arith}
use Rattle.std.specs.Prelude.{Contains}
use Rattle.std.specs.Option.{option_map_or}
use Rattle.eden_base.specs.First.{first_where}
use Rattle.fuse_wire.specs.declared.request.Ask.{Ask}
use Rattle.fuse_wire.specs.declared.reply.Reply.{Reply}
use Rattle.broker_core.specs.declared.seat.Seat.{Seat}
use Rattle.world.specs.World.{World, Move, issue, issue_item, work, work_item, accept, deliver, mount, claim, end, is_asked, is_replied, worked, delivered, IsRun, after, after_all}
use Rattle.world.specs.Agreement.{IsAnswered}

pub run-append : (w : World) (ms ns : List Move) → IsRun w ms → IsRun (after_all w ms) ns → IsRun w (ms ++ ns)
run-append w [] ns run more = more
run-append w (m ∷ ms) ns run more = (run.0, run-append (after w m) ms ns run.1 more)

pub after_all-append : (w : World) (ms ns : List Move) → after_all w (ms ++ ns) ≡ after_all (after_all w ms) ns
after_all-append w [] ns = refl
after_all-append w (m ∷ ms) ns = after_all-append (after w m) ms ns

-- a daemon that answered has answered after any move
answered-after : (w : World) (move : Move) (seat : Option Seat) → IsAnswered w seat → IsAnswered (after w move) seat
answered-after w move None a = tt
answered-after w (issue ask) (Some seat) a = a
answered-after w (issue_item item) (Some seat) a = a
answered-after w (work unique answer) (Some seat) a = in_ (first_where (is_asked unique) w.asks) where
  in_ : (o : Option Ask) → Contains (worked w answer o).answered seat
  in_ None = a
  in_ (Some ask) = a
answered-after w (work_item item) (Some seat) a = a
answered-after w (accept unique daemon) (Some seat) a = in_ w.seat where
  in_ : (o : Option Seat) → Contains (option_map_or (λ (s : Seat). record { generation = s.generation; daemon = daemon } ∷ w.answered) o w.answered) seat
  in_ None = a
  in_ (Some s) = (suc a.0, (let low : a.0 < length w.answered = a.1 in omega arith), a.2)
answered-after w (deliver unique) (Some seat) a = in_ (first_where (is_replied unique) w.replies) where
  in_ : (o : Option Reply) → Contains (delivered w o).answered seat
  in_ None = a
  in_ (Some reply) = a
answered-after w (mount daemon) (Some seat) a = a
answered-after w (claim g daemon) (Some seat) a = a
answered-after w end (Some seat) a = a

pub answered-after_all : (w : World) (moves : List Move) (seat : Option Seat) → IsAnswered w seat → IsAnswered (after_all w moves) seat
answered-after_all w [] seat a = a
answered-after_all w (move ∷ moves) seat a = answered-after_all (after w move) moves seat (answered-after w move seat a)
