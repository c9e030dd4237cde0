-- By which deadline a byte of a stream of frames has to come. (This project's own.)
use Rattle.std.specs.Prelude.{Bool, true, false}
use Rattle.sockets.specs.Allowance.{is_like}
use Rattle.sockets.specs.declared.deadline.Deadline.{Deadline}
use Rattle.sockets.specs.declared.deadline.Deadline.TheVariants.{Never, Passed, Within}
use Rattle.sockets.specs.declared.timed.Term.{Term}
use Rattle.sockets.specs.declared.timed.Term.TheVariants.{Whole, Begin, Rest}

-- the deadline of the next byte, by that of whole frames, and by whether the byte begins a frame: that of whole frames
-- where there is one, else the one by which a frame begins, or that of the rest of a frame
abbrev pub term_of : Deadline → Bool → Term
term_of Never true = Begin
term_of Never false = Rest
term_of whole is_between = Whole

-- whether two deadlines are of the same time, as copies of one are
abbrev pub is_same : Deadline → Deadline → Bool
is_same Never Never = true
is_same Passed Passed = true
is_same (Within one) (Within another) = is_like one another
is_same one another = false
