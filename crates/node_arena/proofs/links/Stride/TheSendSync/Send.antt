-- A stride may go to another thread: it owns nothing, and what it says is a plain fact.
use denote.RattleType.{RattleType}
use denote.Param.Send.{IsSend}
use Rattle.node_arena.specs.contracts.links.Stride.{the_row}

pub send : (N : RattleType) → IsSend (the_row N)
send N = record { owned = λ n vs. ((λ vss. (tt, ((λ uss. (tt, tt)), tt))), tt); leaving = λ k d w. tt }
