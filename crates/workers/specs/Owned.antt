-- What a request is answered, for two owners. (This project's own.)
use Rattle.std.specs.Prelude.{Option, Some, None}
use Rattle.fuse_wire.specs.declared.reply.Answer.{Answer}
use Rattle.fuse_wire.specs.Sharing.{StandsFor}

-- what both owners get of an answer, if there is one
abbrev pub StandsForIt : Option Answer → Option Answer → Type 0
StandsForIt (Some answer) (Some owned) = StandsFor answer owned
StandsForIt None None = Unit {0}
StandsForIt answer owned = ⊥
