-- An answer that has two owners. (This project's own.)
use Rattle.std.specs.Prelude.{◌≡◌, ◌⊎◌}
use Rattle.eden_base.specs.declared.errno.Errno.TheVariants.{ENOMEM}
use Rattle.fuse_wire.specs.declared.reply.Answer.{Answer}
use Rattle.fuse_wire.specs.declared.reply.Answer.TheVariants.{Buffer, Error}

-- what both owners get of an answer: the answer itself, or ENOMEM for a buffer
abbrev pub StandsFor : Answer → Answer → Type 0
StandsFor (Buffer bytes) owned = (owned ≡ Buffer bytes) ⊎ (owned ≡ Error ENOMEM)
StandsFor answer owned = owned ≡ answer
