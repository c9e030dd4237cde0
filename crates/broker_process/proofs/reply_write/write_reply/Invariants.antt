-- What comes of the next writes comes of them and those before.
use Rattle.std.proofs.Common.{◌-◌, List, Option, ℕ}
use Rattle.broker_process.specs.Writing.{WritesFrom}
use Rattle.broker_process.specs.declared.reply_write.Written.{Written}
use Rattle.broker_process.proofs.reply_write.write_reply.Given as goal

abbrev pub invariant-loop-refusals : goal.invariant-loop-refusals
invariant-loop-refusals g l =
    (result : Written) (new : Option (List ℕ))
    → WritesFrom (6 - l.refusals) l.refusals l.texts.reply.now l.texts.error.now result (g.D.Write.contents l.device) new
    → WritesFrom 6 0 l.texts.reply.now l.texts.error.now result (g.D.Write.contents l.fn.device) new
