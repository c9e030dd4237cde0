-- No ids rise.
use Rattle.checkout.proofs.MadeLemmas.{none-rise}
use Rattle.checkout.proofs.made.MadeFiles.new.Goals as goal

pub invariant_of-result : goal.invariant_of-result
invariant_of-result c = none-rise c.new.result.items c.new.ensures.items
