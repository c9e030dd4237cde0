-- Looks for an ask, which are made again while they find none. (This project's own.)
use Rattle.workers.specs.declared.channel.NextAsk.{NextAsk}
use Rattle.workers.specs.declared.channel.NextAsk.TheVariants as took

-- Below, `takes` is what one look for an ask makes of a channel.

-- looks one after another, each of which found no ask
pub data Waits {C : Type 0} (takes : C → NextAsk → C → Type 0) (before : C) : C → Type 0 where
  Not : Waits takes before before
  Longer : {mid after : C} → Waits takes before mid → takes mid took.Empty after → Waits takes before after

-- looks that found no ask, and then a look that found this
abbrev pub Looks : {C : Type 0} → (C → NextAsk → C → Type 0) → C → NextAsk → C → Type 0
Looks {C} takes before taken after = (last : C) × Waits takes before last × takes last taken after
