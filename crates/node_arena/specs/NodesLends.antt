-- What an arena ends as, once a `&mut` to a value has ended.
use Rattle.std.specs.Borrow.{Fml, RattleType, MutBor, Lends}
use Rattle.node_arena.specs.Arena.{Arena, with_value}
use Rattle.node_arena.specs.contracts.nodes.NodeArena.{the_row}
use Rattle.node_arena.specs.declared.slot.Slot.{Slot}

-- the slot ends with the last value written through r, and the rest of the arena is unchanged
abbrev pub lends_value : (R : RattleType) → MutBor (Arena R.Denot) → Slot → MutBor R.Denot → Fml
lends_value R a s r = Lends (the_row R) R a r (λ w. with_value a.now s w)
