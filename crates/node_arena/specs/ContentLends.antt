-- What a node's content ends as, once a `&mut` to its value has ended.
use Rattle.std.specs.Borrow.{Fml, RattleType, MutBor, Lends}
use Rattle.node_arena.specs.Content.{content_with}
use Rattle.node_arena.specs.declared.node_content.NodeContent.{NodeContent}
use Rattle.node_arena.specs.contracts.node_content.NodeContent.{the_row}

-- the content ends with the last value written through r
abbrev pub lends_value : (R : RattleType) → MutBor (NodeContent R.Denot) → MutBor R.Denot → Fml
lends_value R it r = Lends (the_row R) R it r (λ w. content_with it.now w)
