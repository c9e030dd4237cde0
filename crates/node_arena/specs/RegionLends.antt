-- What the region ends as, once a `&mut` to a node or to a value has ended.
use Rattle.std.specs.Prelude.{ℕ, slice_get, Option, Some, None}
use Rattle.std.specs.Borrow.{Fml, RattleType, MutBor, Lends}
use Rattle.std.specs.Vec.{with_item}
use Rattle.node_arena.specs.Content.{content_with}
use Rattle.node_arena.specs.declared.region.ArenaNode.{ArenaNode}
use Rattle.node_arena.specs.declared.region.Region.{Region}
use Rattle.node_arena.specs.contracts.region.ArenaNode as node
use Rattle.node_arena.specs.contracts.region.Region.{the_row}

module _ {T : Type 0} (r : Region T) where
  -- the region with the node n at the index
  abbrev pub with_node : ℕ → ArenaNode T → Region T
  with_node i n = record { nodes = with_item r.nodes i n; stride = r.stride }

  -- the region with the value w in the node that stands at the index
  abbrev pub with_value_in : Option (ArenaNode T) → ℕ → T → Region T
  with_value_in None i w = r
  with_value_in (Some n) i w =
      with_node i (record { prev = n.prev; next = n.next; content = content_with n.content w })

  abbrev pub with_value : ℕ → T → Region T
  with_value i w = with_value_in (slice_get r.nodes.items i) i w

-- the node at the index ends as the last one written through n
abbrev pub lends_node : (R : RattleType) → MutBor (Region R.Denot) → ℕ → MutBor (ArenaNode R.Denot) → Fml
lends_node R s i n = Lends (the_row R) (node.the_row R) s n (λ w. with_node s.now i w)

-- the node at the index ends with the last value written through r
abbrev pub lends_value : (R : RattleType) → MutBor (Region R.Denot) → ℕ → MutBor R.Denot → Fml
lends_value R s i r = Lends (the_row R) R s r (λ w. with_value s.now i w)
