-- The content of a node.
use Rattle.std.specs.Prelude.{ℕ, Option, Some, None}
use Rattle.node_arena.specs.declared.node_content.NodeContent.{NodeContent}
use Rattle.node_arena.specs.declared.node_content.NodeContent.TheVariants.{Vacant, Held}

module _ {T : Type 0} where
  -- the index of the node
  abbrev pub index_in : NodeContent T → ℕ
  index_in (Vacant i) = i
  index_in (Held i x) = i

  -- the value of the node, if it holds one
  abbrev pub value_in : NodeContent T → Option T
  value_in (Vacant i) = None
  value_in (Held i x) = Some x

  -- the same node with the value w
  abbrev pub content_with : NodeContent T → T → NodeContent T
  content_with it w = Held (index_in it) w
