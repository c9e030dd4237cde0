-- How the nodes lie in the region.
use Rattle.std.specs.Prelude.{◌≡◌, ℕ, ◌-◌, ◌<◌, ◌≤◌, slice_get, Option, Some, None}
use Rattle.std.specs.Vec.{vec_ptr, vec_len}
use Rattle.node_arena.specs.Addresses.{index_of, LeadsIn}
use Rattle.node_arena.specs.Content.{index_in, value_in}
use Rattle.node_arena.specs.declared.links.Link.{Link}
use Rattle.node_arena.specs.declared.region.ArenaNode.{ArenaNode}
use Rattle.node_arena.specs.declared.region.Region.{Region}

module _ {T : Type 0} (r : Region T) where
  -- how many nodes there are
  abbrev pub count_of : ℕ
  count_of = vec_len r.nodes

  -- the index of the node that the link leads to
  abbrev pub place_of : Link → ℕ
  place_of link = index_of (vec_ptr r.nodes) r.stride.bytes link.to

  -- the link leads to a node
  abbrev pub IsPlaced : Link → Type 0
  IsPlaced link = LeadsIn r.nodes r.stride.bytes link.to

  -- of a node: the index of the node after it, that of the node before it, and its value
  abbrev pub next_in : Option (ArenaNode T) → ℕ
  next_in None = 0
  next_in (Some n) = place_of n.next

  abbrev pub prev_in : Option (ArenaNode T) → ℕ
  prev_in None = 0
  prev_in (Some n) = place_of n.prev

  abbrev pub held_in : Option (ArenaNode T) → Option T
  held_in None = None
  held_in (Some n) = value_in n.content

  -- the node at an index
  abbrev pub node_at : ℕ → Option (ArenaNode T)
  node_at k = slice_get r.nodes.items k

  -- of the node at an index: the index of the node after it, that of the node before it, and its value
  abbrev pub next_of : ℕ → ℕ
  next_of k = next_in (node_at k)

  abbrev pub prev_of : ℕ → ℕ
  prev_of k = prev_in (node_at k)

  abbrev pub value_of : ℕ → Option T
  value_of k = held_in (node_at k)

  -- each link of a node leads to a node, and each node has its index
  pub record IsLaidOut : Type 0 where
    pub positive : 1 ≤ r.stride.bytes
    pub placed : (k : ℕ) (n : ArenaNode T) → node_at k ≡ Some n → IsPlaced n.prev × IsPlaced n.next
    pub named : (k : ℕ) (n : ArenaNode T) → node_at k ≡ Some n → index_in n.content ≡ k

  -- each node leads back to the first and on to the node before it, and holds no value
  pub record IsBlank : Type 0 where
    pub next : (k : ℕ) → k < count_of → next_of k ≡ k - 1
    pub prev : (k : ℕ) → k < count_of → prev_of k ≡ 0
    pub value : (k : ℕ) → value_of k ≡ None

module _ {T : Type 0} (old new : Region T) where
  -- the two regions are the same block
  pub record IsSameBlock : Type 0 where
    pub count : count_of new ≡ count_of old
    pub start : vec_ptr new.nodes ≡ vec_ptr old.nodes
    pub bytes : new.stride.bytes ≡ old.stride.bytes

  -- the new region is the same block, with these links and values
  pub record Becomes (nexts prevs : ℕ → ℕ) (values : ℕ → Option T) : Type 0 where
    pub laid_out : IsLaidOut new
    pub block : IsSameBlock
    pub next : next_of new ≡ nexts
    pub prev : prev_of new ≡ prevs
    pub value : value_of new ≡ values
