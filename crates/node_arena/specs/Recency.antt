-- The list of the nodes in use and that of the spare ones, and the arena that they show.
use Rattle.std.specs.Prelude.{◌≡◌, ℕ, zero, suc, ◌+◌, ◌≤◌, true, false, List, [], ◌∷◌, length, Option, Some, None}
use Rattle.node_arena.specs.Arena.{Arena, arena}
use Rattle.node_arena.specs.Links.{has, IsApart, IsChain, IsRun}
use Rattle.node_arena.specs.Region.{count_of, place_of, next_of, prev_of, value_of, IsPlaced, IsLaidOut}
use Rattle.node_arena.specs.declared.links.Link.{Link}
use Rattle.node_arena.specs.declared.region.Region.{Region}
use Rattle.node_arena.specs.declared.slot.Slot.{Slot}

-- the indexes to which the next links lead, this count of them from k on
abbrev pub walked : (ℕ → ℕ) → ℕ → ℕ → List ℕ
walked next zero k = []
walked next (suc n) k = k ∷ walked next n (next k)

-- the list in use goes in a circle from node 0, the spare list starts at the head, and they have no node in common
pub record AreApart (next prev : ℕ → ℕ) (order : List ℕ) (head : ℕ) (spare : List ℕ) : Type 0 where
  pub chain : IsChain next prev 0 order 0
  pub run : IsRun next head spare
  pub start_not : (has 0 order ≡ false) × (has 0 spare ≡ false)
  pub apart : IsApart order × IsApart spare
  pub disjoint : (k : ℕ) → has k order ≡ true → has k spare ≡ false

module _ {T : Type 0} where
  -- these entries, with one for this index in front if there is a value
  abbrev pub entry_at : ℕ → Option T → List (Slot × T) → List (Slot × T)
  entry_at k None es = es
  entry_at k (Some x) es = (record { index = k }, x) ∷ es

  -- the values at the indexes, with their slots, as entries
  abbrev pub entries_at : (ℕ → Option T) → List ℕ → List (Slot × T)
  entries_at values [] = []
  entries_at values (k ∷ ks) = entry_at k (values k) (entries_at values ks)

  -- the arena that the region shows: the nodes after node 0, in order
  abbrev pub shown : Region T → ℕ → ℕ → Arena T
  shown r capacity len = arena (entries_at (value_of r) (walked (next_of r) len (next_of r 0))) capacity

  -- each node but node 0 stands in one of the two lists, and exactly those of the list in use have values
  pub record IsKept (next prev : ℕ → ℕ) (values : ℕ → Option T) (head capacity len : ℕ)
      (order spare : List ℕ) : Type 0 where
    pub lists : AreApart next prev order head spare
    pub long : length order ≡ len
    pub total : length order + length spare ≡ capacity
    pub order_within : (k : ℕ) → has k order ≡ true → k ≤ capacity
    pub spare_within : (k : ℕ) → has k spare ≡ true → k ≤ capacity
    pub filled : (k : ℕ) → has k order ≡ true → (x : T) × (values k ≡ Some x)
    pub only : (k : ℕ) (x : T) → values k ≡ Some x → has k order ≡ true

  -- what holds of each arena
  pub record IsWhole (r : Region T) (first : Link) (capacity len : ℕ) : Type 0 where
    pub laid_out : IsLaidOut r
    pub placed : IsPlaced r first
    pub count : count_of r ≡ capacity + 1
    pub least : 1 ≤ capacity
    pub most : capacity ≤ 65536
    pub order : List ℕ
    pub spare : List ℕ
    pub kept : IsKept (next_of r) (prev_of r) (value_of r) (place_of r first) capacity len order spare
