-- Groups of rings. Their definitions are this project's own.
use Rattle.std.specs.Prelude.{◌≡◌, ◌++◌, List, length, All, flat_map}
use Rattle.std.specs.declared.collections.VecDeque.{VecDeque}
use Rattle.block_queue.specs.declared.group.Group.{Group}

module _ {X Z : Type 0} where
  -- the members of a group's rings
  abbrev pub in_group : Group (VecDeque X Z) → List X
  in_group group = flat_map (λ ring. ring.items) group.blocks.items

  -- the members of each group's rings
  abbrev pub in_groups : Group (Group (VecDeque X Z)) → List X
  in_groups groups = flat_map in_group groups.blocks.items

  -- what stands behind the first ring: groups of rings, rings, and the last members
  abbrev pub behind_front : Group (Group (VecDeque X Z)) → Group (VecDeque X Z) → VecDeque X Z → List X
  behind_front groups rings back = in_groups groups ++ (in_group rings ++ back.items)

  -- a group counts the members of its rings
  abbrev pub IsGroup : Group (VecDeque X Z) → Type 0
  IsGroup group = group.len ≡ length (in_group group)

  -- groups count their members, all together and each for itself
  pub record AreGroups (groups : Group (Group (VecDeque X Z))) : Type 0 where
    pub each : All IsGroup groups.blocks.items
    pub len : groups.len ≡ length (in_groups groups)
