-- What a caller's proof cites of the words in `specs/Arena.antt`.
use Rattle.std.proofs.Common.{◌≡◌, false, List, [], ◌∷◌, Some, inl, inr, refl}
use Rattle.std.proofs.lemmas.Bool.{cases_Bool}
use Rattle.std.specs.Prelude.{IsSome}
use Rattle.std.specs.Map.{lookup, set_value}
use Rattle.node_arena.specs.Arena.{Arena, is_slot, value_at, IsHeld, with_value}
use Rattle.node_arena.specs.declared.slot.Slot.{Slot}

module _ {X : Type 0} where
  in_rest : (s : Slot) (e : Slot × X) (es : List (Slot × X)) → is_slot s e.0 ≡ false → IsSome (lookup (is_slot s) (e ∷ es)) → IsSome (lookup (is_slot s) es)
  in_rest s e es apart h = rw apart at h

  lookup-set_same : (s : Slot) (w : X) (es : List (Slot × X)) → IsSome (lookup (is_slot s) es) → lookup (is_slot s) (set_value (is_slot s) es w) ≡ Some w
  lookup-set_same s w [] h = cc
  lookup-set_same s w (e ∷ es) h = elim (cases_Bool (is_slot s e.0)) [
    | inl y ↦ rw y (rw y refl)
    | inr n ↦ rw n (rw n (lookup-set_same s w es (in_rest s e es n h)))
  ]

  module _ (a : Arena X) (s : Slot) where
    pub value_at-with_value : (w : X) → IsHeld a s → value_at (with_value a s w) s ≡ Some w
    value_at-with_value w held = lookup-set_same s w a.entries held
