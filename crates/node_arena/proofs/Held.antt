-- What is known of an arena from the region that shows it.
use Rattle.std.proofs.Common.{◌≡◌, ℕ, ◌-◌, ◌<◌, true, List, [], ◌∷◌, map, length, slice_get, Option, Some, None, refl, sym, ap, ◌∙◌, subst, arith}
use Rattle.std.specs.Prelude.{IsSome, is_some}
use Rattle.std.proofs.lemmas.List.{length-map}
use Rattle.node_arena.specs.Arena.{Arena, arena, value_at, IsHeld, without, touched, oldest_of, IsSound}
use Rattle.node_arena.specs.Links.{updated, has, strike}
use Rattle.node_arena.specs.Recency.{entries_at, shown, IsWhole}
use Rattle.node_arena.specs.Region.{count_of, place_of, next_of, prev_of, value_of}
use Rattle.node_arena.specs.declared.links.Link.{Link}
use Rattle.node_arena.specs.declared.region.Region.{Region}
use Rattle.node_arena.specs.declared.slot.Slot.{Slot}
use Rattle.node_arena.proofs.Entries.{slot_at, last_slot-chain, keys_of-entries_at, length-entries_at, entries_at-updated, remove_entry-entries_at}
use Rattle.node_arena.proofs.Moves.{has-last_link}
use Rattle.node_arena.proofs.Shown.{shown-kept, value_at-kept, sound-kept}
use Rattle.node_arena.proofs.Strikes.{has-strike_same}

module _ {T : Type 0} where
  some_of : (o : Option T) → IsSome o → (x : T) × (o ≡ Some x)
  some_of None h = cc
  some_of (Some x) h = (x, refl)

module _ {T : Type 0} (r : Region T) (first : Link) (capacity len : ℕ) (w : IsWhole r first capacity len) (a : Arena T) (view : shown r capacity len ≡ a) where
  abbrev f : ℕ → Option T
  f = value_of r

  abbrev plain : Arena T
  plain = arena (entries_at f w.order) capacity

  pub is_plain : a ≡ plain
  is_plain = sym view ∙ shown-kept (next_of r) (prev_of r) f (place_of r first) capacity len w.order w.spare w.kept r refl refl

  pub value_here : (s : Slot) → value_at a s ≡ value_of r s.index
  value_here s = ap (λ b. value_at b s) is_plain ∙ value_at-kept (next_of r) (prev_of r) f (place_of r first) capacity len w.order w.spare w.kept s

  pub capacity_here : capacity ≡ a.capacity
  capacity_here = ap (λ (b : Arena T). b.capacity) (sym is_plain)

  pub length_here : len ≡ length a.entries
  length_here = sym (ap (λ (b : Arena T). length b.entries) is_plain ∙ length-entries_at f w.order w.kept.filled ∙ w.kept.long)

  pub sound_here : IsSound a
  sound_here = subst IsSound (sym is_plain) (sound-kept (next_of r) (prev_of r) f (place_of r first) capacity len w.order w.spare w.kept w.least w.most)

  pub oldest_here : oldest_of a ≡ slice_get (map slot_at w.order) (length w.order - 1)
  oldest_here = ap oldest_of is_plain ∙ ap (λ (l : List Slot). slice_get l (length l - 1)) (keys_of-entries_at f w.order w.kept.filled) ∙ ap (λ (n : ℕ). slice_get (map slot_at w.order) (n - 1)) (length-map w.order slot_at)

  pub oldest_some : (len ≡ 0 → ⊥) → oldest_of a ≡ Some (slot_at (prev_of r 0))
  oldest_some some = oldest_here ∙ last_slot-chain (next_of r) (prev_of r) 0 w.order 0 w.kept.lists.chain (λ e. some (sym w.kept.long ∙ e))

  pub oldest_held : (len ≡ 0 → ⊥) → IsHeld a (slot_at (prev_of r 0))
  oldest_held some =
      let there = has-last_link (next_of r) (prev_of r) 0 w.order 0 w.kept.lists.chain (λ e. some (sym w.kept.long ∙ e)) in
      let x = w.kept.filled (prev_of r 0) there in ap is_some (value_here (slot_at (prev_of r 0)) ∙ x.1)

  -- a slot whose node holds a value
  pub low_here : (s : Slot) (x : T) → value_of r s.index ≡ Some x → s.index < count_of r
  low_here s x e = let low = w.kept.order_within s.index (w.kept.only s.index x e) in let count = w.count in omega arith

  module _ (s : Slot) (held : IsHeld a s) where
    pub item_here : IsSome (value_of r s.index)
    item_here = subst (λ (o : Option T). IsSome o) (value_here s) held

    pub some_here : (x : T) × (value_of r s.index ≡ Some x)
    some_here = some_of (value_of r s.index) item_here

    pub index_here : s.index < count_of r
    index_here = low_here s some_here.0 some_here.1

    pub listed_here : has s.index w.order ≡ true
    listed_here = w.kept.only s.index some_here.0 some_here.1

    pub touched_here : touched a s ≡ arena (entries_at f (s.index ∷ strike s.index w.order)) capacity
    touched_here =
        let x = some_here.0 in let e = some_here.1 in
        ap (λ b. touched b s) is_plain ∙ rw (value_at-kept (next_of r) (prev_of r) f (place_of r first) capacity len w.order w.spare w.kept s) (rw e (rw (remove_entry-entries_at f s x e w.order) refl))

    pub without_here : without a s ≡ arena (entries_at (updated f s.index None) (strike s.index w.order)) capacity
    without_here =
        let x = some_here.0 in let e = some_here.1 in
        ap (λ b. without b s) is_plain ∙ ap (λ es. arena es capacity) (remove_entry-entries_at f s x e w.order ∙ sym (entries_at-updated f s.index None (strike s.index w.order) (has-strike_same s.index w.order w.kept.lists.apart.0)))
