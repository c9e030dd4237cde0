-- A touch, a removal, an addition and a write, from the steps on the region to the arena.
use Rattle.std.proofs.Common.{◌≡◌, ◌≢◌, ℕ, eqb, ◌+◌, ◌-◌, true, false, List, [], ◌∷◌, Option, Some, None, inl, inr, refl, sym, ap, ◌∙◌, subst, arith}
use Rattle.std.proofs.lemmas.Bool.{cases_Bool, both_ways, ne_eqb}
use Rattle.node_arena.specs.Arena.{Arena, arena, value_at, IsHeld, with_first, without, touched, with_value}
use Rattle.node_arena.specs.Links.{updated, has, strike, next_without, prev_without, next_with, prev_with}
use Rattle.node_arena.specs.Recency.{entries_at, shown, IsKept, IsWhole}
use Rattle.node_arena.specs.Region.{place_of, node_at, next_of, prev_of, value_of, held_in, IsPlaced, Becomes}
use Rattle.node_arena.specs.RegionLends.{with_value as set_in}
use Rattle.node_arena.specs.declared.links.Link.{Link}
use Rattle.node_arena.specs.declared.region.ArenaNode.{ArenaNode}
use Rattle.node_arena.specs.declared.region.Region.{Region}
use Rattle.node_arena.specs.declared.slot.Slot.{Slot}
use Rattle.node_arena.proofs.Chains.{updated_here, updated_apart, has_first}
use Rattle.node_arena.proofs.Edits.{becomes-valued}
use Rattle.node_arena.proofs.Entries.{slot_at, entries_at-updated, set_value-entries_at}
use Rattle.node_arena.proofs.Held.{is_plain, value_here, some_here, listed_here, touched_here, without_here}
use Rattle.node_arena.proofs.Moves.{kept-touched, kept-removed, kept-added, kept-valued}
use Rattle.node_arena.proofs.Shown.{shown-kept, value_at-kept, absent, whole-after}

module _ {T : Type 0} (r : Region T) (first : Link) (capacity len : ℕ) (w : IsWhole r first capacity len) (a : Arena T) (view : shown r capacity len ≡ a) where
  abbrev f : ℕ → Option T
  f = value_of r

  abbrev head : ℕ
  head = place_of r first

  module _ (s : Slot) (held : IsHeld a s) where
    abbrev k : ℕ
    k = s.index

    abbrev n1 : ℕ → ℕ
    n1 = next_without (next_of r) (prev_of r) k

    abbrev p1 : ℕ → ℕ
    p1 = prev_without (next_of r) (prev_of r) k

    listed : has k w.order ≡ true
    listed = listed_here r first capacity len w a view s held

    -- a touch
    module _ (r2 : Region T) (b : Becomes r r2 (next_with n1 0 k) (prev_with n1 p1 0 k) f) where
      kept_t : IsKept (next_with n1 0 k) (prev_with n1 p1 0 k) f head capacity len (k ∷ strike k w.order) w.spare
      kept_t = kept-touched (next_of r) (prev_of r) f head capacity len w.order w.spare w.kept k listed

      pub whole-touched : IsWhole r2 first capacity len
      whole-touched = whole-after r r2 first first (next_with n1 0 k) (prev_with n1 p1 0 k) f head capacity len len (k ∷ strike k w.order) w.spare w b w.placed refl kept_t

      pub shown-touched : shown r2 capacity len ≡ touched a s
      shown-touched = shown-kept (next_with n1 0 k) (prev_with n1 p1 0 k) f head capacity len (k ∷ strike k w.order) w.spare kept_t r2 b.next b.value ∙ sym (touched_here r first capacity len w a view s held)

      pub value_at-touched : (t : Slot) → value_at (shown r2 capacity len) t ≡ value_at a t
      value_at-touched t = value_here r2 first capacity len whole-touched (shown r2 capacity len) refl t ∙ (λ j. b.value j t.index) ∙ sym (value_here r first capacity len w a view t)

    -- a removal
    module _ (node : Link) (placed : IsPlaced r node) (at : place_of r node ≡ k) (r3 : Region T) (b : Becomes r r3 (updated n1 k head) p1 (updated f k None)) where
      kept_r : IsKept (updated n1 k head) p1 (updated f k None) k capacity (len - 1) (strike k w.order) (k ∷ w.spare)
      kept_r = kept-removed (next_of r) (prev_of r) f head capacity len w.order w.spare w.kept k listed

      pub whole-removed : IsWhole r3 node capacity (len - 1)
      whole-removed = whole-after r r3 first node (updated n1 k head) p1 (updated f k None) k capacity len (len - 1) (strike k w.order) (k ∷ w.spare) w b placed at kept_r

      plain-removed : shown r3 capacity (len - 1) ≡ arena (entries_at (updated f k None) (strike k w.order)) capacity
      plain-removed = shown-kept (updated n1 k head) p1 (updated f k None) k capacity (len - 1) (strike k w.order) (k ∷ w.spare) kept_r r3 b.next b.value

      pub shown-removed : shown r3 capacity (len - 1) ≡ without a s
      shown-removed = plain-removed ∙ sym (without_here r first capacity len w a view s held)

      pub value_at-removed : value_at (shown r3 capacity (len - 1)) s ≡ None
      value_at-removed =
          ap (λ (c : Arena T). value_at c s) plain-removed
          ∙ value_at-kept (updated n1 k head) p1 (updated f k None) k capacity (len - 1) (strike k w.order) (k ∷ w.spare) kept_r s
          ∙ updated_here f k None k refl

      pub value_at-others : (t : Slot) → t ≢ s → value_at (shown r3 capacity (len - 1)) t ≡ value_at a t
      value_at-others t other =
          let apart : eqb k t.index ≡ false = ne_eqb k t.index (λ e. other (ap slot_at (sym e))) in
          value_here r3 node capacity (len - 1) whole-removed (shown r3 capacity (len - 1)) refl t ∙ (λ j. b.value j t.index) ∙ updated_apart f k None t.index apart ∙ sym (value_here r first capacity len w a view t)

    -- a write through a `&mut` to the value
    module _ (i : ℕ) (e : i ≡ k) (v : T) where
      node_of : (o : Option (ArenaNode T)) (x : T) → node_at r i ≡ o → held_in r o ≡ Some x → (n : ArenaNode T) × (node_at r i ≡ Some n)
      node_of None x e' h = cc
      node_of (Some n) x e' h = (n, e')

      valued : Becomes r (set_in r i v) (next_of r) (prev_of r) (updated f k (Some v))
      valued =
          let x = some_here r first capacity len w a view s held in let n = node_of (node_at r i) x.0 refl (ap f e ∙ x.1) in
          subst (λ (m : ℕ). Becomes r (set_in r i v) (next_of r) (prev_of r) (updated f m (Some v))) e (becomes-valued r i n.0 n.1 w.laid_out v)

      kept_v : IsKept (next_of r) (prev_of r) (updated f k (Some v)) head capacity len w.order w.spare
      kept_v = kept-valued (next_of r) (prev_of r) f head capacity len w.order w.spare w.kept k v listed

      pub whole-valued : IsWhole (set_in r i v) first capacity len
      whole-valued = whole-after r (set_in r i v) first first (next_of r) (prev_of r) (updated f k (Some v)) head capacity len len w.order w.spare w valued w.placed refl kept_v

      pub shown-valued : shown (set_in r i v) capacity len ≡ with_value a s v
      shown-valued =
          let x = some_here r first capacity len w a view s held in
          shown-kept (next_of r) (prev_of r) (updated f k (Some v)) head capacity len w.order w.spare kept_v (set_in r i v) valued.next valued.value
          ∙ ap (λ es. arena es capacity) (sym (set_value-entries_at f s x.0 x.1 v w.order w.kept.lists.apart.0))
          ∙ sym (ap (λ (c : Arena T). with_value c s v) (is_plain r first capacity len w a view))

  -- an addition
  module _ (room : len ≡ capacity → ⊥) where
    spare_cases : (spare : List ℕ) → IsKept (next_of r) (prev_of r) f head capacity len w.order spare → (rest : List ℕ) × IsKept (next_of r) (prev_of r) f head capacity len w.order (head ∷ rest)
    spare_cases [] kept = let long = kept.long in let total = kept.total in absurd (room (omega arith))
    spare_cases (x ∷ xs) kept = (xs, subst (λ (m : ℕ). IsKept (next_of r) (prev_of r) f head capacity len w.order (m ∷ xs)) (sym kept.lists.run.0) kept)

    rest : List ℕ
    rest = (spare_cases w.spare w.kept).0

    kept_s : IsKept (next_of r) (prev_of r) f head capacity len w.order (head ∷ rest)
    unfolding rest
    kept_s = (spare_cases w.spare w.kept).1

    not_listed : has head w.order ≡ false
    not_listed = elim (cases_Bool (has head w.order)) [
      | inl e ↦ absurd (both_ways (has head (head ∷ rest)) (kept_s.lists.disjoint head e) (has_first head head rest refl))
      | inr e ↦ e
    ]

    pub empty_first : f head ≡ None
    empty_first = sym (absent (next_of r) (prev_of r) f head capacity len w.order w.spare w.kept head not_listed (f head) refl)

    pub fresh_first : value_at a (slot_at head) ≡ None
    fresh_first = value_here r first capacity len w a view (slot_at head) ∙ empty_first

    module _ (v : T) (second : Link) (placed : IsPlaced r second) (at : place_of r second ≡ next_of r head) (r3 : Region T)
        (b : Becomes r r3 (next_with (next_of r) 0 head) (prev_with (next_of r) (prev_of r) 0 head) (updated f head (Some v))) where
      abbrev n2 : ℕ → ℕ
      n2 = next_with (next_of r) 0 head

      abbrev p2 : ℕ → ℕ
      p2 = prev_with (next_of r) (prev_of r) 0 head

      kept_a : IsKept n2 p2 (updated f head (Some v)) (next_of r head) capacity (len + 1) (head ∷ w.order) rest
      kept_a = kept-added (next_of r) (prev_of r) f head capacity len w.order rest kept_s not_listed v

      pub whole-added : IsWhole r3 second capacity (len + 1)
      whole-added = whole-after r r3 first second n2 p2 (updated f head (Some v)) (next_of r head) capacity len (len + 1) (head ∷ w.order) rest w b placed at kept_a

      pub shown-added : shown r3 capacity (len + 1) ≡ with_first a (slot_at head) v
      shown-added =
          shown-kept n2 p2 (updated f head (Some v)) (next_of r head) capacity (len + 1) (head ∷ w.order) rest kept_a r3 b.next b.value
          ∙ rw (updated_here f head (Some v) head refl) (ap (λ es. arena ((slot_at head, v) ∷ es) capacity) (entries_at-updated f head (Some v) w.order not_listed))
          ∙ sym (ap (λ (c : Arena T). with_first c (slot_at head) v) (is_plain r first capacity len w a view))

      pub value_at-added : value_at (shown r3 capacity (len + 1)) (slot_at head) ≡ Some v
      value_at-added = value_here r3 second capacity (len + 1) whole-added (shown r3 capacity (len + 1)) refl (slot_at head) ∙ (λ j. b.value j head) ∙ updated_here f head (Some v) head refl
