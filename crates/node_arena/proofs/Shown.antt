-- The arena that a region shows, before and after its steps.
use Rattle.std.proofs.Common.{◌≡◌, ℕ, ◌≤◌, false, List, Option, Some, None, inl, inr, refl, sym, ap, ◌∙◌, subst, arith}
use Rattle.std.proofs.lemmas.Bool.{cases_Bool, both_ways}
use Rattle.node_arena.specs.Arena.{arena, value_at, IsSound}
use Rattle.node_arena.specs.Links.{updated, has, next_without, prev_without, next_with, prev_with}
use Rattle.node_arena.specs.Recency.{walked, entries_at, shown, IsKept, IsWhole}
use denote.RawPtr.{Ptr}
use Rattle.node_arena.specs.Addresses.{index_of, IsAmong}
use Rattle.node_arena.specs.Region.{next_of, prev_of, value_of, place_of, IsPlaced, IsSameBlock, Becomes}
use Rattle.node_arena.specs.declared.links.Link.{Link}
use Rattle.node_arena.specs.declared.region.Region.{Region}
use Rattle.node_arena.specs.declared.slot.Slot.{Slot}
use Rattle.node_arena.proofs.Entries.{walked-chain, distinct_slots, keys_of-entries_at, length-entries_at, lookup-entries_at}

module _ {T : Type 0} where
  pub same_then : (r r1 r2 : Region T) → IsSameBlock r r1 → IsSameBlock r1 r2 → IsSameBlock r r2
  same_then r r1 r2 s t = record { count = t.count ∙ s.count; start = t.start ∙ s.start; bytes = t.bytes ∙ s.bytes }

  -- a link leads to the same node in the same block
  pub placed-same : (r r' : Region T) (link : Link) → IsSameBlock r r' → IsPlaced r link → IsPlaced r' link
  placed-same r r' link b p = subst (λ (t : Ptr × ℕ × ℕ). IsAmong t.0 t.1 t.2 link.to) (λ j. (sym b.start j, sym b.bytes j, sym b.count j)) p

  pub place_of-same : (r r' : Region T) (link : Link) → IsSameBlock r r' → place_of r' link ≡ place_of r link
  place_of-same r r' link b = λ j. index_of (b.start j) (b.bytes j) link.to

  -- two steps, one after the other
  pub becomes-then : (r r1 r2 : Region T) (a x : ℕ) → Becomes r r1 (next_without (next_of r) (prev_of r) x) (prev_without (next_of r) (prev_of r) x) (value_of r)
      → Becomes r1 r2 (next_with (next_of r1) a x) (prev_with (next_of r1) (prev_of r1) a x) (value_of r1)
      → let n = next_without (next_of r) (prev_of r) x in let p = prev_without (next_of r) (prev_of r) x in Becomes r r2 (next_with n a x) (prev_with n p a x) (value_of r)
  becomes-then r r1 r2 a x s t = record {
    laid_out = t.laid_out;
    block = same_then r r1 r2 s.block t.block;
    next = t.next ∙ (λ j. next_with (s.next j) a x);
    prev = t.prev ∙ (λ j. prev_with (s.next j) (s.prev j) a x);
    value = t.value ∙ s.value;
  }

  -- a value moved in or out after such steps
  pub becomes-value : (r r2 r3 : Region T) (n p : ℕ → ℕ) (x : ℕ) (v : Option T) → Becomes r r2 n p (value_of r) → Becomes r2 r3 (next_of r2) (prev_of r2) (updated (value_of r2) x v) → Becomes r r3 n p (updated (value_of r) x v)
  becomes-value r r2 r3 n p x v s t = record {
    laid_out = t.laid_out;
    block = same_then r r2 r3 s.block t.block;
    next = t.next ∙ s.next;
    prev = t.prev ∙ s.prev;
    value = t.value ∙ (λ j. updated (s.value j) x v);
  }

  module _ (n p : ℕ → ℕ) (f : ℕ → Option T) (head capacity len : ℕ) (order spare : List ℕ) (kept : IsKept n p f head capacity len order spare) where
    walked-kept : walked n len (n 0) ≡ order
    walked-kept = ap (λ (m : ℕ). walked n m (n 0)) (sym kept.long) ∙ walked-chain n p 0 order 0 kept.lists.chain

    -- the arena that they show
    pub shown-kept : (r : Region T) → next_of r ≡ n → value_of r ≡ f → shown r capacity len ≡ arena (entries_at f order) capacity
    shown-kept r a b = (λ j. arena (entries_at (b j) (walked (a j) len (a j 0))) capacity) ∙ ap (λ (l : List ℕ). arena (entries_at f l) capacity) walked-kept

    -- a node that is not in use holds no value
    pub absent : (k : ℕ) → has k order ≡ false → (v : Option T) → f k ≡ v → None ≡ v
    absent k off None e = refl
    absent k off (Some x) e = absurd (both_ways (has k order) off (kept.only k x e))

    -- a look-up by a slot is that of its node
    pub value_at-kept : (s : Slot) → value_at (arena (entries_at f order) capacity) s ≡ f s.index
    value_at-kept s = elim (cases_Bool (has s.index order)) [
      | inl y ↦ lookup-entries_at f s order ∙ rw y refl
      | inr y ↦ lookup-entries_at f s order ∙ rw y (absent s.index y (f s.index) refl)
    ]

    pub sound-kept : 1 ≤ capacity → capacity ≤ 65536 → IsSound (arena (entries_at f order) capacity)
    sound-kept least most = let long = length-entries_at f order kept.filled in let is = kept.long in let total = kept.total in
        record { distinct = rw (keys_of-entries_at f order kept.filled) (distinct_slots order kept.lists.apart.0); within = omega arith; least = least; most = most }

  -- after steps on a whole arena
  pub whole-after : (r r' : Region T) (first first' : Link) (n p : ℕ → ℕ) (f : ℕ → Option T) (head capacity len len' : ℕ) (order spare : List ℕ) → IsWhole r first capacity len → Becomes r r' n p f
      → IsPlaced r first' → place_of r first' ≡ head → IsKept n p f head capacity len' order spare → IsWhole r' first' capacity len'
  whole-after r r' first first' n p f head capacity len len' order spare w b placed at kept = record {
    laid_out = b.laid_out;
    placed = placed-same r r' first' b.block placed;
    count = b.block.count ∙ w.count;
    least = w.least;
    most = w.most;
    order = order;
    spare = spare;
    kept = let P : (ℕ → ℕ) × (ℕ → ℕ) × (ℕ → Option T) × ℕ → Type 0 = λ t. IsKept t.0 t.1 t.2 t.3 capacity len' order spare in
        let e : ◌≡◌ {A = (ℕ → ℕ) × (ℕ → ℕ) × (ℕ → Option T) × ℕ} (n, p, f, head) (next_of r', prev_of r', value_of r', place_of r' first') =
        λ j. (sym b.next j, sym b.prev j, sym b.value j, sym (place_of-same r r' first' b.block ∙ at) j) in subst P e kept;
  }
