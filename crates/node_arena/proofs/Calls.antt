-- The calls of a touch, a removal and an addition on the region, put together.
use Rattle.std.proofs.Common.{◌≡◌, ℕ, Option, Some, None, ◌∙◌, subst}
use Rattle.node_arena.specs.Links.{updated, next_without, prev_without, next_with, prev_with}
use Rattle.node_arena.specs.Region.{place_of, next_of, prev_of, value_of, IsSameBlock, Becomes}
use Rattle.node_arena.specs.declared.links.Link.{Link}
use Rattle.node_arena.specs.declared.region.Region.{Region}
use Rattle.node_arena.proofs.Shown.{same_then, place_of-same, becomes-then, becomes-value}

module _ {T : Type 0} (r : Region T) (node : Link) (k : ℕ) (at : place_of r node ≡ k) where
  abbrev n1 : ℕ → ℕ
  n1 = next_without (next_of r) (prev_of r) k

  abbrev p1 : ℕ → ℕ
  p1 = prev_without (next_of r) (prev_of r) k

  -- `unlink`
  abbrev pub IsOut : Region T → ℕ → Type 0
  IsOut r1 x = Becomes r r1 (next_without (next_of r) (prev_of r) x) (prev_without (next_of r) (prev_of r) x) (value_of r)

  -- a value is moved in or out, where the block is the same
  valued_at : (r2 r3 : Region T) (v : Option T) → IsSameBlock r r2 → Becomes r2 r3 (next_of r2) (prev_of r2) (updated (value_of r2) (place_of r2 node) v)
      → Becomes r2 r3 (next_of r2) (prev_of r2) (updated (value_of r2) k v)
  valued_at r2 r3 v same b = subst (λ (m : ℕ). Becomes r2 r3 (next_of r2) (prev_of r2) (updated (value_of r2) m v)) (place_of-same r r2 node same ∙ at) b

  module _ (r1 : Region T) (out : IsOut r1 (place_of r node)) where
    out_k : IsOut r1 k
    out_k = subst (λ (m : ℕ). IsOut r1 m) at out

    -- `touch`
    pub by_touch : (r2 : Region T) (start : Link) → place_of r start ≡ 0
        → Becomes r1 r2 (next_with (next_of r1) (place_of r1 start) (place_of r1 node)) (prev_with (next_of r1) (prev_of r1) (place_of r1 start) (place_of r1 node)) (value_of r1)
        → Becomes r r2 (next_with n1 0 k) (prev_with n1 p1 0 k) (value_of r)
    by_touch r2 start zero in' =
        let P : ℕ × ℕ → Type 0 = λ t. Becomes r1 r2 (next_with (next_of r1) t.0 t.1) (prev_with (next_of r1) (prev_of r1) t.0 t.1) (value_of r1) in
        let same : ◌≡◌ {A = ℕ × ℕ} (place_of r1 start, place_of r1 node) (0, k) = λ j. ((place_of-same r r1 start out.block ∙ zero) j, (place_of-same r r1 node out.block ∙ at) j) in
        becomes-then r r1 r2 0 k out_k (subst P same in')

    -- `remove`
    pub by_remove : (r2 r3 : Region T) (spare : Link)
        → Becomes r1 r2 (updated (next_of r1) (place_of r1 node) (place_of r1 spare)) (prev_of r1) (value_of r1)
        → Becomes r2 r3 (next_of r2) (prev_of r2) (updated (value_of r2) (place_of r2 node) None)
        → Becomes r r3 (updated n1 k (place_of r spare)) p1 (updated (value_of r) k None)
    by_remove r2 r3 spare led taken =
        let both : Becomes r r2 (updated n1 k (place_of r spare)) p1 (value_of r) = record {
          laid_out = led.laid_out;
          block = same_then r r1 r2 out.block led.block;
          next = led.next ∙ (λ j. updated (out_k.next j) ((place_of-same r r1 node out.block ∙ at) j) (place_of-same r r1 spare out.block j));
          prev = led.prev ∙ out_k.prev;
          value = led.value ∙ out.value;
        } in
        becomes-value r r2 r3 (updated n1 k (place_of r spare)) p1 k None both (valued_at r2 r3 None both.block taken)

  -- `add`
  pub by_add : (r1 r2 : Region T) (start : Link) (v : T) → place_of r start ≡ 0
      → Becomes r r1 (next_with (next_of r) (place_of r start) (place_of r node)) (prev_with (next_of r) (prev_of r) (place_of r start) (place_of r node)) (value_of r)
      → Becomes r1 r2 (next_of r1) (prev_of r1) (updated (value_of r1) (place_of r1 node) (Some v))
      → Becomes r r2 (next_with (next_of r) 0 k) (prev_with (next_of r) (prev_of r) 0 k) (updated (value_of r) k (Some v))
  by_add r1 r2 start v zero in' filled =
      let P : ℕ × ℕ → Type 0 = λ t. Becomes r r1 (next_with (next_of r) t.0 t.1) (prev_with (next_of r) (prev_of r) t.0 t.1) (value_of r) in
      let same : ◌≡◌ {A = ℕ × ℕ} (place_of r start, place_of r node) (0, k) = λ j. (zero j, at j) in
      becomes-value r r1 r2 (next_with (next_of r) 0 k) (prev_with (next_of r) (prev_of r) 0 k) k (Some v) (subst P same in') (valued_at r1 r2 (Some v) in'.block filled)
