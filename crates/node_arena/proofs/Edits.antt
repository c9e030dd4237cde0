-- A region in which one node is written.
use Rattle.std.proofs.Common.{◌≡◌, ◌≢◌, ℕ, zero, suc, ◌<◌, true, false, eqb, List, [], ◌∷◌, Option, Some, length, slice_get, set, refl, sym, ap, ◌∙◌, subst, inl, inr, arith, length-set, get_or-set_same}
use Rattle.std.proofs.lemmas.Bool.{cases_Bool, eqb-true, eqb-false, cond-true, cond-false}
use Rattle.std.proofs.lemmas.Option.{slice_get-get_or, slice_get_within}
use Rattle.node_arena.specs.Content.{index_in, content_with}
use Rattle.node_arena.specs.Links.{updated}
use Rattle.node_arena.specs.Region.{next_in, prev_in, held_in, node_at, next_of, prev_of, value_of, IsPlaced, IsLaidOut, Becomes}
use Rattle.node_arena.specs.RegionLends.{with_node, with_value, with_value_in}
use Rattle.node_arena.specs.declared.region.ArenaNode.{ArenaNode}
use Rattle.node_arena.specs.declared.region.Region.{Region}

slice_get-set_same : {X : Type 0} (xs : List X) (i : ℕ) (x : X) → i < length xs → slice_get (set xs i x) i ≡ Some x
slice_get-set_same xs i x within =
    let long = length-set xs i x in slice_get-get_or (set xs i x) i x (omega (arith, long)) ∙ ap (λ y. Some y) (get_or-set_same xs i x x within)

slice_get-set_other : {X : Type 0} (xs : List X) (i : ℕ) (x : X) (k : ℕ) → i ≢ k → slice_get (set xs i x) k ≡ slice_get xs k
slice_get-set_other [] i x k other = refl
slice_get-set_other (y ∷ ys) zero x zero other = absurd (other refl)
slice_get-set_other (y ∷ ys) zero x (suc k) other = refl
slice_get-set_other (y ∷ ys) (suc i) x zero other = refl
slice_get-set_other (y ∷ ys) (suc i) x (suc k) other = slice_get-set_other ys i x k (λ e. other (ap suc e))

-- the node old at i is replaced by n
module _ {T : Type 0} (r : Region T) (i : ℕ) (old n : ArenaNode T) (was : node_at r i ≡ Some old) where
  here : (k : ℕ) → eqb i k ≡ true → node_at (with_node r i n) k ≡ Some n
  here k e = ap (λ m. node_at (with_node r i n) m) (sym (eqb-true i k e)) ∙ slice_get-set_same r.nodes.items i n (slice_get_within r.nodes.items i old was)

  elsewhere : (k : ℕ) → eqb i k ≡ false → node_at (with_node r i n) k ≡ node_at r k
  elsewhere k e = slice_get-set_other r.nodes.items i n k (eqb-false i k e)

  -- what is read of the node that was written, and of the others
  pub written : {X : Type 0} (f : Option (ArenaNode T) → X) (v : X) → f (Some n) ≡ v → ◌≡◌ {A = ℕ → X} (λ k. f (node_at (with_node r i n) k)) (updated (λ k. f (node_at r k)) i v)
  written {X} f v e = λ j k. each k j where
    each : (k : ℕ) → f (node_at (with_node r i n) k) ≡ updated (λ m. f (node_at r m)) i v k
    each k = elim (cases_Bool (eqb i k)) [
      | inl y ↦ ap f (here k y) ∙ e ∙ sym (cond-true (eqb i k) v (f (node_at r k)) y)
      | inr y ↦ ap f (elsewhere k y) ∙ sym (cond-false (eqb i k) v (f (node_at r k)) y)
    ]

  -- what the new node has as the old one had it
  pub kept : {X : Type 0} (f : Option (ArenaNode T) → X) → f (Some n) ≡ f (Some old) → ◌≡◌ {A = ℕ → X} (λ k. f (node_at (with_node r i n) k)) (λ k. f (node_at r k))
  kept {X} f e = λ j k. each k j where
    each : (k : ℕ) → f (node_at (with_node r i n) k) ≡ f (node_at r k)
    each k = elim (cases_Bool (eqb i k)) [
      | inl y ↦ ap f (here k y) ∙ e ∙ ap f (sym was) ∙ ap (λ m. f (node_at r m)) (eqb-true i k y)
      | inr y ↦ ap f (elsewhere k y)
    ]

  module _ (sound : IsLaidOut r) (back : IsPlaced r n.prev) (on : IsPlaced r n.next) (same : index_in n.content ≡ index_in old.content) where
    laid_out : IsLaidOut (with_node r i n)
    laid_out = record {
      positive = sound.positive;
      placed = λ k m e. elim (cases_Bool (eqb i k)) [
        | inl y ↦ let is : n ≡ m = cc (here k y) in subst (λ (x : ArenaNode T). IsPlaced r x.prev × IsPlaced r x.next) is (back, on)
        | inr y ↦ sound.placed k m (sym (elsewhere k y) ∙ e)
      ];
      named = λ k m e. elim (cases_Bool (eqb i k)) [
        | inl y ↦ let is : n ≡ m = cc (here k y) in ap (λ (x : ArenaNode T). index_in x.content) (sym is) ∙ same ∙ sound.named i old was ∙ eqb-true i k y
        | inr y ↦ sound.named k m (sym (elsewhere k y) ∙ e)
      ];
    }

    -- the region as its links and values show it
    pub becomes : (nexts prevs : ℕ → ℕ) (values : ℕ → Option T) → next_of (with_node r i n) ≡ nexts → prev_of (with_node r i n) ≡ prevs → value_of (with_node r i n) ≡ values
        → Becomes r (with_node r i n) nexts prevs values
    becomes nexts prevs values a b c = record { laid_out = laid_out; block = record { count = refl; start = refl; bytes = refl }; next = a; prev = b; value = c }

-- the value of a node is written
pub becomes-valued : {T : Type 0} (r : Region T) (i : ℕ) (old : ArenaNode T) → node_at r i ≡ Some old → IsLaidOut r → (w : T) → Becomes r (with_value r i w) (next_of r) (prev_of r) (updated (value_of r) i (Some w))
becomes-valued {T} r i old was sound w =
    let n : ArenaNode T = record { prev = old.prev; next = old.next; content = content_with old.content w } in let on = sound.placed i old was in
    subst (λ (q : Region T). Becomes r q (next_of r) (prev_of r) (updated (value_of r) i (Some w))) (ap (λ o. with_value_in r o i w) (sym was))
    (becomes r i old n was sound on.0 on.1 refl (next_of r) (prev_of r) (updated (value_of r) i (Some w))
    (kept r i old n was (next_in r) refl) (kept r i old n was (prev_in r) refl) (written r i old n was (held_in r) (Some w) refl))
