-- The nodes of a new region, as they are pushed one after another.
use Rattle.std.proofs.Common.{◌≡◌, ℕ, zero, suc, ◌+◌, ◌-◌, ◌<◌, ◌≤◌, List, [], ◌∷◌, ◌++◌, length, slice_get, Option, Some, None, ◌⊎◌, inl, inr, refl, sym, ap, ◌∙◌, subst, arith}
use Rattle.std.proofs.lemmas.Option.{slice_get_within}
use Rattle.std.specs.Vec.{vec_ptr, vec_len, vec_capacity}
use Rattle.std_alloc.specs.declared.vec.Vec.{Vec}
use Rattle.std.specs.Mem.{type_size}
use denote.Param.{param}
use denote.RattleType.{RattleType}
use denote.RawPtr.{Ptr, InBlock}
use Rattle.node_arena.specs.contracts.region.ArenaNode as node
use Rattle.node_arena.specs.Addresses.{address_of}
use Rattle.node_arena.specs.Content.{index_in, value_in}
use Rattle.node_arena.specs.Region.{count_of, place_of, node_at, next_in, prev_in, held_in, IsPlaced, IsLaidOut, IsBlank}
use Rattle.node_arena.specs.declared.node_content.NodeContent.TheVariants.{Vacant}
use Rattle.node_arena.specs.declared.links.Link.{Link}
use Rattle.node_arena.specs.declared.region.ArenaNode.{ArenaNode}
use Rattle.node_arena.specs.declared.region.Region.{Region}
use Rattle.node_arena.proofs.Addresses.{leads}

module _ {X : Type 0} where
  -- one of the values before the last, or the last
  slice_get-pushed : (xs : List X) (x : X) (k : ℕ) (y : X) → slice_get (xs ++ x ∷ []) k ≡ Some y → (slice_get xs k ≡ Some y) ⊎ ((length xs ≡ k) × (x ≡ y))
  slice_get-pushed [] x zero y e = inr (refl, cc)
  slice_get-pushed [] x (suc k) y e = cc
  slice_get-pushed (z ∷ zs) x zero y e = inl e
  slice_get-pushed (z ∷ zs) x (suc k) y e = elim (slice_get-pushed zs x k y e) [ inl before ↦ inl before | inr last ↦ inr (ap suc last.0, last.1) ]

  slice_get-some : (xs : List X) (k : ℕ) → k < length xs → (x : X) × (slice_get xs k ≡ Some x)
  slice_get-some [] k within = absurd (omega arith)
  slice_get-some (x ∷ xs) zero within = (x, refl)
  slice_get-some (x ∷ xs) (suc k) within = slice_get-some xs k (omega arith)

-- a node takes some memory, that of its two links alone
pub some_bytes : (R : RattleType) → 1 ≤ type_size (node.the_row (param 0 R))
some_bytes R = omega arith

-- the k-th node leads back to the first and on to the one before it
abbrev pub IsFresh : {T : Type 0} → ℕ → Ptr → ℕ → ArenaNode T → Type 0
IsFresh bytes start k n = (n.prev.to ≡ address_of start bytes 0) × (n.next.to ≡ address_of start bytes (k - 1)) × (n.content ≡ Vacant k)

module _ {T A : Type 0} (bytes : ℕ) (start : Ptr) where
  -- the nodes below the index are there
  pub record AreFresh (v : Vec (ArenaNode T) A) (first last : Link) (count index : ℕ) : Type 0 where
    pub here : start ≡ vec_ptr v
    pub block : InBlock start
    pub room : vec_capacity v ≡ count
    pub long : vec_len v ≡ index
    pub leads_first : first.to ≡ address_of start bytes 0
    pub leads_last : last.to ≡ address_of start bytes (index - 1)
    pub nodes : (k : ℕ) (n : ArenaNode T) → slice_get v.items k ≡ Some n → IsFresh bytes start k n

  -- one more node
  pub fresh_more : (v v' : Vec (ArenaNode T) A) (first last last' : Link) (count index : ℕ) (n : ArenaNode T) → AreFresh v first last count index → IsFresh bytes start index n
      → v'.items ≡ v.items ++ n ∷ [] → vec_len v' ≡ vec_len v + 1 → vec_capacity v' ≡ vec_capacity v → vec_ptr v' ≡ vec_ptr v → last'.to ≡ address_of start bytes index
      → AreFresh v' first last' count (index + 1)
  fresh_more v v' first last last' count index n f new items len cap ptr leads' = record {
    here = f.here ∙ sym ptr;
    block = f.block;
    room = cap ∙ f.room;
    long = len ∙ ap (λ (m : ℕ). m + 1) f.long;
    leads_first = f.leads_first;
    leads_last = leads' ∙ ap (address_of start bytes) (one_off index);
    nodes = λ k m e. elim (slice_get-pushed v.items n k m (ap (λ (xs : List (ArenaNode T)). slice_get xs k) (sym items) ∙ e)) [
      | inl before ↦ f.nodes k m before
      | inr at_end ↦ let at : index ≡ k = sym f.long ∙ v.ok.0 ∙ at_end.0 in subst (λ (m' : ArenaNode T). IsFresh bytes start k m') at_end.1 (subst (λ (i : ℕ). IsFresh bytes start i n) at new)
    ];
  } where
    one_off : (i : ℕ) → i ≡ i + 1 - 1
    one_off i = omega arith

module _ {T : Type 0} (r : Region T) (start : Ptr) (first last : Link) (count index : ℕ) (f : AreFresh r.stride.bytes start r.nodes first last count index) (all : index ≡ count) (some : 1 ≤ count) (pos : 1 ≤ r.stride.bytes) where
  at_start : vec_ptr r.nodes ≡ start
  at_start = sym f.here

  here_block : InBlock (vec_ptr r.nodes)
  here_block = subst (λ (p : Ptr). InBlock p) (sym at_start) f.block

  count_is : count_of r ≡ count
  count_is = f.long ∙ all

  -- a link to the node of an index
  led : (link : Link) (i : ℕ) → link.to ≡ address_of start r.stride.bytes i → i < count → IsPlaced r link × (place_of r link ≡ i)
  led link i is low = leads (vec_ptr r.nodes) r.stride.bytes (count_of r) i link.to here_block pos
      (is ∙ ap (λ (p : Ptr). address_of p r.stride.bytes i) (sym at_start)) (subst (λ (m : ℕ). i < m) (sym count_is) low)

  low_of : (k : ℕ) (n : ArenaNode T) → node_at r k ≡ Some n → k < count
  low_of k n e = subst (λ (m : ℕ). k < m) (sym r.nodes.ok.0 ∙ count_is) (slice_get_within r.nodes.items k n e)

  back : (k : ℕ) (n : ArenaNode T) → node_at r k ≡ Some n → IsPlaced r n.prev × (place_of r n.prev ≡ 0)
  back k n e = led n.prev 0 (f.nodes k n e).0 some

  on : (k : ℕ) (n : ArenaNode T) → node_at r k ≡ Some n → IsPlaced r n.next × (place_of r n.next ≡ k - 1)
  on k n e = let low = low_of k n e in led n.next (k - 1) (f.nodes k n e).1 (omega arith)

  one : (k : ℕ) → k < count_of r → (n : ArenaNode T) × (node_at r k ≡ Some n)
  one k low = slice_get-some r.nodes.items k (subst (λ (m : ℕ). k < m) r.nodes.ok.0 low)

  pub fresh_laid_out : IsLaidOut r
  fresh_laid_out = record {
    positive = pos;
    placed = λ k n e. ((back k n e).0, (on k n e).0);
    named = λ k n e. ap (λ it. index_in it) (f.nodes k n e).2;
  }

  no_value : (k : ℕ) (o : Option (ArenaNode T)) → node_at r k ≡ o → held_in r o ≡ None
  no_value k None e = refl
  no_value k (Some n) e = ap (λ it. value_in it) (f.nodes k n e).2

  pub fresh_blank : IsBlank r
  fresh_blank = record {
    next = λ k low. let n = one k low in ap (next_in r) n.1 ∙ (on k n.0 n.1).1;
    prev = λ k low. let n = one k low in ap (prev_in r) n.1 ∙ (back k n.0 n.1).1;
    value = λ k. no_value k (node_at r k) refl;
  }
