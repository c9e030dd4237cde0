-- A new arena: all nodes but the first are spare, the last first.
use Rattle.std.proofs.Common.{◌≡◌, ℕ, zero, suc, ◌+◌, ◌-◌, ◌<◌, ◌≤◌, true, false, eqb, List, [], ◌∷◌, length, inl, inr, refl, ap, ◌∙◌, subst, sym, arith}
use Rattle.std.proofs.lemmas.Bool.{cases_Bool, eqb-true}
use Rattle.node_arena.specs.Links.{has, IsApart, IsRun}
use Rattle.node_arena.specs.Recency.{IsWhole}
use Rattle.node_arena.specs.Region.{count_of, place_of, next_of, IsPlaced, IsLaidOut, IsBlank}
use Rattle.node_arena.specs.declared.links.Link.{Link}
use Rattle.node_arena.specs.declared.region.Region.{Region}
use Rattle.node_arena.proofs.Chains.{has_in_rest}

-- the indexes from n down to 1
abbrev pub spares : ℕ → List ℕ
spares zero = []
spares (suc n) = suc n ∷ spares n

has-spares : (n k : ℕ) → has k (spares n) ≡ true → (1 ≤ k) × (k ≤ n)
has-spares zero k h = cc
has-spares (suc n) k h = elim (cases_Bool (eqb k (suc n))) [
  | inl e ↦ let is = eqb-true k (suc n) e in (omega arith, omega arith)
  | inr e ↦ let on = has-spares n k (has_in_rest k (suc n) (spares n) e h) in (on.0, omega (arith, on.1))
]

not_there : (n k : ℕ) → ((1 ≤ k) × (k ≤ n) → ⊥) → has k (spares n) ≡ false
not_there n k off = elim (cases_Bool (has k (spares n))) [ inl e ↦ absurd (off (has-spares n k e)) | inr e ↦ e ]

apart-spares : (n : ℕ) → IsApart (spares n)
apart-spares zero = tt
apart-spares (suc n) = (not_there n (suc n) (λ h. let low = h.1 in absurd (omega arith)), apart-spares n)

length-spares : (n : ℕ) → length (spares n) ≡ n
length-spares zero = refl
length-spares (suc n) = ap suc (length-spares n)

-- each index leads to the one below it
run-spares : (next : ℕ → ℕ) (top : ℕ) → ((k : ℕ) → k ≤ top → next k ≡ k - 1) → (n : ℕ) → n ≤ top → IsRun next n (spares n)
run-spares next top down zero low = tt
run-spares next top down (suc n) low =
    let one_less : suc n - 1 ≡ n = omega arith in
    (refl, subst (λ (m : ℕ). IsRun next m (spares n)) (sym (down (suc n) low ∙ one_less)) (run-spares next top down n (omega arith)))

pub whole-new : {T : Type 0} (r : Region T) (first : Link) (capacity : ℕ) → IsLaidOut r → count_of r ≡ capacity + 1 → IsBlank r → IsPlaced r first → place_of r first ≡ capacity → 1 ≤ capacity → capacity ≤ 65536
    → IsWhole r first capacity 0
whole-new r first capacity laid count blank placed at least most =
    let some : 0 < count_of r = omega arith in
    record {
      laid_out = laid;
      placed = placed;
      count = count;
      least = least;
      most = most;
      order = [];
      spare = spares capacity;
      kept = record {
        lists = record {
          chain = (blank.next 0 some, blank.prev 0 some);
          run = subst (λ (m : ℕ). IsRun (next_of r) m (spares capacity)) (sym at) (run-spares (next_of r) capacity (λ k low. blank.next k (omega (arith, count))) capacity (omega arith));
          start_not = (refl, not_there capacity 0 (λ h. let low = h.0 in absurd (omega arith)));
          apart = (tt, apart-spares capacity);
          disjoint = λ k h. cc;
        };
        long = refl;
        total = let long = length-spares capacity in omega arith;
        order_within = λ k h. cc;
        spare_within = λ k h. (has-spares capacity k h).1;
        filled = λ k h. cc;
        only = λ k x e. let none = blank.value k in cc;
      };
    }
