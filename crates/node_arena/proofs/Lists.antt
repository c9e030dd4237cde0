-- The list of the nodes in use and that of the spare ones, after each step on them.
use Rattle.std.proofs.Common.{◌≡◌, ℕ, true, false, eqb, List, [], ◌∷◌, inl, inr, refl, sym, ◌∙◌, subst}
use Rattle.std.proofs.lemmas.Bool.{cases_Bool, eqb-true}
use Rattle.node_arena.specs.Links.{updated, has, strike, IsChain, IsRun, next_without, prev_without, next_with, prev_with}
use Rattle.node_arena.specs.Recency.{AreApart}
use Rattle.node_arena.proofs.Chains.{eqb_turned, updated_here, updated_apart, has_not, has_not_from, has_in_rest, differ, link_before, taken_out, put_in}
use Rattle.node_arena.proofs.Strikes.{has-strike_none, has-strike, has-strike_same, IsApart-strike}

-- a next link that is written elsewhere leaves a run
run_stays : (next : ℕ → ℕ) (i v k : ℕ) (xs : List ℕ) → IsRun next k xs → has i xs ≡ false → IsRun (updated next i v) k xs
run_stays next i v k [] run off = tt
run_stays next i v k (x ∷ xs) run off =
    let on = has_not i x xs off in
    (run.0, subst (λ (m : ℕ). IsRun (updated next i v) m xs) (sym (updated_apart next i v x on.0)) (run_stays next i v (next x) xs run.1 on.1))

-- and a chain
chain_stays : (next prev : ℕ → ℕ) (i v a : ℕ) (xs : List ℕ) (z : ℕ) → IsChain next prev a xs z → has i (a ∷ xs) ≡ false → IsChain (updated next i v) prev a xs z
chain_stays next prev i v a [] z chain off = (updated_apart next i v a (has_not i a [] off).0 ∙ chain.0, chain.1)
chain_stays next prev i v a (x ∷ xs) z chain off =
    let on = has_not i a (x ∷ xs) off in (updated_apart next i v a on.0 ∙ chain.0, chain.1, chain_stays next prev i v x xs z chain.2 on.1)

module _ (next prev : ℕ → ℕ) (order : List ℕ) (head : ℕ) (spare : List ℕ) (t : AreApart next prev order head spare) where
  -- neither a node in use nor the start is spare
  not_spare : (k : ℕ) → has k (0 ∷ order) ≡ true → has k spare ≡ false
  not_spare k on = elim (cases_Bool (eqb k 0)) [
    | inl e ↦ subst (λ (m : ℕ). has m spare ≡ false) (sym (eqb-true k 0 e)) t.start_not.1
    | inr e ↦ t.disjoint k (has_in_rest k 0 order e on)
  ]

  module _ (x : ℕ) (on : has x order ≡ true) where
    abbrev n1 : ℕ → ℕ
    n1 = next_without next prev x

    abbrev p1 : ℕ → ℕ
    p1 = prev_without next prev x

    struck_chain : IsChain n1 p1 0 (strike x order) 0
    struck_chain = taken_out next prev x 0 order 0 t.chain on t.start_not.0 t.start_not.0 t.apart.0

    struck_run : IsRun n1 head spare
    struck_run = run_stays next (prev x) (next x) head spare t.run (not_spare (prev x) (link_before next prev x 0 order 0 t.chain on))

    not_start : eqb x 0 ≡ false
    not_start = differ x 0 order on t.start_not.0

    gone : has x (strike x order) ≡ false
    gone = has-strike_same x order t.apart.0

    start_off : has 0 (strike x order) ≡ false
    start_off = has-strike_none 0 x order t.start_not.0

    -- the node moves to the front
    pub lists-touched : AreApart (next_with n1 0 x) (prev_with n1 p1 0 x) (x ∷ strike x order) head spare
    lists-touched = record {
      chain = put_in n1 p1 x 0 (strike x order) 0 struck_chain not_start not_start gone start_off start_off (IsApart-strike x order t.apart.0);
      run = run_stays (updated n1 x (n1 0)) 0 x head spare (run_stays n1 x (n1 0) head spare struck_run (t.disjoint x on)) t.start_not.1;
      start_not = (has_not_from 0 x (strike x order) (eqb_turned x 0 not_start) start_off, t.start_not.1);
      apart = ((gone, IsApart-strike x order t.apart.0), t.apart.1);
      disjoint = λ k there. elim (cases_Bool (eqb k x)) [
        | inl e ↦ subst (λ (m : ℕ). has m spare ≡ false) (sym (eqb-true k x e)) (t.disjoint x on)
        | inr e ↦ t.disjoint k (has-strike k x order (has_in_rest k x (strike x order) e there))
      ];
    }

    -- the removed node becomes the first spare one
    pub lists-removed : AreApart (updated n1 x head) p1 (strike x order) x (x ∷ spare)
    lists-removed = record {
      chain = chain_stays n1 p1 x head 0 (strike x order) 0 struck_chain (has_not_from x 0 (strike x order) not_start gone);
      run = (refl, subst (λ (m : ℕ). IsRun (updated n1 x head) m spare) (sym (updated_here n1 x head x refl)) (run_stays n1 x head head spare struck_run (t.disjoint x on)));
      start_not = (start_off, has_not_from 0 x spare (eqb_turned x 0 not_start) t.start_not.1);
      apart = (IsApart-strike x order t.apart.0, (t.disjoint x on, t.apart.1));
      disjoint = λ k there. has_not_from k x spare (differ k x (strike x order) there gone) (t.disjoint k (has-strike k x order there));
    }

-- the first spare node becomes the first in use
pub lists-added : (next prev : ℕ → ℕ) (order : List ℕ) (x : ℕ) (spare : List ℕ) → AreApart next prev order x (x ∷ spare) → has x order ≡ false
    → AreApart (next_with next 0 x) (prev_with next prev 0 x) (x ∷ order) (next x) spare
lists-added next prev order x spare t off =
    let start = has_not 0 x spare t.start_not.1 in let not_start = eqb_turned 0 x start.0 in
    record {
      chain = put_in next prev x 0 order 0 t.chain not_start not_start off t.start_not.0 t.start_not.0 t.apart.0;
      run = run_stays (updated next x (next 0)) 0 x (next x) spare (run_stays next x (next 0) (next x) spare t.run.1 t.apart.1.0) start.1;
      start_not = (has_not_from 0 x order start.0 t.start_not.0, start.1);
      apart = ((off, t.apart.0), t.apart.1.1);
      disjoint = λ k there. elim (cases_Bool (eqb k x)) [
        | inl e ↦ subst (λ (m : ℕ). has m spare ≡ false) (sym (eqb-true k x e)) t.apart.1.0
        | inr e ↦ (has_not k x spare (t.disjoint k (has_in_rest k x order e there))).1
      ];
    }
