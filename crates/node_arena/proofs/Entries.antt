-- The entries of an arena, from the indexes of its nodes and their values.
use Rattle.std.proofs.Common.{◌≡◌, ℕ, suc, ◌-◌, Bool, true, false, cond, eqb, List, [], ◌∷◌, map, length, slice_get, Option, Some, None, inl, inr, refl, sym, ap, ◌∙◌, subst, arith}
use Rattle.std.proofs.lemmas.Bool.{cases_Bool, eqb-true}
use Rattle.std.specs.List.{AllByRecursion, IsDistinct}
use Rattle.std.specs.Map.{keys_of, lookup, remove_entry, set_value}
use Rattle.node_arena.specs.Arena.{is_slot}
use Rattle.node_arena.specs.Links.{updated, has, IsApart, strike, IsChain}
use Rattle.node_arena.specs.Recency.{walked, entry_at, entries_at}
use Rattle.node_arena.specs.declared.slot.Slot.{Slot}
use Rattle.node_arena.proofs.Chains.{has_not, has_first, has_later, updated_apart}

-- the slot of the index
abbrev pub slot_at : ℕ → Slot
slot_at k = record { index = k }

-- the way along a chain is its list
pub walked-chain : (next prev : ℕ → ℕ) (a : ℕ) (xs : List ℕ) (z : ℕ) → IsChain next prev a xs z → walked next (length xs) (next a) ≡ xs
walked-chain next prev a [] z c = refl
walked-chain next prev a (x ∷ xs) z c = (λ j. c.0 j ∷ walked next (length xs) (next (c.0 j))) ∙ ap (λ (l : List ℕ). x ∷ l) (walked-chain next prev x xs z c.2)

-- the last index of a chain is the one before its end
pub last-chain : (next prev : ℕ → ℕ) (a x : ℕ) (xs : List ℕ) (z : ℕ) → IsChain next prev a (x ∷ xs) z → slice_get (map slot_at (x ∷ xs)) (length xs) ≡ Some (slot_at (prev z))
last-chain next prev a x [] z c = ap (λ (k : ℕ). Some (slot_at k)) (sym c.2.1)
last-chain next prev a x (y ∷ ys) z c = last-chain next prev x y ys z c.2

-- the last index of a chain that is not empty is the one before its end
pub last_slot-chain : (next prev : ℕ → ℕ) (a : ℕ) (xs : List ℕ) (z : ℕ) → IsChain next prev a xs z → (length xs ≡ 0 → ⊥) → slice_get (map slot_at xs) (length xs - 1) ≡ Some (slot_at (prev z))
last_slot-chain next prev a [] z c h = absurd (h refl)
last_slot-chain next prev a (x ∷ xs) z c h =
    let one_less : suc (length xs) - 1 ≡ length xs = omega arith in ap (λ (n : ℕ). slice_get (map slot_at (x ∷ xs)) n) one_less ∙ last-chain next prev a x xs z c

apart_slots : (x : ℕ) (xs : List ℕ) → has x xs ≡ false → AllByRecursion (λ (s : Slot). is_slot (slot_at x) s ≡ false) (map slot_at xs)
apart_slots x [] h = tt
apart_slots x (y ∷ ys) h = let off = has_not x y ys h in (off.0, apart_slots x ys off.1)

pub distinct_slots : (xs : List ℕ) → IsApart xs → IsDistinct is_slot (map slot_at xs)
unfolding IsDistinct
distinct_slots [] h = tt
distinct_slots (x ∷ xs) h = (apart_slots x xs h.0, distinct_slots xs h.1)

module _ {T : Type 0} where
  -- each index has a value
  abbrev pub AreFilled : (ℕ → Option T) → List ℕ → Type 0
  AreFilled f ks = (k : ℕ) → has k ks ≡ true → (x : T) × (f k ≡ Some x)

  rest_filled : (f : ℕ → Option T) (k : ℕ) (ks : List ℕ) → AreFilled f (k ∷ ks) → AreFilled f ks
  rest_filled f k ks h m on = h m (has_later m k ks on)

  pub keys_of-entries_at : (f : ℕ → Option T) (ks : List ℕ) → AreFilled f ks → keys_of (entries_at f ks) ≡ map slot_at ks
  keys_of-entries_at f [] h = refl
  keys_of-entries_at f (k ∷ ks) h = rw ((h k (has_first k k ks refl)).1) (ap (λ (l : List Slot). slot_at k ∷ l) (keys_of-entries_at f ks (rest_filled f k ks h)))

  pub length-entries_at : (f : ℕ → Option T) (ks : List ℕ) → AreFilled f ks → length (entries_at f ks) ≡ length ks
  length-entries_at f [] h = refl
  length-entries_at f (k ∷ ks) h = rw ((h k (has_first k k ks refl)).1) (ap suc (length-entries_at f ks (rest_filled f k ks h)))

  -- a value at an index that is not listed
  pub entries_at-updated : (f : ℕ → Option T) (i : ℕ) (v : Option T) (ks : List ℕ) → has i ks ≡ false → entries_at (updated f i v) ks ≡ entries_at f ks
  entries_at-updated f i v [] h = refl
  entries_at-updated f i v (k ∷ ks) h = let off = has_not i k ks h in
      λ j. entry_at k (updated_apart f i v k off.0 j) (entries_at-updated f i v ks off.1 j)

  module _ (f : ℕ → Option T) (s : Slot) where
    found : (k : ℕ) (ks : List ℕ) (v : Option T) → f k ≡ v → lookup (is_slot s) (entries_at f ks) ≡ cond (has s.index ks) (f s.index) None
        → lookup (is_slot s) (entry_at k v (entries_at f ks)) ≡ cond (has s.index (k ∷ ks)) (f s.index) None
    found k ks None e on = elim (cases_Bool (eqb s.index k)) [
      | inl y ↦ let none : f s.index ≡ None = ap f (eqb-true s.index k y) ∙ e in rw y (on ∙ ap (λ (v : Option T). cond (has s.index ks) v None) none ∙ either (has s.index ks) ∙ sym none)
      | inr y ↦ rw y on
    ] where
      either : (b : Bool) → let none : Option T = None in cond b none none ≡ none
      either true = refl
      either false = refl
    found k ks (Some x) e on = elim (cases_Bool (eqb s.index k)) [
      | inl y ↦ rw y (sym e ∙ ap f (sym (eqb-true s.index k y)))
      | inr y ↦ rw y on
    ]

    pub lookup-entries_at : (ks : List ℕ) → lookup (is_slot s) (entries_at f ks) ≡ cond (has s.index ks) (f s.index) None
    lookup-entries_at [] = refl
    lookup-entries_at (k ∷ ks) = found k ks (f k) refl (lookup-entries_at ks)

    module _ (x : T) (is : f s.index ≡ Some x) where
      struck : (k : ℕ) (ks : List ℕ) (v : Option T) → f k ≡ v → remove_entry (is_slot s) (entries_at f ks) ≡ entries_at f (strike s.index ks)
          → remove_entry (is_slot s) (entry_at k v (entries_at f ks)) ≡ entries_at f (strike s.index (k ∷ ks))
      struck k ks None e on = elim (cases_Bool (eqb s.index k)) [
        | inl y ↦ let none : f s.index ≡ None = ap f (eqb-true s.index k y) ∙ e in cc
        | inr y ↦ rw y (rw e on)
      ]
      struck k ks (Some w) e on = elim (cases_Bool (eqb s.index k)) [
        | inl y ↦ rw y refl
        | inr y ↦ rw y (rw e (ap (λ (l : List (Slot × T)). (slot_at k, w) ∷ l) on))
      ]

      pub remove_entry-entries_at : (ks : List ℕ) → remove_entry (is_slot s) (entries_at f ks) ≡ entries_at f (strike s.index ks)
      remove_entry-entries_at [] = refl
      remove_entry-entries_at (k ∷ ks) = struck k ks (f k) refl (remove_entry-entries_at ks)

      module _ (w : T) where
        after : ℕ → Option T
        after = updated f s.index (Some w)

        put : (k : ℕ) (ks : List ℕ) (v : Option T) → f k ≡ v → has k ks ≡ false → set_value (is_slot s) (entries_at f ks) w ≡ entries_at after ks
            → set_value (is_slot s) (entry_at k v (entries_at f ks)) w ≡ entries_at after (k ∷ ks)
        unfolding after
        put k ks None e off on = elim (cases_Bool (eqb s.index k)) [
          | inl y ↦ let none : f s.index ≡ None = ap f (eqb-true s.index k y) ∙ e in cc
          | inr y ↦ rw y (rw e on)
        ]
        put k ks (Some v) e off on = elim (cases_Bool (eqb s.index k)) [
          | inl y ↦ let gone : has s.index ks ≡ false = subst (λ (m : ℕ). has m ks ≡ false) (sym (eqb-true s.index k y)) off in
              rw y (ap (λ (l : List (Slot × T)). (slot_at k, w) ∷ l) (sym (entries_at-updated f s.index (Some w) ks gone)))
          | inr y ↦ rw y (rw e (ap (λ (l : List (Slot × T)). (slot_at k, v) ∷ l) on))
        ]

        pub set_value-entries_at : (ks : List ℕ) → IsApart ks → set_value (is_slot s) (entries_at f ks) w ≡ entries_at (updated f s.index (Some w)) ks
        unfolding after
        set_value-entries_at [] h = refl
        set_value-entries_at (k ∷ ks) h = put k ks (f k) refl h.0 (set_value-entries_at ks h.1)
