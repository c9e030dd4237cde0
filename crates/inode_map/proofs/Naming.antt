-- Notes and nodes that name each other, after a touch, a loss and an addition.
use Rattle.std.proofs.Common.{◌≡◌, ◌≢◌, ℕ, ◌<◌, ◌≤◌, Bool, true, false, cond, List, [], ◌∷◌, Option, Some, None, inl, inr, ◌⊎◌, refl, sym, ap, ◌∙◌, subst, arith}
use Rattle.std.specs.Prelude.{◌==◌, not, nat_lt}
use Rattle.std.proofs.lemmas.Bool.Decides.{nat_tests}
use Rattle.std.specs.BTreeMap.{insert_entry}
use Rattle.std.specs.Ordering.{nat_cmp, match_ordering}
use Rattle.std.specs.Cmp.{nat_cmp_is}
use Rattle.std.specs.declared.cmp.Ordering.{Ordering}
use Rattle.std.specs.declared.cmp.Ordering.TheVariants.{Less, Equal, Greater}
use Rattle.eden_base.proofs.MemberLemmas.{some-same, some-none}
use Rattle.eden_base.proofs.NumberTests.{eq-true, eq-false, eq-or}
use Rattle.entry_table.specs.Table.{note_of, without_note}
use Rattle.inode_map.specs.Loaded.{slot_noted, AreNamed}
use Rattle.inode_map.specs.declared.loaded.LoadedAttr.{LoadedAttr}
use Rattle.node_arena.specs.Arena.{Arena, is_slot, value_at}
use Rattle.node_arena.specs.declared.slot.Slot.{Slot}

-- a number without its note
pub note-gone : (notes : List (ℕ × ℕ)) (n : ℕ) → note_of (without_note notes n) n ≡ None
note-gone [] n = refl
note-gone ((k, note) ∷ notes) n = in_ (k == n) refl (note-gone notes n) where
  in_ : (b : Bool) → (k == n) ≡ b → note_of (without_note notes n) n ≡ None → note_of (cond (not b) ((k, note) ∷ without_note notes n) (without_note notes n)) n ≡ None
  in_ true t rest = rest
  in_ false t rest = ap (λ b. cond b (Some note) (note_of (without_note notes n) n)) t ∙ rest

pub note-other : (notes : List (ℕ × ℕ)) (n m : ℕ) → (m ≡ n → ⊥) → note_of (without_note notes n) m ≡ note_of notes m
note-other [] n m other = refl
note-other ((k, note) ∷ notes) n m other = in_ (eq-or k n) (note-other notes n m other) where
  in_ : (k ≡ n) ⊎ (k ≡ n → ⊥) → note_of (without_note notes n) m ≡ note_of notes m → note_of (without_note ((k, note) ∷ notes) n) m ≡ note_of ((k, note) ∷ notes) m
  in_ (inl same) rest =
      ap (λ b. note_of (cond (not b) ((k, note) ∷ without_note notes n) (without_note notes n)) m) (eq-true k n same) ∙ rest
      ∙ sym (ap (λ b. cond b (Some note) (note_of notes m)) (eq-false k m (λ e. other (sym e ∙ same))))
  in_ (inr apart) rest =
      ap (λ b. note_of (cond (not b) ((k, note) ∷ without_note notes n) (without_note notes n)) m) (eq-false k n apart)
      ∙ ap (λ (o : Option ℕ). cond (k == m) (Some note) o) rest

above : (n k : ℕ) → (n ≡ k → ⊥) → k ≤ n → k < n
above n k other low = let apart : k ≡ n → ⊥ = λ e. other (sym e) in omega arith

-- a number with a note
pub note-put : (notes : List (ℕ × ℕ)) (n note : ℕ) → note_of (insert_entry nat_cmp notes n note) n ≡ Some note
note-put [] n note = ap (λ b. cond b (Some note) None) (eq-true n n refl)
note-put ((k, was) ∷ notes) n note = in_ (eq-or n k) (nat_lt n k) refl (note-put notes n note) where
  put : Ordering → List (ℕ × ℕ)
  put o = match_ordering o ((n, note) ∷ (k, was) ∷ notes) ((k, note) ∷ notes) ((k, was) ∷ insert_entry nat_cmp notes n note)

  in_ : (n ≡ k) ⊎ (n ≡ k → ⊥) → (b : Bool) → nat_lt n k ≡ b → note_of (insert_entry nat_cmp notes n note) n ≡ Some note → note_of (put (nat_cmp n k)) n ≡ Some note
  in_ (inl same) b t rest = ap (λ (o : Ordering). note_of (put o) n) (sym (nat_cmp_is n k Equal same)) ∙ ap (λ d. cond d (Some note) (note_of notes n)) (eq-true k n (sym same))
  in_ (inr other) true t rest =
      let less : n < k = grind (arith, nat_tests) in
      ap (λ (o : Ordering). note_of (put o) n) (sym (nat_cmp_is n k Less less)) ∙ ap (λ d. cond d (Some note) (note_of ((k, was) ∷ notes) n)) (eq-true n n refl)
  in_ (inr other) false t rest =
      let low : k ≤ n = grind (arith, nat_tests) in
      let more : k < n = above n k other low in
      ap (λ (o : Ordering). note_of (put o) n) (sym (nat_cmp_is n k Greater more)) ∙ ap (λ d. cond d (Some was) (note_of (insert_entry nat_cmp notes n note) n)) (eq-false k n (λ e. other (sym e))) ∙ rest

pub note-put_other : (notes : List (ℕ × ℕ)) (n note m : ℕ) → (m ≡ n → ⊥) → note_of (insert_entry nat_cmp notes n note) m ≡ note_of notes m
note-put_other [] n note m other = ap (λ b. cond b (Some note) None) (eq-false n m (λ e. other (sym e)))
note-put_other ((k, was) ∷ notes) n note m other = in_ (eq-or n k) (nat_lt n k) refl (note-put_other notes n note m other) where
  put : Ordering → List (ℕ × ℕ)
  put o = match_ordering o ((n, note) ∷ (k, was) ∷ notes) ((k, note) ∷ notes) ((k, was) ∷ insert_entry nat_cmp notes n note)

  in_ : (n ≡ k) ⊎ (n ≡ k → ⊥) → (b : Bool) → nat_lt n k ≡ b → note_of (insert_entry nat_cmp notes n note) m ≡ note_of notes m → note_of (put (nat_cmp n k)) m ≡ note_of ((k, was) ∷ notes) m
  in_ (inl same) b t rest =
      let apart : (k == m) ≡ false = eq-false k m (λ e. other (sym e ∙ sym same)) in
      ap (λ (o : Ordering). note_of (put o) m) (sym (nat_cmp_is n k Equal same)) ∙ ap (λ d. cond d (Some note) (note_of notes m)) apart ∙ sym (ap (λ d. cond d (Some was) (note_of notes m)) apart)
  in_ (inr apart) true t rest =
      let less : n < k = grind (arith, nat_tests) in
      ap (λ (o : Ordering). note_of (put o) m) (sym (nat_cmp_is n k Less less)) ∙ ap (λ d. cond d (Some note) (note_of ((k, was) ∷ notes) m)) (eq-false n m (λ e. other (sym e)))
  in_ (inr apart) false t rest =
      let low : k ≤ n = grind (arith, nat_tests) in
      let more : k < n = above n k apart low in
      ap (λ (o : Ordering). note_of (put o) m) (sym (nat_cmp_is n k Greater more)) ∙ ap (λ (o : Option ℕ). cond (k == m) (Some was) o) rest

-- a slot of another index
apart-slot : (s : Slot) (note : ℕ) → (note ≡ s.index → ⊥) → slot_noted note ≢ s
apart-slot s note other = λ e. other (ap (λ (t : Slot). t.index) e)

-- the same slots have the same attributes
pub named-touched : (notes : List (ℕ × ℕ)) (old new : Arena LoadedAttr) → ((s : Slot) → value_at new s ≡ value_at old s) → AreNamed notes old → AreNamed notes new
named-touched notes old new same named = record {
  noted = λ n note at. let w = named.noted n note at in (w.0, same (slot_noted note) ∙ w.1, w.2);
  held = λ s loaded at. named.held s loaded (sym (same s) ∙ at);
}

-- a number without a note loses it
pub named-unnoted : (notes : List (ℕ × ℕ)) (nodes : Arena LoadedAttr) (n : ℕ) → note_of notes n ≡ None → AreNamed notes nodes → AreNamed (without_note notes n) nodes
named-unnoted notes nodes n none named = record {
  noted = λ m note at. named.noted m note (sym (same m (eq-or m n)) ∙ at);
  held = λ s loaded at. same loaded.number.0 (eq-or loaded.number.0 n) ∙ named.held s loaded at;
} where
  same : (m : ℕ) → (m ≡ n) ⊎ (m ≡ n → ⊥) → note_of (without_note notes n) m ≡ note_of notes m
  same m (inl is) = subst (λ (k : ℕ). note_of (without_note notes n) k ≡ note_of notes k) (sym is) (note-gone notes n ∙ sym none)
  same m (inr other) = note-other notes n m other

-- a node leaves, and the note of its number
pub named-lost : (notes : List (ℕ × ℕ)) (old new : Arena LoadedAttr) (n : ℕ) (s : Slot) → note_of notes n ≡ Some s.index → value_at new s ≡ None → ((t : Slot) → t ≢ s → value_at new t ≡ value_at old t) →
    AreNamed notes old → AreNamed (without_note notes n) new
named-lost notes old new n s noted gone others named = record {
  noted = λ m note at. noted_in m note at (eq-or m n);
  held = λ t loaded at. held_in t loaded at (eq-or t.index s.index);
} where
  -- another number has another slot
  apart_in : (m note : ℕ) → (m ≡ n → ⊥) → note_of notes m ≡ Some note → note ≡ s.index → ⊥
  apart_in m note other at same =
      let w = named.noted m note at in
      let v = named.noted n s.index noted in
      let there : value_at old s ≡ Some w.0 = subst (λ (k : ℕ). value_at old (slot_noted k) ≡ Some w.0) same w.1 in
      other (sym w.2 ∙ ap (λ (l : LoadedAttr). l.number.0) (some-same (value_at old s) w.0 v.0 there v.1) ∙ v.2)

  noted_in : (m note : ℕ) → note_of (without_note notes n) m ≡ Some note → (m ≡ n) ⊎ (m ≡ n → ⊥) → (loaded : LoadedAttr) × (value_at new (slot_noted note) ≡ Some loaded) × (loaded.number.0 ≡ m)
  noted_in m note at (inl same) = absurd (some-none (note_of (without_note notes n) m) note at (ap (note_of (without_note notes n)) same ∙ note-gone notes n))
  noted_in m note at (inr other) =
      let was : note_of notes m ≡ Some note = sym (note-other notes n m other) ∙ at in
      let w = named.noted m note was in
      (w.0, others (slot_noted note) (apart-slot s note (apart_in m note other was)) ∙ w.1, w.2)

  held_in : (t : Slot) (loaded : LoadedAttr) → value_at new t ≡ Some loaded → (t.index ≡ s.index) ⊎ (t.index ≡ s.index → ⊥) → note_of (without_note notes n) loaded.number.0 ≡ Some t.index
  held_in t loaded at (inl same) = absurd (some-none (value_at new t) loaded at (ap (λ (k : ℕ). value_at new (slot_noted k)) same ∙ gone))
  held_in t loaded at (inr other) =
      let was : note_of notes loaded.number.0 ≡ Some t.index = named.held t loaded (sym (others t (apart-slot s t.index other)) ∙ at) in
      let apart : loaded.number.0 ≡ n → ⊥ = λ same. other (some-same (note_of notes n) t.index s.index (subst (λ (k : ℕ). note_of notes k ≡ Some t.index) same was) noted) in
      note-other notes n loaded.number.0 apart ∙ was

-- a node is added, and noted
pub named-added : (notes : List (ℕ × ℕ)) (old new : Arena LoadedAttr) (s : Slot) (x : LoadedAttr) → note_of notes x.number.0 ≡ None → value_at old s ≡ None →
    ((t : Slot) → value_at new t ≡ cond (is_slot t s) (Some x) (value_at old t)) → AreNamed notes old → AreNamed (insert_entry nat_cmp notes x.number.0 s.index) new
named-added notes old new s x none fresh added named = record {
  noted = λ m note at. noted_in m note at (eq-or m x.number.0);
  held = λ t loaded at. held_in t loaded at (eq-or t.index s.index);
} where
  here : (t : Slot) → t.index ≡ s.index → value_at new t ≡ Some x
  here t same = added t ∙ ap (λ b. cond b (Some x) (value_at old t)) (eq-true t.index s.index same)

  there : (t : Slot) → (t.index ≡ s.index → ⊥) → value_at new t ≡ value_at old t
  there t other = added t ∙ ap (λ b. cond b (Some x) (value_at old t)) (eq-false t.index s.index other)

  noted_in : (m note : ℕ) → note_of (insert_entry nat_cmp notes x.number.0 s.index) m ≡ Some note → (m ≡ x.number.0) ⊎ (m ≡ x.number.0 → ⊥) →
      (loaded : LoadedAttr) × (value_at new (slot_noted note) ≡ Some loaded) × (loaded.number.0 ≡ m)
  noted_in m note at (inl same) =
      let is : note ≡ s.index = some-same (note_of (insert_entry nat_cmp notes x.number.0 s.index) m) note s.index at
      (ap (note_of (insert_entry nat_cmp notes x.number.0 s.index)) same ∙ note-put notes x.number.0 s.index) in
      (x, here (slot_noted note) is, sym same)
  noted_in m note at (inr other) =
      let was : note_of notes m ≡ Some note = sym (note-put_other notes x.number.0 s.index m other) ∙ at in
      let w = named.noted m note was in
      let apart : note ≡ s.index → ⊥ = λ same. some-none (value_at old (slot_noted note)) w.0 w.1 (ap (λ (k : ℕ). value_at old (slot_noted k)) same ∙ fresh) in
      (w.0, there (slot_noted note) apart ∙ w.1, w.2)

  held_in : (t : Slot) (loaded : LoadedAttr) → value_at new t ≡ Some loaded → (t.index ≡ s.index) ⊎ (t.index ≡ s.index → ⊥) → note_of (insert_entry nat_cmp notes x.number.0 s.index) loaded.number.0 ≡ Some t.index
  held_in t loaded at (inl same) =
      let is : loaded ≡ x = some-same (value_at new t) loaded x at (here t same) in
      ap (λ (l : LoadedAttr). note_of (insert_entry nat_cmp notes x.number.0 s.index) l.number.0) is ∙ note-put notes x.number.0 s.index ∙ ap Some (sym same)
  held_in t loaded at (inr other) =
      let was : note_of notes loaded.number.0 ≡ Some t.index = named.held t loaded (sym (there t other) ∙ at) in
      let apart : loaded.number.0 ≡ x.number.0 → ⊥ = λ same. some-none (note_of notes x.number.0) t.index (subst (λ (k : ℕ). note_of notes k ≡ Some t.index) same was) none in
      note-put_other notes x.number.0 s.index loaded.number.0 apart ∙ was
