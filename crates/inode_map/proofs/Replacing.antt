-- The oldest node gets the attributes of another number, and becomes the first.
use Rattle.std.proofs.Common.{◌≡◌, ℕ, Bool, true, false, cond, List, [], ◌∷◌, Option, Some, None, inl, inr, ◌⊎◌, refl, sym, ap, ◌∙◌, subst}
use Rattle.std.specs.List.{AllByRecursion, IsDistinct}
use Rattle.std.specs.Map.{keys_of, lookup, remove_entry, set_value}
use Rattle.std.specs.Option.{option_map_or}
use Rattle.std.specs.BTreeMap.{insert_entry}
use Rattle.std.specs.Ordering.{nat_cmp}
use Rattle.eden_base.proofs.NumberTests.{eq-false, eq-or}
use Rattle.entry_table.specs.Table.{note_of, without_note}
use Rattle.inode_map.specs.Loaded.{AreNamed}
use Rattle.inode_map.specs.declared.loaded.LoadedAttr.{LoadedAttr}
use Rattle.inode_map.proofs.Loading.{Held, same-slot}
use Rattle.inode_map.proofs.Naming.{note-gone, note-other, named-lost, named-added}
use Rattle.node_arena.proofs.CallerLemmas.{value_at-with_value}
use Rattle.node_arena.specs.Arena.{Arena, IsHeld, arena, is_slot, slots_of, value_at, with_first, without, with_value, touched}
use Rattle.node_arena.specs.declared.slot.Slot.{Slot}

-- a slot that stands nowhere has no attributes
absent : (s : Slot) (es : Held) → AllByRecursion (λ (t : Slot). is_slot s t ≡ false) (keys_of es) → lookup (is_slot s) es ≡ None
absent s [] others = refl
absent s (e ∷ es) others = ap (λ b. cond b (Some e.1) (lookup (is_slot s) es)) others.0 ∙ absent s es others.1

-- nor has one that was removed
gone : (s : Slot) (es : Held) → IsDistinct is_slot (keys_of es) → lookup (is_slot s) (remove_entry (is_slot s) es) ≡ None
unfolding IsDistinct
gone s [] distinct = refl
gone s (e ∷ es) distinct = in_ (is_slot s e.0) refl (gone s es distinct.1) where
  in_ : (b : Bool) → is_slot s e.0 ≡ b → lookup (is_slot s) (remove_entry (is_slot s) es) ≡ None → lookup (is_slot s) (cond b es (e ∷ remove_entry (is_slot s) es)) ≡ None
  in_ true at rest = absent s es (subst (λ (t : Slot). AllByRecursion (λ (u : Slot). is_slot t u ≡ false) (keys_of es)) (same-slot s e.0 at) distinct.0)
  in_ false at rest = ap (λ b. cond b (Some e.1) (lookup (is_slot s) (remove_entry (is_slot s) es))) at ∙ rest

-- all other slots keep theirs
kept : (s t : Slot) (es : Held) → is_slot t s ≡ false → lookup (is_slot t) (remove_entry (is_slot s) es) ≡ lookup (is_slot t) es
kept s t [] other = refl
kept s t (e ∷ es) other = in_ (is_slot s e.0) refl (kept s t es other) where
  in_ : (b : Bool) → is_slot s e.0 ≡ b → lookup (is_slot t) (remove_entry (is_slot s) es) ≡ lookup (is_slot t) es →
      lookup (is_slot t) (cond b es (e ∷ remove_entry (is_slot s) es)) ≡ lookup (is_slot t) (e ∷ es)
  in_ true at rest =
      let apart : is_slot t e.0 ≡ false = ap (is_slot t) (same-slot s e.0 at) ∙ other in
      sym (ap (λ b. cond b (Some e.1) (lookup (is_slot t) es)) apart)
  in_ false at rest = ap (λ (o : Option LoadedAttr). cond (is_slot t e.0) (Some e.1) o) rest

-- what is written into a slot is of no matter once the slot is removed
written : (s : Slot) (x : LoadedAttr) (es : Held) → remove_entry (is_slot s) (set_value (is_slot s) es x) ≡ remove_entry (is_slot s) es
written s x [] = refl
written s x (e ∷ es) = in_ (is_slot s e.0) refl (written s x es) where
  in_ : (b : Bool) → is_slot s e.0 ≡ b → remove_entry (is_slot s) (set_value (is_slot s) es x) ≡ remove_entry (is_slot s) es →
      remove_entry (is_slot s) (cond b ((e.0, x) ∷ es) (e ∷ set_value (is_slot s) es x)) ≡ cond b es (e ∷ remove_entry (is_slot s) es)
  in_ true at rest = ap (λ b. cond b es ((e.0, x) ∷ remove_entry (is_slot s) es)) at
  in_ false at rest = ap (λ b. cond b (set_value (is_slot s) es x) (e ∷ remove_entry (is_slot s) (set_value (is_slot s) es x))) at ∙ ap (λ (xs : Held). e ∷ xs) rest

-- what is written and then touched stands as if the one before was removed and it was added
pub replaced : (old : Arena LoadedAttr) (s : Slot) (x : LoadedAttr) → IsHeld old s → touched (with_value old s x) s ≡ with_first (without old s) s x
replaced old s x held =
    ap (λ (o : Option LoadedAttr). option_map_or (λ (l : LoadedAttr). with_first (without (with_value old s x) s) s l) o (with_value old s x)) (value_at-with_value old s x held)
    ∙ ap (λ (es : Held). with_first (arena es old.capacity) s x) (written s x old.entries)

-- a number without a note has none once another lost its own
pub unnoted-still : (notes : List (ℕ × ℕ)) (n m : ℕ) → note_of notes m ≡ None → note_of (without_note notes n) m ≡ None
unnoted-still notes n m none = in_ (eq-or m n) where
  in_ : (m ≡ n) ⊎ (m ≡ n → ⊥) → note_of (without_note notes n) m ≡ None
  in_ (inl same) = ap (note_of (without_note notes n)) same ∙ note-gone notes n
  in_ (inr other) = note-other notes n m other ∙ none

-- the number that was there loses its note, and the other gets it
pub named-replaced : (notes : List (ℕ × ℕ)) (old new : Arena LoadedAttr) (s : Slot) (was x : LoadedAttr) → IsDistinct is_slot (slots_of old) → value_at old s ≡ Some was → note_of notes x.number.0 ≡ None →
    new ≡ with_first (without old s) s x → AreNamed notes old → AreNamed (insert_entry nat_cmp (without_note notes was.number.0) x.number.0 s.index) new
named-replaced notes old new s was x distinct at none is named =
    named-added (without_note notes was.number.0) (without old s) new s x (unnoted-still notes was.number.0 x.number.0 none) (gone s old.entries distinct) (λ t. ap (λ (a : Arena LoadedAttr). value_at a t) is)
    (named-lost notes old (without old s) was.number.0 s (named.held s was at) (gone s old.entries distinct) (λ t other. kept s t old.entries (eq-false t.index s.index (λ same. other (ap (λ (k : ℕ). let slot : Slot = record { index = k } in slot) same)))) named)
