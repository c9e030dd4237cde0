-- The attributes in the nodes of an arena, and the node that the slot of a number is of.
use Rattle.std.proofs.Common.{◌≡◌, ℕ, zero, suc, ◌-◌, Bool, true, false, cond, List, [], ◌∷◌, take, length, Option, Some, None, inl, inr, ◌⊎◌, refl, sym, ap, ◌∙◌, subst, arith}
use Rattle.std.specs.Prelude.{◌==◌, not, slice_get}
use Rattle.std.specs.List.{filter, AllByRecursion, IsDistinct}
use Rattle.std.specs.Map.{keys_of, values_of, lookup, remove_entry}
use Rattle.std.specs.Option.{option_map, option_map_or}
use Rattle.eden_base.proofs.FirstLemmas.{Each-kept}
use Rattle.eden_base.proofs.MemberLemmas.{some-same, some-none}
use Rattle.eden_base.proofs.NumberTests.{eq-true, eq-false, true-eq, false-ne, eq-or}
use Rattle.eden_base.specs.First.{first_where, without_where}
use Rattle.entry_table.specs.Table.{note_of, is_other}
use Rattle.inode_map.specs.InodeMap.{is_loaded_of, loaded_number, attr_in, attr_of, used, without_oldest}
use Rattle.inode_map.specs.Loaded.{attrs_in, slot_noted, AreNamed}
use Rattle.inode_map.specs.declared.loaded.LoadedAttr.{LoadedAttr}
use Rattle.node_arena.specs.Arena.{Arena, is_slot, slots_of, value_at, oldest_of, with_first, without, touched}
use Rattle.node_arena.specs.declared.slot.Slot.{Slot}

-- the held slots with their attributes
abbrev pub Held : Type 0
Held = List (Slot × LoadedAttr)

abbrev pub of_others : ℕ → List LoadedAttr → List LoadedAttr
of_others n xs = filter (λ (l : LoadedAttr). is_other n (loaded_number l)) xs

turned : (s t : Slot) → is_slot s t ≡ false → is_slot t s ≡ false
turned s t e = eq-false t.index s.index (λ same. false-ne s.index t.index e (sym same))

-- each slot has its attribute
abbrev AreFound : Held → Held → Type 0
AreFound es all = AllByRecursion (λ (e : Slot × LoadedAttr). lookup (is_slot e.0) all ≡ Some e.1) es

found-behind : (x : Slot × LoadedAttr) (es all : Held) → AllByRecursion (λ (s : Slot). is_slot x.0 s ≡ false) (keys_of es) → AreFound es all → AreFound es (x ∷ all)
found-behind x [] all apart found = tt
found-behind x (e ∷ es) all apart found =
    (ap (λ b. cond b (Some x.1) (lookup (is_slot e.0) all)) (turned x.0 e.0 apart.0) ∙ found.0, found-behind x es all apart.1 found.1)

each-found : (es : Held) → IsDistinct is_slot (keys_of es) → AreFound es es
unfolding IsDistinct
each-found [] distinct = tt
each-found (e ∷ es) distinct =
    (ap (λ b. cond b (Some e.1) (lookup (is_slot e.0) es)) (eq-true e.0.index e.0.index refl), found-behind e es es distinct.0 (each-found es distinct.1))

-- the slot and the number are of the same attributes
abbrev pub AreMatched : Slot → ℕ → Held → Type 0
AreMatched s n es = AllByRecursion (λ (e : Slot × LoadedAttr). is_slot s e.0 ≡ (e.1.number.0 == n)) es

-- none is of the number
abbrev pub AreOthers : ℕ → Held → Type 0
AreOthers n es = AllByRecursion (λ (e : Slot × LoadedAttr). (e.1.number.0 == n) ≡ false) es

module _ (notes : List (ℕ × ℕ)) (nodes : Arena LoadedAttr) (named : AreNamed notes nodes) (distinct : IsDistinct is_slot (slots_of nodes)) (n : ℕ) where
  -- where the number has a note, it names the node
  pub are-matched : (note : ℕ) → note_of notes n ≡ Some note → AreMatched (slot_noted note) n nodes.entries
  are-matched note noted = Each-kept (λ (e : Slot × LoadedAttr). value_at nodes e.0 ≡ Some e.1) (λ (e : Slot × LoadedAttr). is_slot (slot_noted note) e.0 ≡ (e.1.number.0 == n))
      nodes.entries (each-found nodes.entries distinct) (λ e found. match_in e found (eq-or e.1.number.0 n)) where
        match_in : (e : Slot × LoadedAttr) → value_at nodes e.0 ≡ Some e.1 → (e.1.number.0 ≡ n) ⊎ (e.1.number.0 ≡ n → ⊥) → is_slot (slot_noted note) e.0 ≡ (e.1.number.0 == n)
        match_in e found (inl same) =
            let there : note_of notes n ≡ Some e.0.index = subst (λ (k : ℕ). note_of notes k ≡ Some e.0.index) same (named.held e.0 e.1 found) in
            eq-true note e.0.index (some-same (note_of notes n) note e.0.index noted there) ∙ sym (eq-true e.1.number.0 n same)
        match_in e found (inr other) = eq-false note e.0.index (λ same.
            let w = named.noted n note noted in
            let there : value_at nodes e.0 ≡ Some w.0 = subst (λ (k : ℕ). value_at nodes (slot_noted k) ≡ Some w.0) same w.1 in
            other (ap (λ (l : LoadedAttr). l.number.0) (some-same (value_at nodes e.0) e.1 w.0 found there) ∙ w.2)) ∙ sym (eq-false e.1.number.0 n other)

  -- if a number has no note, nothing is loaded of it
  pub are-others : note_of notes n ≡ None → AreOthers n nodes.entries
  are-others none = Each-kept (λ (e : Slot × LoadedAttr). value_at nodes e.0 ≡ Some e.1) (λ (e : Slot × LoadedAttr). (e.1.number.0 == n) ≡ false)
      nodes.entries (each-found nodes.entries distinct) (λ e found. eq-false e.1.number.0 n (λ same.
      some-none (note_of notes n) e.0.index (subst (λ (k : ℕ). note_of notes k ≡ Some e.0.index) same (named.held e.0 e.1 found)) none))

-- what is found by the slot is what is found by the number
pub looked : (s : Slot) (n : ℕ) (es : Held) → AreMatched s n es → lookup (is_slot s) es ≡ first_where (is_loaded_of n) (values_of es)
looked s n [] are = refl
looked s n (e ∷ es) are =
    ap (λ b. cond b (Some e.1) (lookup (is_slot s) es)) are.0 ∙ ap (λ (o : Option LoadedAttr). cond (e.1.number.0 == n) (Some e.1) o) (looked s n es are.1)

pub looked-none : (n : ℕ) (es : Held) → AreOthers n es → first_where (is_loaded_of n) (values_of es) ≡ None
looked-none n [] are = refl
looked-none n (e ∷ es) are = ap (λ b. cond b (Some e.1) (first_where (is_loaded_of n) (values_of es))) are.0 ∙ looked-none n es are.1

-- what is left without the slot is what is left without the number
pub left : (s : Slot) (n : ℕ) (es : Held) → AreMatched s n es → values_of (remove_entry (is_slot s) es) ≡ without_where (is_loaded_of n) (values_of es)
left s n [] are = refl
left s n (e ∷ es) are = in_ (is_slot s e.0) (e.1.number.0 == n) are.0 (left s n es are.1) where
  in_ : (b c : Bool) → b ≡ c → values_of (remove_entry (is_slot s) es) ≡ without_where (is_loaded_of n) (values_of es) →
      values_of (cond b es (e ∷ remove_entry (is_slot s) es)) ≡ cond c (values_of es) (e.1 ∷ without_where (is_loaded_of n) (values_of es))
  in_ true true same rest = refl
  in_ false false same rest = ap (λ (xs : List LoadedAttr). e.1 ∷ xs) rest
  in_ true false same rest = absurd (let none : ⊥ = cc in none)
  in_ false true same rest = absurd (let none : ⊥ = cc in none)

-- all of other numbers stay
pub others-stay : (n : ℕ) (es : Held) → AreOthers n es → of_others n (values_of es) ≡ values_of es
others-stay n [] are = refl
others-stay n (e ∷ es) are =
    ap (λ b. cond (not b) (e.1 ∷ of_others n (values_of es)) (of_others n (values_of es))) are.0 ∙ ap (λ (xs : List LoadedAttr). e.1 ∷ xs) (others-stay n es are.1)

-- after the slot, all loaded attributes are of other numbers
behind-others : (s : Slot) (n : ℕ) (es : Held) → AllByRecursion (λ (t : Slot). is_slot s t ≡ false) (keys_of es) → AreMatched s n es → AreOthers n es
behind-others s n [] apart are = tt
behind-others s n (e ∷ es) apart are = (sym are.0 ∙ apart.0, behind-others s n es apart.1 are.1)

pub same-slot : (s t : Slot) → is_slot s t ≡ true → t ≡ s
same-slot s t e = ap slot_noted (sym (true-eq s.index t.index e))

pub others-left : (s : Slot) (n : ℕ) (es : Held) → IsDistinct is_slot (keys_of es) → AreMatched s n es → values_of (remove_entry (is_slot s) es) ≡ of_others n (values_of es)
unfolding IsDistinct
others-left s n [] distinct are = refl
others-left s n (e ∷ es) distinct are = in_ (is_slot s e.0) (e.1.number.0 == n) refl are.0 (others-left s n es distinct.1 are.1) where
  in_ : (b c : Bool) → is_slot s e.0 ≡ b → b ≡ c → values_of (remove_entry (is_slot s) es) ≡ of_others n (values_of es) →
      values_of (cond b es (e ∷ remove_entry (is_slot s) es)) ≡ cond (not c) (e.1 ∷ of_others n (values_of es)) (of_others n (values_of es))
  in_ true true at same rest =
      let apart = subst (λ (t : Slot). AllByRecursion (λ (u : Slot). is_slot t u ≡ false) (keys_of es)) (same-slot s e.0 at) distinct.0 in
      sym (others-stay n es (behind-others s n es apart are.1))
  in_ false false at same rest = ap (λ (xs : List LoadedAttr). e.1 ∷ xs) rest
  in_ true false at same rest = absurd (let none : ⊥ = cc in none)
  in_ false true at same rest = absurd (let none : ⊥ = cc in none)

-- what is touched comes first
pub touched-attrs : (nodes : Arena LoadedAttr) (s : Slot) (n : ℕ) → AreMatched s n nodes.entries → attrs_in (touched nodes s) ≡ used (attrs_in nodes) n
touched-attrs nodes s n are = in_ (value_at nodes s) (looked s n nodes.entries are) where
  in_ : (o : Option LoadedAttr) → o ≡ first_where (is_loaded_of n) (attrs_in nodes) →
      attrs_in (option_map_or (λ (l : LoadedAttr). with_first (without nodes s) s l) o nodes) ≡ used (attrs_in nodes) n
  in_ None same = ap (λ (o : Option LoadedAttr). option_map_or (λ (found : LoadedAttr). found ∷ without_where (is_loaded_of n) (attrs_in nodes)) o (attrs_in nodes)) same
  in_ (Some l) same = ap (λ (xs : List LoadedAttr). l ∷ xs) (left s n nodes.entries are)
      ∙ ap (λ (o : Option LoadedAttr). option_map_or (λ (found : LoadedAttr). found ∷ without_where (is_loaded_of n) (attrs_in nodes)) o (attrs_in nodes)) same

pub used-none : (n : ℕ) (nodes : Arena LoadedAttr) → AreOthers n nodes.entries → attrs_in nodes ≡ used (attrs_in nodes) n
used-none n nodes are = sym (ap (λ (o : Option LoadedAttr). option_map_or (λ (found : LoadedAttr). found ∷ without_where (is_loaded_of n) (attrs_in nodes)) o (attrs_in nodes)) (looked-none n nodes.entries are))

-- a member of a list of which each is so
member-is : (P : Slot → Type 0) (ss : List Slot) (k : ℕ) (s : Slot) → AllByRecursion P ss → slice_get ss k ≡ Some s → P s
member-is P [] k s all at = absurd (let none : ⊥ = cc in none)
member-is P (t ∷ ss) zero s all at = let same : t ≡ s = cc in subst P same all.0
member-is P (t ∷ ss) (suc k) s all at = member-is P ss k s all.1 at

-- the last slot leaves
last-left : (k : ℕ) (es : Held) (s : Slot) → suc k ≡ length es → IsDistinct is_slot (keys_of es) → slice_get (keys_of es) k ≡ Some s → values_of (remove_entry (is_slot s) es) ≡ take k (values_of es)
unfolding IsDistinct
last-left k [] s long distinct at = absurd (omega arith)
last-left zero (e ∷ []) s long distinct at =
    let same : e.0 ≡ s = cc in
    ap (λ b. values_of (cond b [] (e ∷ []))) (eq-true s.index e.0.index (ap (λ (t : Slot). t.index) (sym same)))
last-left zero (e ∷ f ∷ es) s long distinct at = absurd (omega arith)
last-left (suc k) (e ∷ []) s long distinct at = absurd (omega arith)
last-left (suc k) (e ∷ f ∷ es) s long distinct at =
    let apart : is_slot e.0 s ≡ false = member-is (λ (t : Slot). is_slot e.0 t ≡ false) (keys_of (f ∷ es)) k s distinct.0 at in
    ap (λ b. values_of (cond b (f ∷ es) (e ∷ remove_entry (is_slot s) (f ∷ es)))) (turned e.0 s apart)
    ∙ ap (λ (xs : List LoadedAttr). e.1 ∷ xs) (last-left k (f ∷ es) s (omega arith) distinct.1 at)

pub length-values : (es : Held) → length (values_of es) ≡ length es
length-values [] = refl
length-values (e ∷ es) = ap suc (length-values es)

length-keys : (es : Held) → length (keys_of es) ≡ length es
length-keys [] = refl
length-keys (e ∷ es) = ap suc (length-keys es)

pub oldest-left : (nodes : Arena LoadedAttr) (s : Slot) → IsDistinct is_slot (slots_of nodes) → Some s ≡ oldest_of nodes → attrs_in (without nodes s) ≡ without_oldest (attrs_in nodes)
oldest-left nodes s distinct at = in_ nodes.entries refl where
  in_ : (es : Held) → nodes.entries ≡ es → attrs_in (without nodes s) ≡ without_oldest (attrs_in nodes)
  in_ [] e = let none : Some s ≡ None = at ∙ ap (λ (xs : Held). slice_get (keys_of xs) (length (keys_of xs) - 1)) e in absurd (let no : ⊥ = cc in no)
  in_ (f ∷ es) e =
      let long : length nodes.entries ≡ suc (length es) = ap (λ (xs : Held). length xs) e in
      let keys : length (slots_of nodes) - 1 ≡ length es = (let k = length-keys nodes.entries in omega arith) in
      let values : length (attrs_in nodes) - 1 ≡ length es = (let v = length-values nodes.entries in omega arith) in
      last-left (length es) nodes.entries s (sym long) distinct (ap (slice_get (slots_of nodes)) (sym keys) ∙ sym at)
      ∙ ap (λ (k : ℕ). take k (attrs_in nodes)) (sym values)

-- nothing is loaded of a number of which there is no attribute, nor where some are unloaded
pub attr-none : (n : ℕ) (xs : List LoadedAttr) → attr_of xs n ≡ None → first_where (is_loaded_of n) xs ≡ None
attr-none n xs none = in_ (first_where (is_loaded_of n) xs) none where
  in_ : (o : Option LoadedAttr) → option_map attr_in o ≡ None → o ≡ None
  in_ None e = refl
  in_ (Some l) e = absurd (let no : ⊥ = cc in no)

-- such a number has no note
pub unnoted : (notes : List (ℕ × ℕ)) (nodes : Arena LoadedAttr) (n : ℕ) → AreNamed notes nodes → IsDistinct is_slot (slots_of nodes) → first_where (is_loaded_of n) (attrs_in nodes) ≡ None → note_of notes n ≡ None
unnoted notes nodes n named distinct none = in_ (note_of notes n) refl where
  in_ : (o : Option ℕ) → note_of notes n ≡ o → o ≡ None
  in_ None e = refl
  in_ (Some note) e =
      let w = named.noted n note e in
      let found = looked (slot_noted note) n nodes.entries (are-matched notes nodes named distinct n note e) in
      absurd (some-none (value_at nodes (slot_noted note)) w.0 w.1 (found ∙ none))

-- the attribute in a node is the first of its number
pub first-held : (notes : List (ℕ × ℕ)) (nodes : Arena LoadedAttr) (s : Slot) (l : LoadedAttr) → AreNamed notes nodes → IsDistinct is_slot (slots_of nodes) → value_at nodes s ≡ Some l →
    first_where (is_loaded_of l.number.0) (attrs_in nodes) ≡ Some l
first-held notes nodes s l named distinct at =
    sym (looked s l.number.0 nodes.entries (are-matched notes nodes named distinct l.number.0 s.index (named.held s l at))) ∙ at
