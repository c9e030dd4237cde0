-- The table and what is loaded while entries of no use leave, one after another; and which one may be of no use after a
-- name was taken away.
use Rattle.std.proofs.Common.{◌≡◌, ℕ, suc, ◌<◌, Bool, true, false, ◌||◌, List, [], ◌∷◌, length, Some, None, cond, refl, sym, ap, ◌∙◌, subst, inl, inr, ◌⊎◌, arith}
use Rattle.std.proofs.Math.Bool.{or-true}
use Rattle.std.specs.Prelude.{nat_lt}
use Rattle.std.specs.List.{filter, list_any}
use Rattle.std.specs.Option.{option_map}
use Rattle.eden_base.proofs.MemberLemmas.{some-same, length-without_where}
use Rattle.eden_base.proofs.NumberTests.{eq-false, eq-or}
use Rattle.eden_base.specs.declared.number.FileId.{FileId}
use Rattle.eden_base.specs.declared.number.Number.{Number}
use Rattle.eden_base.specs.declared.place.Place.{Place}
use Rattle.eden_base.specs.declared.place.Place.TheVariants.{Linked}
use Rattle.eden_base.specs.First.{first_where, changed_where, without_where}
use Rattle.entry_table.specs.EntryPlaces.{AreOfUseBut, dir_of}
use Rattle.entry_table.specs.Entries.{has_number, entry_of, place_of_kept, is_in, is_kid_of, is_of_use, marked, AreNumbers}
use Rattle.inode_map.specs.InodeMap.{is_useless, left_of_use, loaded_number}
use Rattle.entry_table.specs.Table.{TableState, without_entry, without_note, file_number, is_other, AreOfKept}
use Rattle.inode_map.specs.Loaded.{attrs_in, AreNamed}
use Rattle.inode_map.specs.Pruned.{of_kept, pruned}
use Rattle.entry_table.specs.declared.kept.Kept.{Kept}
use Rattle.inode_map.specs.declared.loaded.LoadedAttr.{LoadedAttr}
use Rattle.entry_table.proofs.EntryLemmas.{entry_of-number, numbers-without, changed-same, changed-other}
use Rattle.node_arena.specs.Arena.{Arena}
use Rattle.inode_map.proofs.Giving.{AreKept}
use Rattle.inode_map.proofs.Keeping.{of_kept-all, of_kept-without}
use Rattle.inode_map.proofs.Striking.{useless-entry, left_of_use-all, left_of_use-one}
use Rattle.inode_map.proofs.Walking.{left-of_use, struck-keeps}

-- what was struck so far
pub record Pruned (old now : TableState) (before after : List LoadedAttr) : Type 0 where
  pub same : left_of_use now.entries ≡ left_of_use old.entries
  pub numbers : AreNumbers 2 old.next now.entries
  pub table : now ≡ record old { entries = now.entries; remembered = of_kept file_number now.entries old.remembered; notes = now.notes }
  pub loaded : after ≡ of_kept loaded_number now.entries before

-- the table before anything was struck
pub pruned-init : (table : TableState) (loaded : List LoadedAttr) → AreNumbers 2 table.next table.entries → AreOfKept loaded_number table.entries loaded → AreOfKept file_number table.entries table.remembered → Pruned table table loaded loaded
pruned-init table loaded are attrs files = record {
  same = refl;
  numbers = are;
  table = λ i. record table { remembered = sym (of_kept-all file_number table.entries table.remembered files) i };
  loaded = sym (of_kept-all loaded_number table.entries loaded attrs);
}

-- the table after one more entry was struck
pub pruned-step : (old now later : TableState) (before after left : List LoadedAttr) (n : ℕ) → Pruned old now before after → AreOfUseBut (Some n) now.entries → is_useless now.entries n ≡ true →
    later ≡ without_entry now n (without_where (has_number n) now.entries) → left ≡ filter (λ (l : LoadedAttr). is_other n (loaded_number l)) after → Pruned old later before left
pruned-step old now later before after left n p useful useless table loaded = subst (λ (t : TableState). Pruned old t before left) (sym table) (subst (λ (l : List LoadedAttr). Pruned old next before l) (sym loaded) (record {
  same = sym (left_of_use-one now.entries 2 old.next n p.numbers useful useless) ∙ p.same;
  numbers = numbers-without now.entries 2 old.next (has_number n) p.numbers;
  table = ap (λ (t : TableState). without_entry t n (without_where (has_number n) now.entries)) p.table
      ∙ ap (λ files. record old { entries = without_where (has_number n) now.entries; remembered = files; notes = without_note now.notes n }) (of_kept-without file_number now.entries 2 old.next n old.remembered p.numbers);
  loaded = ap (λ (xs : List LoadedAttr). filter (λ (x : LoadedAttr). is_other n (loaded_number x)) xs) p.loaded ∙ of_kept-without loaded_number now.entries 2 old.next n before p.numbers;
})) where
  next : TableState
  next = without_entry now n (without_where (has_number n) now.entries)

-- after an entry was struck, its directory alone may be of no use
pub pruned-others : (old now later : TableState) (before after : List LoadedAttr) (n : ℕ) (place : Place) → Pruned old now before after → AreOfUseBut (Some n) now.entries → is_useless now.entries n ≡ true →
    option_map place_of_kept (entry_of now.entries n) ≡ Some place → later ≡ without_entry now n (without_where (has_number n) now.entries) → AreOfUseBut (dir_of place) later.entries
pruned-others old now later before after n place p useful useless at table =
    let u = useless-entry now.entries n useless in
    let is : u.0.place ≡ place = (let s : Some u.0.place ≡ Some place = ap (option_map place_of_kept) (sym u.1.entry) ∙ at in cc) in
    subst (λ (t : TableState). AreOfUseBut (dir_of place) t.entries) (sym table)
    (subst (λ (q : Place). AreOfUseBut (dir_of q) (without_where (has_number n) now.entries)) is (left-of_use now.entries 2 old.next n u.0 p.numbers u.1 useful))

-- between two steps: what was struck so far, one number alone is of no use, and entries and nodes name each other
pub record Going (old now : TableState) (before after : Arena LoadedAttr) (n : ℕ) : Type 0 where
  pub pruned : Pruned old now (attrs_in before) (attrs_in after)
  pub useless : is_useless now.entries n ≡ true
  pub others_of_use : AreOfUseBut (Some n) now.entries
  pub named : AreNamed now.notes after
  pub capacity : after.capacity ≡ before.capacity

-- a step leaves the table and the nodes without a number
pub record Leaves (now later : TableState) (after left : Arena LoadedAttr) (n : ℕ) (place : Place) : Type 0 where
  pub stood : option_map place_of_kept (entry_of now.entries n) ≡ Some place
  pub table : later ≡ without_entry now n (without_where (has_number n) now.entries)
  pub loaded : attrs_in left ≡ filter (λ (l : LoadedAttr). is_other n (loaded_number l)) (attrs_in after)
  pub named : AreNamed later.notes left
  pub capacity : left.capacity ≡ after.capacity

module _ (old now later : TableState) (before after left : Arena LoadedAttr) (n : ℕ) (place : Place) (g : Going old now before after n) (l : Leaves now later after left n place) where
  -- what was struck then, and what may be of no use
  pub going-step : Pruned old later (attrs_in before) (attrs_in left)
  going-step = pruned-step old now later (attrs_in before) (attrs_in after) (attrs_in left) n g.pruned g.others_of_use g.useless l.table l.loaded

  pub going-others : (q : Place) → place ≡ q → AreOfUseBut (dir_of q) later.entries
  going-others q is = pruned-others old now later (attrs_in before) (attrs_in after) n q g.pruned g.others_of_use g.useless (l.stood ∙ ap Some is) l.table

  pub going-capacity : left.capacity ≡ before.capacity
  going-capacity = l.capacity ∙ g.capacity

  -- where the directory is of no use, it is the next
  pub going-on : (dir : Number) (name : List ℕ) → place ≡ Linked dir name → is_useless later.entries dir.0 ≡ true → Going old later before left dir.0
  going-on dir name is useless = record {
    pruned = going-step;
    useless = useless;
    others_of_use = going-others (Linked dir name) is;
    named = l.named;
    capacity = going-capacity;
  }

pub pruned-shorter : (now later : TableState) (n : ℕ) → is_useless now.entries n ≡ true → later ≡ without_entry now n (without_where (has_number n) now.entries) → length later.entries < length now.entries
pruned-shorter now later n useless table =
    let u = useless-entry now.entries n useless in
    let long : suc (length (without_where (has_number n) now.entries)) ≡ length now.entries = length-without_where now.entries (has_number n) u.0 u.1.entry in
    let same : length later.entries ≡ length (without_where (has_number n) now.entries) = ap (λ (t : TableState). length t.entries) table in
    omega arith

-- the end
all_left : (old now : TableState) (before after : List LoadedAttr) → Pruned old now before after → AreOfUseBut None now.entries → now.entries ≡ left_of_use old.entries
all_left old now before after p useful = sym (left_of_use-all now.entries 2 old.next p.numbers useful) ∙ p.same

pub pruned-table : (old now : TableState) (before after : List LoadedAttr) → Pruned old now before after → AreOfUseBut None now.entries → now ≡ pruned old now.notes
pruned-table old now before after p useful = p.table ∙ ap (λ (es : List Kept). record old { entries = es; remembered = of_kept file_number es old.remembered; notes = now.notes }) (all_left old now before after p useful)

pub pruned-loaded : (old now : TableState) (before after : List LoadedAttr) → Pruned old now before after → AreOfUseBut None now.entries → after ≡ of_kept loaded_number (left_of_use old.entries) before
pruned-loaded old now before after p useful = p.loaded ∙ ap (λ (es : List Kept). of_kept loaded_number es before) (all_left old now before after p useful)

-- what striking leaves of entries of which one may be of no use
pub struck-left : (es : List Kept) (next n : ℕ) → AreNumbers 2 next es → AreOfUseBut (Some n) es → AreKept next (left_of_use es)
struck-left es next n are useful = let s = struck-keeps (λ xs. Unit {0}) 2 next (λ xs m numbers useless here. tt) (length es) (Some n) es (omega arith) are useful tt in record { numbers = s.numbers; of_use = s.of_use }

-- a test that the changed member fails
pub any-changed_other : (es : List Kept) (p q : Kept → Bool) (change : Kept → Kept) → ((x : Kept) → first_where p es ≡ Some x → q x ≡ false) → list_any q es ≡ true → list_any q (changed_where p change es) ≡ true
any-changed_other [] p q change fails h = h
any-changed_other (y ∷ es) p q change fails h = in_ (p y) (q y) refl fails h (λ f t. any-changed_other es p q change f t) where
  in_ : (b c : Bool) → q y ≡ c → ((x : Kept) → cond b (Some y) (first_where p es) ≡ Some x → q x ≡ false) → (c || list_any q es) ≡ true →
      (((x : Kept) → first_where p es ≡ Some x → q x ≡ false) → list_any q es ≡ true → list_any q (changed_where p change es) ≡ true) → list_any q (cond b (change y ∷ es) (y ∷ changed_where p change es)) ≡ true
  in_ true true e f t rest = let g : q y ≡ false = f y refl in absurd (let none : ⊥ = cc in none)
  in_ true false e f t rest = ap (λ d. q (change y) || d) t ∙ or-true (q (change y))
  in_ false true e f t rest = ap (λ d. d || list_any q (changed_where p change es)) e
  in_ false false e f t rest = ap (λ d. d || list_any q (changed_where p change es)) e ∙ rest f t

-- A name was taken away: its directory alone may be of no use.
pub marked-others : (es : List Kept) (n : ℕ) (file : FileId) (kept : Kept) (dir : Number) (name : List ℕ) → entry_of es n ≡ Some kept → kept.place ≡ Linked dir name → AreOfUseBut None es → AreOfUseBut (Some dir.0) (changed_where (has_number n) (marked file) es)
marked-others es n file kept dir name here place useful m now e = dir_in (eq-or m dir.0) where
  left : List Kept
  left = changed_where (has_number n) (marked file) es

  -- the entry as it was, which is counted as often
  was_in : (m ≡ n) ⊎ (m ≡ n → ⊥) → (x : Kept) × (entry_of es m ≡ Some x) × (now.count ≡ x.count) × (now.number ≡ x.number)
  was_in (inl same) =
      let there : entry_of left n ≡ Some (marked file kept) = changed-same es n (marked file) (λ y. refl) ∙ ap (option_map (marked file)) here in
      let is : now ≡ marked file kept = some-same (entry_of left n) now (marked file kept) (subst (λ (k : ℕ). entry_of left k ≡ Some now) same e) there in
      (kept, subst (λ (k : ℕ). entry_of es k ≡ Some kept) (sym same) here, ap (λ (x : Kept). x.count) is, ap (λ (x : Kept). x.number) is)
  was_in (inr other) = (now, sym (changed-other es n m (marked file) (λ y. refl) other) ∙ e, refl, refl)

  -- no kid of another directory is the one that lost its name
  fails : (m ≡ dir.0 → ⊥) → (x : Kept) → first_where (has_number n) es ≡ Some x → is_kid_of m x ≡ false
  fails other x f =
      let is : x ≡ kept = some-same (entry_of es n) x kept f here in
      ap (λ (y : Kept). is_kid_of m y) is ∙ ap (is_in m) place ∙ eq-false dir.0 m (λ s. other (sym s))

  use_in : (m ≡ dir.0 → ⊥) → (x : Kept) → entry_of es m ≡ Some x → now.count ≡ x.count → now.number ≡ x.number → (b c : Bool) → nat_lt 0 x.count ≡ b → list_any (is_kid_of x.number.0) es ≡ c → (b || c) ≡ true → is_of_use left now ≡ true
  use_in other x f count number true c t k h = ap (λ (k : ℕ). nat_lt 0 k || list_any (is_kid_of now.number.0) left) count ∙ ap (λ d. d || list_any (is_kid_of now.number.0) left) t
  use_in other x f count number false false t k h = absurd (let none : ⊥ = cc in none)
  use_in other x f count number false true t k h =
      let is : x.number.0 ≡ m = entry_of-number es m x f in
      let kids : list_any (is_kid_of m) left ≡ true = any-changed_other es (has_number n) (is_kid_of m) (marked file) (fails other) (ap (λ (k : ℕ). list_any (is_kid_of k) es) (sym is) ∙ k) in
      let same : now.number.0 ≡ m = ap (λ (k : Number). k.0) number ∙ is in
      ap (λ (k : ℕ). nat_lt 0 now.count || list_any (is_kid_of k) left) same ∙ ap (λ d. nat_lt 0 now.count || d) kids ∙ or-true (nat_lt 0 now.count)

  of_use_in : (x : Kept) → entry_of es m ≡ Some x → (is_of_use es x ≡ true) ⊎ (None ≡ Some m) → is_of_use es x ≡ true
  of_use_in x f (inl t) = t
  of_use_in x f (inr empty) = absurd (let none : ⊥ = cc in none)

  dir_in : (m ≡ dir.0) ⊎ (m ≡ dir.0 → ⊥) → (is_of_use left now ≡ true) ⊎ (Some dir.0 ≡ Some m)
  dir_in (inl same) = inr (ap Some (sym same))
  dir_in (inr other) =
      let w = was_in (eq-or m n) in
      inl (use_in other w.0 w.1 w.2 w.3 (nat_lt 0 w.0.count) (list_any (is_kid_of w.0.number.0) es) refl refl (of_use_in w.0 w.1 (useful m w.0 w.1)))
