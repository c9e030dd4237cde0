-- Counts that are raised and lowered: in the entries, and in the slot of one.
use Rattle.std.proofs.Common.{◌≡◌, ℕ, ◌-◌, ◌<◌, ◌≤◌, true, false, List, Option, Some, None, refl, sym, ap, ◌∙◌, inl, inr, ◌⊎◌, arith}
use Rattle.std.proofs.Math.Bool.{or-true}
use Rattle.std.specs.Prelude.{◌==◌, nat_lt}
use Rattle.std.specs.Option.{option_map, option_map_or}
use Rattle.std.proofs.lemmas.Bool.Decides.{nat_tests}
use Rattle.eden_base.proofs.MemberLemmas.{some-or}
use Rattle.eden_base.proofs.NumberTests.{eq-false}
use Rattle.entry_table.specs.Entries.{entry_of, count_of, once_more, is_bad_item}
use Rattle.entry_table.specs.Inside.{IsTable}
use Rattle.entry_table.specs.Slots.{slot_at}
use Rattle.entry_table.specs.Table.{TableState, kept_of}
use Rattle.entry_table.specs.declared.kept.Entry.{Entry}
use Rattle.entry_table.specs.declared.kept.Kept.{Kept}
use Rattle.entry_table.specs.declared.table.Table.TheInside.{Inside}
use Rattle.entry_table.proofs.Changing.{KeepsPlace, count_of-none}
use Rattle.entry_table.proofs.SlotLemmas.{slot_held, held-entry}
use Rattle.entry_table.proofs.TableLemmas.{view_of}

pub once-keeps : KeepsPlace once_more
once-keeps = record { number = λ x. refl; place = λ x. refl }

-- counted so much less
abbrev pub less : ℕ → Kept → Kept
less k kept = record kept { count = kept.count - k }

pub less-keeps : (k : ℕ) → KeepsPlace (less k)
less-keeps k = record { number = λ x. refl; place = λ x. refl }

-- what is counted is an entry
pub counted-entry : (es : List Kept) (n : ℕ) → 0 < count_of es n → (kept : Kept) × (entry_of es n ≡ Some kept)
counted-entry es n some = in_ (some-or (entry_of es n)) where
  in_ : ((kept : Kept) × (entry_of es n ≡ Some kept)) ⊎ (entry_of es n ≡ None) → (kept : Kept) × (entry_of es n ≡ Some kept)
  in_ (inl e) = e
  in_ (inr none) = absurd (let z : count_of es n ≡ 0 = count_of-none es n none in omega arith)

-- what is neither nothing nor too much is no bad item
pub good-item : (es : List Kept) (n k : ℕ) → (k ≡ 0 → ⊥) → k ≤ count_of es n → is_bad_item es n k ≡ false
good-item es n k some few = let z : (k == 0) ≡ false = eq-false k 0 some in let l : nat_lt (count_of es n) k ≡ false = grind (arith, nat_tests) in rw (z, l) refl

-- how often what stands in a slot is held
abbrev pub count_in : Option Entry → ℕ
count_in o = option_map_or (λ (h : Entry). h.count) o 0

-- a count stands in the slot of its number
pub count-held : (t : Inside) (now : TableState) (n : ℕ) → view_of t ≡ now → IsTable t → count_of now.entries n ≡ count_in (slot_held (slot_at t.slots.items n))
count-held t now n view is =
    ap (λ (s : TableState). count_of s.entries n) (sym view)
    ∙ ap (λ (e : Option Kept). option_map_or (λ (kept : Kept). kept.count) e 0) (sym (held-entry t.slots.items 2 t.next n is.slots))
    ∙ in_ (slot_held (slot_at t.slots.items n)) where
      in_ : (o : Option Entry) → option_map_or (λ (kept : Kept). kept.count) (option_map (kept_of n) o) 0 ≡ count_in o
      in_ None = refl
      in_ (Some h) = refl

-- more than what stands there is a bad item
pub bad-more : (es : List Kept) (n k : ℕ) → count_of es n < k → is_bad_item es n k ≡ true
bad-more es n k few = let l : nat_lt (count_of es n) k ≡ true = grind (arith, nat_tests) in rw l (or-true (k == 0))

pub bad-in : (t : Inside) (now : TableState) (n k : ℕ) (s : Option (Option Entry)) → view_of t ≡ now → IsTable t → slot_at t.slots.items n ≡ s → count_in (slot_held s) < k → is_bad_item now.entries n k ≡ true
bad-in t now n k s view is found few =
    let count : count_of now.entries n ≡ count_in (slot_held s) = count-held t now n view is ∙ ap (λ (o : Option (Option Entry)). count_in (slot_held o)) found in
    bad-more now.entries n k (omega arith)
