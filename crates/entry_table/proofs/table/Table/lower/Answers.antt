-- A count is lowered in the slot of its entry, or the slot stays as it was.
use Rattle.std.proofs.Common.{◌≡◌, ℕ, ◌-◌, List, Option, Some, None, refl, sym, ap, ◌∙◌, subst, arith}
use Rattle.std.specs.Prelude.{slice_set}
use Rattle.entry_table.specs.Slots.{slot_at, file_beside, note_beside, IsIndexOf}
use Rattle.entry_table.specs.Standing.{place_of_number, IsIndexed}
use Rattle.entry_table.specs.declared.kept.Kept.{Kept}
use Rattle.entry_table.specs.declared.kept.Entry.{Entry}
use Rattle.entry_table.proofs.Counting.{less, less-keeps, good-item, count_in, count-held, bad-in}
use Rattle.entry_table.proofs.SlotLemmas.{slot_held, files-kept}
use Rattle.entry_table.proofs.TableLemmas.{found-in, found-held, written-slots, written-kept, written-beside, indexed-changed}
use Rattle.entry_table.proofs.table.Table.lower.Goals as goal

pub returns-in_err-index-clause-bad : goal.returns-in_err-index-clause-bad
returns-in_err-index-clause-bad c =
    let none = subst (λ (es : List (ℕ × Option Entry)). slot_at es c.args.number.0 ≡ None) c.as_slice.ensures.value c.in_err-index.ensures.none in
    rw c.from_residual.ensures (bad-in c.self.inside c.args.self.now c.args.number.0 c.args.k None c.self.view_is c.self.invariant none (let f = c.if-k-eq0.false in omega arith))

pub returns-in_default-clause-bad : goal.returns-in_default-clause-bad
returns-in_default-clause-bad c =
    let t = c.self.inside in
    let n = c.args.number.0 in
    let slot = c.index_mut-slot.result.now in
    let there = subst (λ (es : List (ℕ × Option Entry)). IsIndexOf es n c.in_ok-index.index) c.as_slice.ensures.value c.in_ok-index.ensures.index in
    bad-in t c.args.self.now n c.args.k (Some None) c.self.view_is c.self.invariant (found-in t n c.in_ok-index.index slot c.self.invariant there c.index_mut-slot.ensures.value ∙ ap Some c.in_default.is) (let f = c.if-k-eq0.false in omega arith)

pub returns-then-entry-k-clause-bad : goal.returns-then-entry-k-clause-bad
returns-then-entry-k-clause-bad c =
    let t = c.self.inside in
    let n = c.args.number.0 in
    let slot = c.index_mut-slot.result.now in
    let h = c.in-Some.entry in
    let there = subst (λ (es : List (ℕ × Option Entry)). IsIndexOf es n c.in_ok-index.index) c.as_slice.ensures.value c.in_ok-index.ensures.index in
    bad-in t c.args.self.now n c.args.k (Some (Some h)) c.self.view_is c.self.invariant (found-held t n c.in_ok-index.index slot c.self.invariant there c.index_mut-slot.ensures.value h h c.in-Some.is) c.if-entry-k.true

pub invariant_of-self-2 : goal.invariant_of-self-2
invariant_of-self-2 c =
    let t = c.self.inside in
    let n = c.args.number.0 in
    let slot = c.index_mut-slot.result.now in
    let h = c.in-Some.entry in
    let there = subst (λ (es : List (ℕ × Option Entry)). IsIndexOf es n c.in_ok-index.index) c.as_slice.ensures.value c.in_ok-index.ensures.index in
    let now : Entry = record h { count = h.count - c.args.k } in
    record {
      slots = written-slots t n c.in_ok-index.index slot c.self.invariant there c.index_mut-slot.ensures.value (Some now);
      indexed = subst (λ (es : List Kept). IsIndexed (place_of_number es) t.index) (sym (written-kept t n c.in_ok-index.index slot c.self.invariant there c.index_mut-slot.ensures.value h now c.in-Some.is (less c.args.k) refl))
          (indexed-changed t n (less c.args.k) (less-keeps c.args.k) c.self.invariant);
      ready = c.self.invariant.ready;
      free = c.self.invariant.free;
      room = c.self.invariant.room;
    }

pub returns-clause-good : goal.returns-clause-good
returns-clause-good c =
    let t = c.self.inside in
    let n = c.args.number.0 in
    let slot = c.index_mut-slot.result.now in
    let h = c.in-Some.entry in
    let there = subst (λ (es : List (ℕ × Option Entry)). IsIndexOf es n c.in_ok-index.index) c.as_slice.ensures.value c.in_ok-index.ensures.index in
    let count = count-held t c.args.self.now n c.self.view_is c.self.invariant ∙ ap (λ o. count_in (slot_held o)) (found-held t n c.in_ok-index.index slot c.self.invariant there c.index_mut-slot.ensures.value h h c.in-Some.is) in
    good-item c.args.self.now.entries n c.args.k c.if-k-eq0.false (let f = c.if-entry-k.false in omega arith)

pub returns-clause-left : goal.returns-clause-left
returns-clause-left c =
    let t = c.self.inside in
    let n = c.args.number.0 in
    let slot = c.index_mut-slot.result.now in
    let h = c.in-Some.entry in
    let there = subst (λ (es : List (ℕ × Option Entry)). IsIndexOf es n c.in_ok-index.index) c.as_slice.ensures.value c.in_ok-index.ensures.index in
    let count = count-held t c.args.self.now n c.self.view_is c.self.invariant ∙ ap (λ o. count_in (slot_held o)) (found-held t n c.in_ok-index.index slot c.self.invariant there c.index_mut-slot.ensures.value h h c.in-Some.is) in
    ap (λ m. m - c.args.k) (sym count)

pub returns-clause-lowered : goal.returns-clause-lowered
returns-clause-lowered c =
    let t = c.self.inside in
    let n = c.args.number.0 in
    let slot = c.index_mut-slot.result.now in
    let h = c.in-Some.entry in
    let there = subst (λ (es : List (ℕ × Option Entry)). IsIndexOf es n c.in_ok-index.index) c.as_slice.ensures.value c.in_ok-index.ensures.index in
    let now : Entry = record h { count = h.count - c.args.k } in
    rw (← c.self.view_is, written-kept t n c.in_ok-index.index slot c.self.invariant there c.index_mut-slot.ensures.value h now c.in-Some.is (less c.args.k) refl, written-beside t n c.in_ok-index.index slot c.self.invariant there c.index_mut-slot.ensures.value h now c.in-Some.is file_beside refl, written-beside t n c.in_ok-index.index slot c.self.invariant there c.index_mut-slot.ensures.value h now c.in-Some.is note_beside refl) refl

pub returns-clause-kept : goal.returns-clause-kept
returns-clause-kept c =
    let h = c.in-Some.entry in
    let now : Entry = record h { count = h.count - c.args.k } in
    files-kept (slice_set c.self.inside.slots.items c.in_ok-index.index (c.index_mut-slot.result.now.0, Some now))
