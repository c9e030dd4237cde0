-- The number that is reserved is given: its slot is the last.
use Rattle.std.proofs.Common.{◌≡◌, List, [], ◌∷◌, ◌++◌, None, refl, sym, ap, ◌∙◌, subst}
use Rattle.eden_base.specs.declared.place.Place.TheVariants.{Linked}
use Rattle.entry_table.specs.Entries.{entry_at}
use Rattle.entry_table.specs.Slots.{kept_from, file_beside, note_beside}
use Rattle.entry_table.specs.Standing.{place_of_number, IsIndexed}
use Rattle.entry_table.specs.Table.{TableState, kept_of}
use Rattle.entry_table.specs.declared.kept.Kept.{Kept}
use Rattle.entry_table.specs.declared.kept.Entry.{Entry}
use Rattle.entry_table.proofs.EntryLemmas.{next-none}
use Rattle.entry_table.proofs.Placed.{added-elsewhere, added-here, placed-free, placed-none}
use Rattle.entry_table.proofs.SlotGrowth.{pushed-slots, pushed-kept, pushed-beside}
use Rattle.entry_table.proofs.SlotLemmas.{slots-numbers}
use Rattle.entry_table.proofs.Standing.{indexed-gained, under}
use Rattle.entry_table.proofs.TableLemmas.{reserved, way-filled}
use Rattle.entry_table.proofs.table.Table.add.Goals as goal

pub insert-requires : goal.insert-requires
insert-requires c = record { room = c.self.invariant.ready (reserved c.self.inside c.args.self.now c.self.view_is c.requires.reserved) }

pub invariant_of-self : goal.invariant_of-self
invariant_of-self c =
    let t = c.self.inside in
    let h : Entry = record { place = Linked c.args.parent c.args.name; count = 1; file = None; note = None } in
    let same = ap kept_from c.push_reserved.ensures.items ∙ pushed-kept t.next h t.slots.items in
    let free : entry_at (kept_from t.slots.items) c.args.parent.0 c.args.name ≡ None = subst (λ (s : TableState). entry_at s.entries c.args.parent.0 c.args.name ≡ None) (sym c.self.view_is) c.requires.is_new in
    let es = kept_from t.slots.items in
    let x = kept_of t.next h in
    let none = next-none es t.next (slots-numbers t.slots.items 2 t.next c.self.invariant.slots) in
    record {
      slots = rw c.push_reserved.ensures.items (pushed-slots t.next h t.slots.items 2 c.self.invariant.slots);
      indexed = subst (λ (es : List Kept). IsIndexed (place_of_number es) c.insert.new.self) (sym same)
          (indexed-gained (place_of_number es) (place_of_number (es ++ x ∷ [])) t.next (added-elsewhere es x) t.index c.insert.new.self c.args.parent.0 c.bytes.result.now
          (placed-none es t.next none) (added-here es x none ∙ ap (under c.args.parent.0) (sym c.bytes.ensures.bytes)) (λ m e. placed-free es c.args.parent.0 c.args.name free m (e ∙ ap (under c.args.parent.0) c.bytes.ensures.bytes)) c.self.invariant.indexed c.insert.ensures.inserted);
      ready = λ is. let none : ⊥ = cc in absurd none;
      free = λ is. let none : ⊥ = cc in absurd none;
      room = way-filled t.is_reserved _ _ _ (reserved t c.args.self.now c.self.view_is c.requires.reserved) c.push_reserved.ensures.len c.self.invariant.room;
    }

pub returns-clause-added : goal.returns-clause-added
returns-clause-added c =
    let t = c.self.inside in
    let h : Entry = record { place = Linked c.args.parent c.args.name; count = 1; file = None; note = None } in
    rw (← c.self.view_is, c.push_reserved.ensures.items, pushed-kept t.next h t.slots.items, pushed-beside t.next h file_beside t.slots.items refl, pushed-beside t.next h note_beside t.slots.items refl) refl
