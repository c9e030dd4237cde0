-- The index has the entries of the slots, one after another.
use Rattle.std.proofs.Common.{List, Option, ℕ, sym, ap, ◌∙◌, subst, take, drop, suc}
use Rattle.directory_index.specs.Standing.{AreKnown}
use Rattle.eden_base.specs.declared.place.Place.TheVariants.{Linked}
use Rattle.entry_table.proofs.EntryRuns.{indexed-linked, indexed-unlinked, kept-cut, kept-none, kept-taken, known-among}
use Rattle.entry_table.proofs.Standing.{indexed-kept}
use Rattle.entry_table.specs.Entries.{AreEntries}
use Rattle.entry_table.specs.Slots.{kept_from}
use Rattle.entry_table.specs.Standing.{place_of_number, IsIndexed}
use Rattle.entry_table.specs.Table.{kept_of}
use Rattle.entry_table.specs.declared.kept.Entry.{Entry}
use Rattle.entry_table.specs.declared.kept.Kept.{Kept}
use Rattle.entry_table.proofs.slot_places.index_of_places.Goals as goal

pub loop-number-preserved-in_default : goal.loop-number-preserved-in_default
loop-number-preserved-in_default c =
    subst (λ (es : List Kept). IsIndexed (place_of_number es) c.loop-number.index)
    (sym (kept-none c.args.slots.now c.loop-number.number-index c.loop-number-item.result c.loop-number-test.true c.loop-number-item.is c.in_default.is)) c.loop-number.invariant

pub loop-number-preserved-in_default-place : goal.loop-number-preserved-in_default-place
loop-number-preserved-in_default-place c =
    let slots = c.args.slots.now in
    let i = c.loop-number.number-index in
    let slot = c.loop-number-item.result in
    let h = c.in-Some.entry in
    let next = c.requires.entries.0 in
    let are = subst (λ (es : List Kept). AreEntries es next) (kept-cut slots i slot c.loop-number-test.true c.loop-number-item.is h c.in-Some.is) c.requires.entries.1 in
    subst (λ (es : List Kept). IsIndexed (place_of_number es) c.loop-number.index) (sym (kept-taken slots i slot c.loop-number-test.true c.loop-number-item.is h c.in-Some.is))
    (indexed-unlinked (kept_from (take i slots)) (kept_of slot.0 h) (kept_from (drop (suc i) slots)) next are c.in_default-place.field-0 c.in_default-place.is c.loop-number.index c.loop-number.invariant)

pub make_room-requires : goal.make_room-requires
make_room-requires c =
    let before = c.loop-number.invariant in
    let known = known-among c.args.slots.now c.loop-number.number-index c.loop-number-item.result c.loop-number-test.true c.loop-number-item.is c.in-Some.entry c.in-Some.is c.requires.entries.0 c.requires.entries.1 c.loop-number.index before in
    record { known = (before.at, before.of, subst (λ (es : List (ℕ × Option Entry)). AreKnown before.at (place_of_number (kept_from es))) (sym c.of-places.ensures.slots) known) }

pub loop-number-preserved : goal.loop-number-preserved
loop-number-preserved c =
    let slots = c.args.slots.now in
    let i = c.loop-number.number-index in
    let slot = c.loop-number-item.result in
    let h = c.in-Some.entry in
    let next = c.requires.entries.0 in
    let before = c.loop-number.invariant in
    let known = known-among slots i slot c.loop-number-test.true c.loop-number-item.is h c.in-Some.is next c.requires.entries.1 c.loop-number.index before in
    let asked = subst (λ (es : List (ℕ × Option Entry)). AreKnown before.at (place_of_number (kept_from es))) (sym c.of-places.ensures.slots) known in
    let roomed = indexed-kept (place_of_number (kept_from (take i slots))) c.loop-number.index c.make_room.new.self before (c.in_ok-make_room.ensures.same before.at before.of asked) in
    let are = subst (λ (es : List Kept). AreEntries es next) (kept-cut slots i slot c.loop-number-test.true c.loop-number-item.is h c.in-Some.is) c.requires.entries.1 in
    subst (λ (es : List Kept). IsIndexed (place_of_number es) c.insert.new.self) (sym (kept-taken slots i slot c.loop-number-test.true c.loop-number-item.is h c.in-Some.is))
    (indexed-linked (kept_from (take i slots)) (kept_of slot.0 h) (kept_from (drop (suc i) slots)) next are c.in-Linked.parent c.bytes.result.now
    (c.in-Linked.is ∙ ap (Linked c.in-Linked.parent) (sym c.bytes.ensures.bytes)) c.make_room.new.self c.insert.new.self roomed c.insert.ensures.inserted)
