-- The entries are read again from their slots.
use Rattle.std.proofs.Common.{refl, ◌∙◌, subst, arith}
use Rattle.entry_table.specs.Slots.{kept_from}
use Rattle.entry_table.specs.Standing.{place_of_number, IsIndexed}
use Rattle.entry_table.proofs.EntryRuns.{slots-are, slots-kept, slots-files, slots-notes}
use Rattle.entry_table.proofs.table.Table.of_entries.Goals as goal

pub index_of_places-requires-clause-slots : goal.index_of_places-requires-clause-slots
index_of_places-requires-clause-slots c =
    let es = c.args.named.entries.items in
    (c.args.next, rw (c.as_slice.ensures.value ∙ c.in_ok-slots.ensures.slots) (slots-are es c.args.named.files.items 2 c.args.next c.requires.files c.requires.entries.numbers))

pub index_of_places-requires-clause-entries : goal.index_of_places-requires-clause-entries
index_of_places-requires-clause-entries c =
    let es = c.args.named.entries.items in
    let slots = c.as_slice.ensures.value ∙ c.in_ok-slots.ensures.slots in
    (c.args.next, rw (slots, slots-kept es c.args.named.files.items c.requires.files) c.requires.entries)

pub invariant_of-result : goal.invariant_of-result
invariant_of-result c =
    let es = c.args.named.entries.items in
    record {
      slots = rw c.in_ok-slots.ensures.slots (slots-are es c.args.named.files.items 2 c.args.next c.requires.files c.requires.entries.numbers);
      indexed = subst (λ slots. IsIndexed (place_of_number (kept_from slots)) c.in_ok-index.index) c.as_slice.ensures.value c.in_ok-index.ensures.indexed;
      ready = λ is. let none : ⊥ = cc in absurd none;
      free = λ is. let none : ⊥ = cc in absurd none;
      room =
          let e = c.len.ensures in
          let r = c.in_ok-way.ensures.capacity in
          omega arith;
    }

pub returns : goal.returns
returns c =
    let es = c.args.named.entries.items in
    let fs = c.args.named.files.items in
    record { table = rw (c.in_ok-slots.ensures.slots, slots-kept es fs c.requires.files, slots-files es fs, slots-notes es fs) refl }
