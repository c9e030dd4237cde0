-- A name is taken from the number that has it, if one has.
use Rattle.std.proofs.Common.{◌≡◌, ℕ, List, Option, None, sym, ap, ◌∙◌, subst}
use Rattle.eden_base.proofs.MemberLemmas.{first-passes}
use Rattle.eden_base.specs.First.{changed_where}
use Rattle.eden_base.specs.declared.number.FileId.{FileId}
use Rattle.entry_table.proofs.EntryLemmas.{entry_of-number}
use Rattle.entry_table.proofs.Places.{stands-place}
use Rattle.entry_table.specs.Entries.{has_number, stands_at, entry_at, marked}
use Rattle.entry_table.specs.Table.{TableState}
use Rattle.entry_table.specs.declared.kept.Kept.{Kept}
use Rattle.inode_map.proofs.Giving.{has-entry}
use Rattle.inode_map.proofs.Moving.{displaced-none, displaced-some, displaced-free, none-found}
use Rattle.inode_map.specs.InodeMap.{displaced}
use Rattle.inode_map.proofs.inode_map.places.displace.Goals as goal

pub returns-in_default-clause-displaced : goal.returns-in_default-clause-displaced
returns-in_default-clause-displaced c =
    let t : TableState = c.args.table.now in
    let none = c.requires.given c.in_default.is in
    λ i. record t { entries = sym (displaced-none t.entries c.args.parent.0 c.args.name.now c.args.file none) i }

pub returns-in_default-find-clause-displaced : goal.returns-in_default-find-clause-displaced
returns-in_default-find-clause-displaced c =
    let t : TableState = c.args.table.now in
    let none = none-found (entry_at t.entries c.args.parent.0 c.args.name.now) (c.in_default-find.ensures.number) in
    λ i. record t { entries = sym (displaced-none t.entries c.args.parent.0 c.args.name.now c.args.file none) i }

pub unlink-requires : goal.unlink-requires
unlink-requires c =
    let t : TableState = c.args.table.now in
    let h = has-entry t.entries 2 t.next c.args.parent.0 c.args.name.now c.in-Some-find.number c.requires.numbers c.in-Some-find.ensures.number in
    record { linked = (h.kept, c.args.parent, c.args.name.now, h.entry, stands-place c.args.parent.0 c.args.name.now h.kept (first-passes t.entries (stands_at c.args.parent.0 c.args.name.now) h.kept h.at)) }

pub returns-clause-displaced : goal.returns-clause-displaced
returns-clause-displaced c =
    let t : TableState = c.args.table.now in
    let h = has-entry t.entries 2 t.next c.args.parent.0 c.args.name.now c.in-Some-find.number c.requires.numbers c.in-Some-find.ensures.number in
    let marks = displaced-some t.entries 2 t.next c.args.parent.0 c.args.name.now c.in-Some.file h.kept c.requires.numbers h.at in
    c.unlink.ensures.unlinked
    ∙ ap (λ (n : ℕ). record t { entries = changed_where (has_number n) (marked c.in-Some.file) t.entries }) (sym (entry_of-number t.entries c.in-Some-find.number.0 h.kept h.entry))
    ∙ ap (λ (es : List Kept). record t { entries = es }) (sym marks)
    ∙ ap (λ (o : Option FileId). record t { entries = displaced t.entries c.args.parent.0 c.args.name.now o }) (sym c.in-Some.is)

pub returns-clause-free : goal.returns-clause-free
returns-clause-free c =
    let t : TableState = c.args.table.now in
    let h = has-entry t.entries 2 t.next c.args.parent.0 c.args.name.now c.in-Some-find.number c.requires.numbers c.in-Some-find.ensures.number in
    subst (λ (s : TableState). entry_at s.entries c.args.parent.0 c.args.name.now ≡ None) (sym c.unlink.ensures.unlinked)
    (subst (λ (n : ℕ). entry_at (changed_where (has_number n) (marked c.in-Some.file) t.entries) c.args.parent.0 c.args.name.now ≡ None) (entry_of-number t.entries c.in-Some-find.number.0 h.kept h.entry)
    (displaced-free t.entries 2 t.next c.args.parent c.args.name.now c.in-Some.file h.kept c.requires.numbers c.places_are_apart.ensures.apart h.at))
