-- The next number is added.
use Rattle.std.proofs.Common.{lit<, refl, sym, subst, arith, rules}
use Rattle.entry_table.specs.Entries.{new_entry}
use Rattle.inode_map.specs.InodeMap.{loaded_number}
use Rattle.inode_map.specs.Inside.{IsConsistent}
use Rattle.inode_map.specs.Loaded.{attrs_in}
use Rattle.entry_table.specs.Table.{TableState}
use Rattle.entry_table.specs.declared.kept.Kept.{Kept}
use Rattle.entry_table.proofs.EntryLemmas.{next-none}
use Rattle.inode_map.proofs.Giving.{kept-new}
use Rattle.inode_map.proofs.Keeping.{of-added}
use Rattle.inode_map.proofs.inode_map.InodeMap.give_ready.Goals as goal

pub invariant_of-self : goal.invariant_of-self
invariant_of-self c =
    let t = c.self.inside.table in
    let x : Kept = new_entry t.next c.args.parent c.args.name in
    let are = kept-new t.entries t.next x (record { numbers = c.self.invariant.numbers; of_use = c.self.invariant.of_use }) refl (lit< tt) in
    subst (λ (new : TableState). IsConsistent (record { table = new; bad_items = c.self.inside.bad_items; loaded = c.self.inside.loaded })) (sym (c.add.ensures.added)) (record {
      numbers = are.numbers;
      numbers_fit = let f = c.if-next-lt-END_OF_NUMBERS.true in let e = c.next.ensures.next in omega arith;
      of_use = are.of_use;
      loaded = of-added loaded_number t.entries x (attrs_in c.self.inside.loaded) (next-none t.entries t.next c.self.invariant.numbers) c.self.invariant.loaded;
      named = c.self.invariant.named;
    })

-- What a wrong body of must-fail/ breaks; an answer makes its refusal cheap.
pub returns-then-next-lt-END_OF_NUMBERS-clause-given : goal.returns-then-next-lt-END_OF_NUMBERS-clause-given
returns-then-next-lt-END_OF_NUMBERS-clause-given c = search rules

pub add-requires-clause-is_new : goal.add-requires-clause-is_new
add-requires-clause-is_new c = search rules
