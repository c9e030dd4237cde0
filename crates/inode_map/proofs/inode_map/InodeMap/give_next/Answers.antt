-- The next number is added.
use Rattle.std.proofs.Common.{◌+◌, ◌++◌, ◌∷◌, [], lit<, refl, sym, ap, ◌∙◌, subst, arith}
use Rattle.entry_table.specs.Entries.{new_entry}
use Rattle.inode_map.specs.InodeMap.{loaded_number}
use Rattle.inode_map.specs.Inside.{IsConsistent}
use Rattle.inode_map.specs.Loaded.{attrs_in}
use Rattle.entry_table.specs.Table.{TableState}
use Rattle.entry_table.specs.declared.kept.Kept.{Kept}
use Rattle.entry_table.proofs.EntryLemmas.{next-none}
use Rattle.inode_map.proofs.Giving.{kept-new}
use Rattle.inode_map.proofs.Keeping.{of-added}
use Rattle.inode_map.proofs.inode_map.InodeMap.give_next.Goals as goal

pub invariant_of-self-2 : goal.invariant_of-self-2
invariant_of-self-2 c =
    let t = c.self.inside.table in
    let x : Kept = new_entry t.next c.args.parent c.args.name.now in
    let are = kept-new t.entries t.next x (record { numbers = c.self.invariant.numbers; of_use = c.self.invariant.of_use }) refl (lit< tt) in
    subst (λ (new : TableState). IsConsistent (record { table = new; bad_items = c.self.inside.bad_items; loaded = c.self.inside.loaded })) (sym (c.add.ensures.added ∙ ap (λ (old : TableState). record old { entries = old.entries ++ new_entry old.next c.args.parent c.in-Ok.name ∷ []; next = old.next + 1; spare = 0 }) c.in-Ok-reserve.ensures.ok ∙ ap (λ name. record t { entries = t.entries ++ new_entry t.next c.args.parent name ∷ []; next = t.next + 1; spare = 0 }) c.in-Ok.ensures.copy)) (record {
      numbers = are.numbers;
      numbers_fit = let f = c.if-next-ge-END_OF_NUMBERS.false in let e = c.next.ensures.next in omega arith;
      of_use = are.of_use;
      loaded = of-added loaded_number t.entries x (attrs_in c.self.inside.loaded) (next-none t.entries t.next c.self.invariant.numbers) c.self.invariant.loaded;
      named = c.self.invariant.named;
    })
