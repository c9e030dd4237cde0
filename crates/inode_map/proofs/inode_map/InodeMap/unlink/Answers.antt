-- An entry loses its name, and what is of no use then is struck.
use Rattle.std.proofs.Common.{Some, List, refl, sym, subst, ap, ◌∙◌}
use Rattle.eden_base.specs.First.{changed_where}
use Rattle.entry_table.specs.EntryPlaces.{AreOfUseBut}
use Rattle.inode_map.specs.Inside.{IsConsistent}
use Rattle.entry_table.specs.Entries.{has_number, marked, AreNumbers}
use Rattle.inode_map.specs.InodeMap.{left_of_use, loaded_number}
use Rattle.inode_map.specs.Loaded.{attrs_in, AreNamed}
use Rattle.inode_map.specs.declared.loaded.LoadedAttr.{LoadedAttr}
use Rattle.entry_table.specs.Table.{TableState, AreOfKept}
use Rattle.inode_map.specs.Pruned.{of_kept, pruned}
use Rattle.entry_table.specs.declared.kept.Kept.{Kept}
use Rattle.entry_table.proofs.EntryLemmas.{numbers-changed}
use Rattle.inode_map.proofs.Keeping.{of-changed, of_kept-kept}
use Rattle.inode_map.proofs.Pruning.{marked-others, struck-left}
use Rattle.inode_map.proofs.inode_map.InodeMap.unlink.Goals as goal

pub prune-requires-clause-numbers : goal.prune-requires-clause-numbers
prune-requires-clause-numbers c =
    let t = c.self.inside.table in
    subst (λ (new : TableState). AreNumbers 2 new.next new.entries) (sym c.unlink-dir.ensures.unlinked) (numbers-changed t.entries 2 t.next (has_number c.args.number.0) (marked c.args.file) (λ x. refl) c.self.invariant.numbers)

pub prune-requires-clause-others_of_use : goal.prune-requires-clause-others_of_use
prune-requires-clause-others_of_use c =
    let t = c.self.inside.table in
    subst (λ (new : TableState). AreOfUseBut (Some c.unlink-dir.result.0) new.entries) (sym c.unlink-dir.ensures.unlinked) (marked-others t.entries c.args.number.0 c.args.file c.unlink-dir.ensures.dir.0 c.unlink-dir.result c.unlink-dir.ensures.dir.1 c.unlink-dir.ensures.dir.2 c.unlink-dir.ensures.dir.3 c.self.invariant.of_use)

pub prune-requires-clause-loaded : goal.prune-requires-clause-loaded
prune-requires-clause-loaded c =
    let t = c.self.inside.table in
    subst (λ (new : TableState). AreOfKept loaded_number new.entries (attrs_in c.self.inside.loaded)) (sym c.unlink-dir.ensures.unlinked) (of-changed loaded_number t.entries c.args.number.0 (marked c.args.file) (attrs_in c.self.inside.loaded) (λ x. refl) c.self.invariant.loaded)

pub prune-requires-clause-named : goal.prune-requires-clause-named
prune-requires-clause-named c = subst (λ (new : TableState). AreNamed new.notes c.self.inside.loaded) (sym c.unlink-dir.ensures.unlinked) c.self.invariant.named

pub invariant_of-self : goal.invariant_of-self
invariant_of-self c =
    let t = c.self.inside.table in
    let m = c.self.inside in
    let es : List Kept = changed_where (has_number c.args.number.0) (marked c.args.file) t.entries in
    let now = struck-left es t.next c.unlink-dir.result.0 (numbers-changed t.entries 2 t.next (has_number c.args.number.0) (marked c.args.file) (λ x. refl) c.self.invariant.numbers) (marked-others t.entries c.args.number.0 c.args.file c.unlink-dir.ensures.dir.0 c.unlink-dir.result c.unlink-dir.ensures.dir.1 c.unlink-dir.ensures.dir.2 c.unlink-dir.ensures.dir.3 c.self.invariant.of_use) in
    let left = c.prune.ensures.pruned ∙ ap (λ (s : TableState). pruned s c.prune.new.table.notes) c.unlink-dir.ensures.unlinked in
    let loaded = c.prune.ensures.unloaded ∙ ap (λ (s : TableState). of_kept loaded_number (left_of_use s.entries) (attrs_in m.loaded)) c.unlink-dir.ensures.unlinked in
    subst (λ (new : TableState). IsConsistent (record { table = new; bad_items = m.bad_items; loaded = c.prune.new.loaded })) (sym left) (record {
      numbers = now.numbers;
      numbers_fit = c.self.invariant.numbers_fit;
      of_use = now.of_use;
      loaded = subst (λ (xs : List LoadedAttr). AreOfKept loaded_number (left_of_use es) xs) (sym loaded) (of_kept-kept loaded_number (left_of_use es) (attrs_in m.loaded));
      named = c.prune.ensures.still_named;
    })
