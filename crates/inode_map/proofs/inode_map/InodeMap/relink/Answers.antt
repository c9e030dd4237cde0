-- A number gets another's name, and what is of no use then is struck.
use Rattle.std.proofs.Common.{Some, List, refl, sym, subst, ap, ◌∙◌}
use Rattle.eden_base.specs.First.{changed_where}
use Rattle.entry_table.specs.EntryPlaces.{AreOfUseBut}
use Rattle.entry_table.specs.Entries.{has_number, entry_at, moved_to, AreNumbers, IsLinked}
use Rattle.entry_table.specs.Table.{TableState, AreOfKept, IsIn}
use Rattle.entry_table.specs.declared.kept.Kept.{Kept}
use Rattle.inode_map.specs.Inside.{IsConsistent}
use Rattle.inode_map.specs.InodeMap.{MapState, displaced, moved, MayGiveWay, left_of_use, loaded_number}
use Rattle.inode_map.specs.Loaded.{attrs_in}
use Rattle.inode_map.specs.Pruned.{of_kept, pruned}
use Rattle.inode_map.specs.declared.loaded.LoadedAttr.{LoadedAttr}
use Rattle.inode_map.proofs.Keeping.{of-changed, of_kept-kept}
use Rattle.inode_map.proofs.Moving.{displaced-others, displaced-linked, moved-numbers, moved-others, of-displaced}
use Rattle.inode_map.proofs.Pruning.{struck-left}
use Rattle.inode_map.proofs.inode_map.InodeMap.relink.Goals as goal

pub relink-left-requires-clause-linked : goal.relink-left-requires-clause-linked
relink-left-requires-clause-linked c =
    let t : TableState = c.self.inside.table in
    let may = subst (λ (m : MapState). MayGiveWay m.entries c.args.number.0 c.args.replaced (entry_at m.entries c.args.parent.0 c.args.name)) (sym c.self.view_is) c.requires.gives_way in
    let linked = subst (λ (m : MapState). IsLinked m.entries c.args.number.0) (sym c.self.view_is) c.requires.linked in
    subst (λ (s : TableState). IsLinked s.entries c.args.number.0) (sym c.displace.ensures.displaced)
    (displaced-linked t.entries 2 t.next c.args.number.0 c.args.parent.0 c.args.name c.args.replaced c.self.invariant.numbers may linked)

pub prune-requires-clause-numbers : goal.prune-requires-clause-numbers
prune-requires-clause-numbers c =
    let t : TableState = c.self.inside.table in
    let is = c.relink-left.ensures.moved ∙ ap (λ (s : TableState). record s { entries = changed_where (has_number c.args.number.0) (moved_to c.args.parent c.args.name) s.entries; spare = 0 }) c.displace.ensures.displaced in
    subst (λ (new : TableState). AreNumbers 2 new.next new.entries) (sym is) (moved-numbers t.entries 2 t.next c.args.number.0 c.args.parent c.args.name c.args.replaced c.self.invariant.numbers)

pub prune-requires-clause-others_of_use : goal.prune-requires-clause-others_of_use
prune-requires-clause-others_of_use c =
    let t : TableState = c.self.inside.table in
    let is = c.relink-left.ensures.moved ∙ ap (λ (s : TableState). record s { entries = changed_where (has_number c.args.number.0) (moved_to c.args.parent c.args.name) s.entries; spare = 0 }) c.displace.ensures.displaced in
    let stood : IsIn (displaced t.entries c.args.parent.0 c.args.name c.args.replaced) c.args.number.0 c.relink-left.result = subst (λ (s : TableState). IsIn s.entries c.args.number.0 c.relink-left.result) c.displace.ensures.displaced c.relink-left.ensures.dir in
    subst (λ (new : TableState). AreOfUseBut (Some c.relink-left.result.0) new.entries) (sym is)
    (moved-others (displaced t.entries c.args.parent.0 c.args.name c.args.replaced) c.args.number.0 c.args.parent c.args.name stood.0 c.relink-left.result stood.1 stood.2 stood.3
    (displaced-others t.entries 2 t.next c.args.parent c.args.name c.args.replaced c.self.invariant.numbers c.self.invariant.of_use))

pub prune-requires-clause-loaded : goal.prune-requires-clause-loaded
prune-requires-clause-loaded c =
    let t : TableState = c.self.inside.table in
    let attrs = attrs_in c.self.inside.loaded in
    let is = c.relink-left.ensures.moved ∙ ap (λ (s : TableState). record s { entries = changed_where (has_number c.args.number.0) (moved_to c.args.parent c.args.name) s.entries; spare = 0 }) c.displace.ensures.displaced in
    subst (λ (new : TableState). AreOfKept loaded_number new.entries (attrs_in c.self.inside.loaded)) (sym is)
    (of-changed loaded_number (displaced t.entries c.args.parent.0 c.args.name c.args.replaced) c.args.number.0 (moved_to c.args.parent c.args.name) attrs (λ x. refl)
    (of-displaced loaded_number t.entries 2 t.next c.args.parent.0 c.args.name attrs c.self.invariant.numbers c.self.invariant.loaded c.args.replaced))

pub invariant_of-self : goal.invariant_of-self
invariant_of-self c =
    let m = c.self.inside in
    let t : TableState = c.self.inside.table in
    let is = c.relink-left.ensures.moved ∙ ap (λ (s : TableState). record s { entries = changed_where (has_number c.args.number.0) (moved_to c.args.parent c.args.name) s.entries; spare = 0 }) c.displace.ensures.displaced in
    let stood : IsIn (displaced t.entries c.args.parent.0 c.args.name c.args.replaced) c.args.number.0 c.relink-left.result = subst (λ (s : TableState). IsIn s.entries c.args.number.0 c.relink-left.result) c.displace.ensures.displaced c.relink-left.ensures.dir in
    let es : List Kept = moved t.entries c.args.number.0 c.args.parent c.args.name c.args.replaced in
    let others = moved-others (displaced t.entries c.args.parent.0 c.args.name c.args.replaced) c.args.number.0 c.args.parent c.args.name stood.0 c.relink-left.result stood.1 stood.2 stood.3
    (displaced-others t.entries 2 t.next c.args.parent c.args.name c.args.replaced c.self.invariant.numbers c.self.invariant.of_use) in
    let now = struck-left es t.next c.relink-left.result.0 (moved-numbers t.entries 2 t.next c.args.number.0 c.args.parent c.args.name c.args.replaced c.self.invariant.numbers) others in
    let left = c.prune.ensures.pruned ∙ ap (λ (s : TableState). pruned s c.prune.new.table.notes) is in
    let loaded = c.prune.ensures.unloaded ∙ ap (λ (s : TableState). of_kept loaded_number (left_of_use s.entries) (attrs_in m.loaded)) is in
    subst (λ (new : TableState). IsConsistent (record { table = new; bad_items = m.bad_items; loaded = c.prune.new.loaded })) (sym left) (record {
      numbers = now.numbers;
      numbers_fit = c.self.invariant.numbers_fit;
      of_use = now.of_use;
      loaded = subst (λ (xs : List LoadedAttr). AreOfKept loaded_number (left_of_use es) xs) (sym loaded) (of_kept-kept loaded_number (left_of_use es) (attrs_in m.loaded));
      named = c.prune.ensures.still_named;
    })
