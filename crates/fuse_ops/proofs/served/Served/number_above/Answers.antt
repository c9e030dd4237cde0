-- The number of the directory in which the file of a number stands.
use Rattle.std.proofs.Common.{Some, sym, ap, subst, ◌∙◌}
use Rattle.std.specs.Option.{option_map}
use Rattle.eden_base.specs.declared.place.Place.{Place}
use Rattle.manifest.specs.Tree.{IsTree}
use Rattle.entry_table.specs.Entries.{entry_of, place_of_kept}
use Rattle.fuse_ops.specs.Served.{ServedState}
use Rattle.fuse_ops.specs.Soundness.{IsSound}
use Rattle.fuse_ops.proofs.Inodes.{parent-names}
use Rattle.fuse_ops.proofs.served.Served.number_above.Goals as goal

pub returns-in-Some-Linked-clause-above : goal.returns-in-Some-Linked-clause-above
returns-in-Some-Linked-clause-above c = λ file names reached.
    parent-names c.args.self.now (subst (λ (s : ServedState). IsTree s.tree) c.self.view_is c.self.invariant.0) (subst IsSound c.self.view_is c.self.invariant.1)
    c.args.number.0 file c.in-Some-Linked.parent c.in-Some-Linked.field-0-1
    (ap (λ (s : ServedState). option_map place_of_kept (entry_of s.map.entries c.args.number.0)) (sym c.self.view_is) ∙ sym c.in-Some-Linked.ensures.place ∙ ap (λ (p : Place). Some p) c.in-Some-Linked.field-0-is) names
