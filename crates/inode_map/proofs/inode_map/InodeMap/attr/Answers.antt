-- What is used is loaded.
use Rattle.std.proofs.Common.{List, sym, subst}
use Rattle.entry_table.specs.Table.{AreOfKept}
use Rattle.inode_map.specs.InodeMap.{loaded_number}
use Rattle.inode_map.specs.Loaded.{attrs_in}
use Rattle.inode_map.specs.declared.loaded.LoadedAttr.{LoadedAttr}
use Rattle.inode_map.proofs.Keeping.{used-kept}
use Rattle.inode_map.proofs.inode_map.InodeMap.attr.Goals as goal

pub invariant_of-self : goal.invariant_of-self
invariant_of-self c =
    let m = c.self.inside in
    record {
      numbers = c.self.invariant.numbers;
      numbers_fit = c.self.invariant.numbers_fit;
      of_use = c.self.invariant.of_use;
      loaded = subst (λ (xs : List LoadedAttr). AreOfKept loaded_number m.table.entries xs) (sym c.attr_at.ensures.used) (used-kept m.table.entries c.args.number.0 (attrs_in m.loaded) c.self.invariant.loaded);
      named = c.attr_at.ensures.still_named;
    }
