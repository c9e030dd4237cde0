-- A number stands in a directory where an entry does.
use Rattle.std.proofs.Common.{◌≡◌, Bool, true, false, refl, sym, ◌∙◌}
use Rattle.std.specs.List.{list_any}
use Rattle.entry_table.proofs.Placed.{indexed-none, indexed-some}
use Rattle.entry_table.proofs.SlotLemmas.{slots-numbers}
use Rattle.entry_table.specs.Entries.{is_kid_of}
use Rattle.entry_table.specs.Slots.{kept_from}
use Rattle.entry_table.proofs.table.Table.has_kids.Goals as goal

pub returns : goal.returns
returns c =
    let t = c.self.inside in
    record { kids = rw (← c.self.view_is) (in_ c.has_names.result refl) } where
      in_ : (b : Bool) → c.has_names.result ≡ b → c.has_names.result ≡ list_any (is_kid_of c.args.parent.0) (kept_from c.self.inside.slots.items)
      in_ true e =
          let t = c.self.inside in
          let is = c.self.invariant.indexed in
          let w = c.has_names.ensures.some is.at is.of e in
          e ∙ sym (indexed-some (kept_from t.slots.items) 2 t.next (slots-numbers t.slots.items 2 t.next c.self.invariant.slots) t.index is c.args.parent.0 w.0 w.1)
      in_ false e =
          let t = c.self.inside in
          let is = c.self.invariant.indexed in
          e ∙ sym (indexed-none (kept_from t.slots.items) 2 t.next (slots-numbers t.slots.items 2 t.next c.self.invariant.slots) t.index is c.args.parent.0 (c.has_names.ensures.none is.at is.of e))
