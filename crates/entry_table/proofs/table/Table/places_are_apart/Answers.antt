use Rattle.std.proofs.Common.{subst}
use Rattle.entry_table.proofs.Placed.{indexed-apart}
use Rattle.entry_table.proofs.SlotLemmas.{slots-numbers}
use Rattle.entry_table.specs.Entries.{AreApart}
use Rattle.entry_table.specs.Slots.{kept_from}
use Rattle.entry_table.specs.Table.{TableState}
use Rattle.entry_table.proofs.table.Table.places_are_apart.Goals as goal

pub returns : goal.returns
returns c =
    let t = c.self.inside in
    let are = slots-numbers t.slots.items 2 t.next c.self.invariant.slots in
    record { apart = subst (λ (now : TableState). AreApart now.entries) c.self.view_is (indexed-apart (kept_from t.slots.items) 2 t.next are t.index c.self.invariant.indexed) }
