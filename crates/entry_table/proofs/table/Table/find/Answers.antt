-- The index has the number of a place.
use Rattle.std.proofs.Common.{◌≡◌, ℕ, List, Option, sym, ap, ◌∙◌, subst}
use Rattle.std.specs.Option.{option_map}
use Rattle.directory_index.specs.CountedIndex.{IsCountedOf}
use Rattle.directory_index.specs.Standing.{AreKnown, Standing}
use Rattle.entry_table.proofs.Placed.{indexed-at, number_of}
use Rattle.entry_table.proofs.SlotLemmas.{slots-numbers}
use Rattle.entry_table.proofs.TableLemmas.{view_of}
use Rattle.entry_table.specs.Entries.{entry_at, number_of_kept}
use Rattle.entry_table.specs.Inside.{IsTable}
use Rattle.entry_table.specs.Slots.{kept_from}
use Rattle.entry_table.specs.Standing.{place_of_number}
use Rattle.entry_table.specs.Table.{TableState}
use Rattle.entry_table.specs.declared.kept.Entry.{Entry}
use Rattle.entry_table.specs.declared.table.Table.TheInside.{Inside}
use Rattle.entry_table.proofs.table.Table.find.Goals as goal

-- what the index gives is the number of the entry at the place
found : (t : Inside) (now : TableState) → view_of t ≡ now → IsTable t → (slots : List (ℕ × Option Entry)) → slots ≡ t.slots.items → (dir : ℕ) (name text : List ℕ) → text ≡ name → (o got : Option ℕ) → got ≡ o →
    ((at : Standing) → IsCountedOf at t.index → AreKnown at (place_of_number (kept_from slots)) → got ≡ at dir text) → option_map number_of o ≡ option_map number_of_kept (entry_at now.entries dir name)
found t now view is slots same dir name text text_is o got e number =
    let known = subst (λ (es : List (ℕ × Option Entry)). AreKnown is.indexed.at (place_of_number (kept_from es))) (sym same) is.indexed.known in
    ap (option_map number_of) (sym e ∙ number is.indexed.at is.indexed.of known ∙ ap (is.indexed.at dir) text_is)
    ∙ indexed-at (kept_from t.slots.items) 2 t.next (slots-numbers t.slots.items 2 t.next is.slots) t.index is.indexed dir name
    ∙ ap (λ (s : TableState). option_map number_of_kept (entry_at s.entries dir name)) view

pub returns-in-Some : goal.returns-in-Some
returns-in-Some c = record {
  number = found c.self.inside c.args.self.now c.self.view_is c.self.invariant c.of-places.result (c.of-places.ensures.slots ∙ c.as_slice.ensures.value)
      c.args.parent.0 c.args.name.now c.bytes.result.now c.bytes.ensures.bytes _ c.get.result c.in-Some.is c.get.ensures.number;
}

pub returns-in-None : goal.returns-in-None
returns-in-None c = record {
  number = found c.self.inside c.args.self.now c.self.view_is c.self.invariant c.of-places.result (c.of-places.ensures.slots ∙ c.as_slice.ensures.value)
      c.args.parent.0 c.args.name.now c.bytes.result.now c.bytes.ensures.bytes _ c.get.result c.in-None.is c.get.ensures.number;
}
