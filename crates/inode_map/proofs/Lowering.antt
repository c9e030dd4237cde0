-- What a count that is lowered leaves of the map.
use Rattle.std.proofs.Common.{◌≡◌, ℕ, Bool, false, refl, sym, ap, ◌∙◌, subst}
use Rattle.std.specs.List.{list_any}
use Rattle.entry_table.specs.Entries.{is_kid_of, lowered}
use Rattle.inode_map.specs.InodeMap.{MapState, forgotten, loaded_number}
use Rattle.inode_map.specs.Inside.{IsConsistent}
use Rattle.inode_map.specs.Loaded.{attrs_in}
use Rattle.entry_table.specs.Table.{TableState, AreOfKept, file_number}
use Rattle.inode_map.specs.declared.inode_map.InodeMap.TheInside as map
use Rattle.entry_table.proofs.Changing.{kids-changed}
use Rattle.entry_table.proofs.Counting.{less, less-keeps}
use Rattle.inode_map.proofs.Forgetting.{IsTold, lowered-kept, forgotten-lowered}
use Rattle.inode_map.proofs.Giving.{AreKept}
use Rattle.inode_map.proofs.Keeping.{of-changed}

module _ (m : map.Inside) (now : MapState) (new : TableState) (n k : ℕ) where
  -- how it is seen
  abbrev pub seen : TableState → MapState
  seen t = record { entries = t.entries; next = t.next; bad_items = m.bad_items; loaded = attrs_in m.loaded; limit = m.loaded.capacity; spare = t.spare; remembered = t.remembered }

  -- the entries of the map, of which one is counted less
  abbrev pub IsLess : Type 0
  IsLess = new ≡ record m.table { entries = lowered m.table.entries n k }

  pub are-kept : IsConsistent m → AreKept m.table.next m.table.entries
  are-kept is = record { numbers = is.numbers; of_use = is.of_use }

  pub loaded-less : IsConsistent m → AreOfKept loaded_number (lowered m.table.entries n k) (attrs_in m.loaded)
  loaded-less is = of-changed loaded_number m.table.entries n (less k) (attrs_in m.loaded) (λ x. refl) is.loaded

  -- whether something stands below it is what it was
  pub kids-less : (b : Bool) → IsLess → b ≡ list_any (is_kid_of n) new.entries → list_any (is_kid_of n) m.table.entries ≡ b
  kids-less b less_is kids = sym (kids-changed m.table.entries n n (less k) (less-keeps k)) ∙ ap (λ (t : TableState). list_any (is_kid_of n) t.entries) (sym less_is) ∙ sym kids

  -- where the number is of use still, the map is what it is after the forget
  pub less-consistent : IsConsistent m → IsLess → IsTold (seen m.table) n k false → IsConsistent (record { table = new; bad_items = m.bad_items; loaded = m.loaded })
  less-consistent is less_is told =
      let kept = lowered-kept (seen m.table) n k (are-kept is) told in
      subst (λ (t : TableState). IsConsistent (record { table = t; bad_items = m.bad_items; loaded = m.loaded })) (sym less_is)
      (record { numbers = kept.numbers; numbers_fit = is.numbers_fit; of_use = kept.of_use; loaded = loaded-less is; named = is.named })

  pub less-forgotten : seen m.table ≡ now → IsConsistent m → IsLess → AreOfKept file_number new.entries new.remembered → IsTold (seen m.table) n k false → seen new ≡ forgotten now n k
  less-forgotten view is less_is files told =
      let left = subst (λ (t : TableState). AreOfKept file_number t.entries t.remembered) less_is files in
      ap seen less_is ∙ forgotten-lowered (seen m.table) n k (are-kept is) (loaded-less is) left told ∙ ap (λ (s : MapState). forgotten s n k) view
