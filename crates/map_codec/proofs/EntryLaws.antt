-- What is taken of a daemon whose numbers and tree fit together is fit, and its counts are ones that the kernel may hold.
use Rattle.std.proofs.Common.{◌≡◌, ◌≤◌, ℕ, ◌+◌, Bool, true, ◌&&◌, List, [], ◌∷◌, Option, Some, None, refl, ap, ◌∙◌, arith}
use Rattle.std.specs.List.{AllByRecursion}
use Rattle.std.proofs.lemmas.Bool.Decides.{nat_tests}
use Rattle.checkout.specs.Changes.{AreChanges}
use Rattle.eden_base.specs.Limits.{greatest_count}
use Rattle.entry_table.specs.EntryPlaces.{IsNamedEntry}
use Rattle.entry_table.specs.Entries.{AreNumbers, is_of_use}
use Rattle.entry_table.specs.declared.kept.Kept.{Kept}
use Rattle.fuse_ops.proofs.FromEntries.{all-entries}
use Rattle.fuse_ops.specs.Served.{ServedState}
use Rattle.fuse_ops.specs.Soundness.{IsSound}
use Rattle.map_image.specs.declared.image.Image.{Image}
use Rattle.map_image.specs.Fit.{rises, is_next_number, entry_follows, CountsFit, IsNamedLink, IsFit}
use Rattle.map_codec.proofs.InOrder.{made_files_rise, changed_links_rise}
use Rattle.map_codec.proofs.SoundRaises.{all_pass}

rise_from : (last : Option Kept) (low next : ℕ) (entries : List Kept) → ((n : ℕ) → low ≤ n → is_next_number last n ≡ true) → AreNumbers low next entries → rises entry_follows last entries ≡ true
rise_from last low next [] above are = refl
rise_from last low next (kept ∷ entries) above are =
    let later : (n : ℕ) → kept.number.0 + 1 ≤ n → is_next_number (Some kept) n ≡ true = λ n le. grind (arith, nat_tests) in
    ap (λ (b : Bool). b && rises entry_follows (Some kept) entries) (above kept.number.0 are.0)
    ∙ rise_from (Some kept) (kept.number.0 + 1) next entries later are.1

entries_rise : (next : ℕ) (entries : List Kept) → AreNumbers 2 next entries → rises entry_follows None entries ≡ true
entries_rise next entries are = rise_from None 2 next entries (λ n le. grind (arith, nat_tests)) are

module _ (served : ServedState) (sound : IsSound served) where
  abbrev es : List Kept
  es = served.map.entries

  pub fit_taken : (image : Image) → image.entries ≡ es → AreChanges served.tree image.changes → AllByRecursion IsNamedLink image.changes.links → AllByRecursion IsNamedEntry image.entries → IsFit image
  fit_taken image same changes link_names names = record {
    entries_rise = rw same (entries_rise served.map.next es sound.numbers);
    entries_have_names = names;
    each_of_use = rw same (all_pass (is_of_use es) es (all-entries (λ (kept : Kept). is_of_use es kept ≡ true) 2 served.map.next [] es sound.numbers sound.each_of_use));
    made_rise = made_files_rise served.tree image.changes.made changes.made;
    links_rise = changed_links_rise served.tree image.changes.links changes.links;
    links_have_names = link_names;
  }

  pub counts_taken : CountsFit es
  counts_taken = all-entries (λ (kept : Kept). kept.count ≤ greatest_count) 2 served.map.next [] es sound.numbers sound.counts_fit
