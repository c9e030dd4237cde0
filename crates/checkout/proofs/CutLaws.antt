-- Where no file that lost its link is cut off, none stands at the place of a change.
use Rattle.std.proofs.Common.{◌≡◌, ℕ, ◌||◌, Bool, true, false, List, [], ◌∷◌, Some, None, refl, sym, ap}
use Rattle.std.proofs.lemmas.Bool.{or_parts}
use Rattle.std.specs.FinMap.{FinMap}
use Rattle.std.specs.List.{AllByRecursion, cons_option, list_any}
use Rattle.std.specs.Option.{option_map}
use Rattle.eden_base.specs.declared.number.FileId.{FileId}
use Rattle.checkout.specs.BadChanges.{file_does}
use Rattle.checkout.specs.Laying.{base_target, taken}
use Rattle.checkout.specs.Rounds.{cuts, cuts_if, first_of, is_cut}
use Rattle.manifest.specs.declared.link_change.LinkChange.{LinkChange}
use Rattle.manifest.specs.Manifest.{Manifest}
use Rattle.manifest.specs.Tree.{link_cmp}
use Rattle.checkout.proofs.AmongLinks.{first_of-same}

module _ (m : Manifest) (added : FinMap link_cmp FileId) (gone : ℕ → Bool) (lost : ℕ → ℕ) where
  abbrev cut : FileId → Bool
  cut = is_cut m added gone lost

  -- some of these files is cut off
  abbrev any_cut : List ℕ → Bool
  any_cut files = list_any (λ f. cut (record { 0 = f })) files

  one : (change : LinkChange) (links : List LinkChange) → any_cut (taken m (change ∷ links)) ≡ false → (file_does cut (base_target m change) ≡ false) × (any_cut (taken m links) ≡ false)
  one change links =
      elim (base_target m change) as (λ o. any_cut (cons_option (option_map (λ (file : FileId). file.0) o) (taken m links)) ≡ false → (file_does cut o ≡ false) × (any_cut (taken m links) ≡ false)) [
        | None ↦ λ e. (refl, e)
        | Some file ↦ λ e. or_parts (cut file) (any_cut (taken m links)) e
      ]

  same_tests : (files : Bool) (links : List LinkChange) → files ≡ any_cut (taken m links) → AllByRecursion (λ change. cuts_if files m added gone lost change ≡ cuts m added gone lost change) links
  same_tests files links = go links files where
    all_same : (xs : List LinkChange) → AllByRecursion (λ change. cuts_if true m added gone lost change ≡ cuts m added gone lost change) xs
    all_same [] = tt
    all_same (x ∷ xs) = (refl, all_same xs)

    none_same : (xs : List LinkChange) → any_cut (taken m xs) ≡ false → AllByRecursion (λ change. cuts_if false m added gone lost change ≡ cuts m added gone lost change) xs
    none_same [] e = tt
    none_same (x ∷ xs) e = let w = one x xs e in (ap (λ b. cut x.dir || b) (sym w.0), none_same xs w.1)

    go : (xs : List LinkChange) (b : Bool) → b ≡ any_cut (taken m xs) → AllByRecursion (λ change. cuts_if b m added gone lost change ≡ cuts m added gone lost change) xs
    go xs true e = all_same xs
    go xs false e = none_same xs (sym e)

  -- so it need not be looked for
  pub cuts_if-same : (files : Bool) (links : List LinkChange) → files ≡ any_cut (taken m links) → first_of (cuts_if files m added gone lost) 0 links ≡ first_of (cuts m added gone lost) 0 links
  cuts_if-same files links e = first_of-same (cuts_if files m added gone lost) (cuts m added gone lost) 0 links (same_tests files links e)
