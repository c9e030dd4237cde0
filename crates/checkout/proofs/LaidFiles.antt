-- The files of a manifest over which changes were laid.
use Rattle.std.proofs.Common.{◌≡◌, ℕ, ◌==◌, true, false, cond, List, [], ◌∷◌, Option, Some, None, refl, sym, ap, ◌∙◌, arith, eq-eqb}
use Rattle.std.proofs.lemmas.Bool.Decides.{nat_tests}
use Rattle.std.proofs.lemmas.Map.Keys.{sorted_head, sorted_tail}
use Rattle.std.specs.Cmp.{nat_cmp_total, unsigned_ties}
use Rattle.std.specs.FinMap.{FinMap, empty, get, get-empty, insert, same_map, nat_cmp-IsAntisymmetric}
use Rattle.std.specs.List.{AllByRecursion}
use Rattle.std.specs.List.Sorted.{IsStrictlySortedBy}
use Rattle.std.specs.Option.{option_map, option_or}
use Rattle.std.specs.Ordering.{is_eq, nat_cmp}
use Rattle.std.specs.declared.cmp.Ordering.TheVariants.{Less}
use Rattle.checkout.specs.declared.changes.Made.{Made}
use Rattle.checkout.specs.declared.made.MadeFile.{MadeFile}
use Rattle.checkout.specs.Changed.{files_with}
use Rattle.checkout.specs.Changes.{file_ids}
use Rattle.checkout.specs.Laying.{file_kept, with_made}
use Rattle.manifest.specs.Manifest.{File}
use Rattle.checkout.specs.Overlay.{file_made, files_over}
use Rattle.checkout.proofs.ChangedFiles.{file_of_made, files_with-get, made_under}
use Rattle.manifest.proofs.MapLemmas.{get-insert_other, get-insert_same}
use Rattle.checkout.proofs.UnionLaws.{get-files_over}

other_id : (a b : ℕ) → nat_cmp a b ≡ Less → (b == a) ≡ false
other_id a b h =
    let differ : (a == b) ≡ false = unsigned_ties a b ∙ ap is_eq h in
    grind (arith, nat_tests)

none_under : (id : ℕ) (x : Made) (xs : List Made) → x.file.0 ≡ id → AllByRecursion (λ k. nat_cmp x.file.0 k ≡ Less) (file_ids xs) → made_under id xs ≡ None
none_under id x [] same up = refl
none_under id x (y ∷ ys) same up =
    let other : (y.file.0 == id) ≡ false = ap (λ n. y.file.0 == n) (sym same) ∙ other_id x.file.0 y.file.0 up.0 in
    ap (λ b. cond b (Some y) (made_under id ys)) other ∙ none_under id x ys same up.1

-- where ids rise, each is kept as it was made
pub with_made-get : (files : FinMap nat_cmp MadeFile) (xs : List Made) → IsStrictlySortedBy nat_cmp (file_ids xs) → (id : ℕ) → get (with_made files xs) id ≡ option_or (option_map file_kept (made_under id xs)) (get files id)
with_made-get files [] rise id = refl
with_made-get files (x ∷ xs) rise id =
    with_made-get (insert files x.file.0 (file_kept x)) xs (sorted_tail nat_cmp x.file.0 (file_ids xs) rise) id
    ∙ (elim (x.file.0 == id) as (λ b. (x.file.0 == id) ≡ b → option_or (option_map file_kept (made_under id xs)) (get (insert files x.file.0 (file_kept x)) id) ≡ option_or (option_map file_kept (cond b (Some x) (made_under id xs))) (get files id)) [
      | true ↦ λ e.
          let same : x.file.0 ≡ id = grind (arith, nat_tests) in
          ap (λ o. option_or (option_map file_kept o) (get (insert files x.file.0 (file_kept x)) id)) (none_under id x xs same (sorted_head nat_cmp x.file.0 (file_ids xs) rise))
          ∙ ap (get (insert files x.file.0 (file_kept x))) (sym same) ∙ get-insert_same nat_cmp_total files x.file.0 (file_kept x)
      | false ↦ λ e.
          ap (option_or (option_map file_kept (made_under id xs))) (get-insert_other nat_cmp_total nat_cmp-IsAntisymmetric files x.file.0 (file_kept x) id (λ same. let equal = eq-eqb x.file.0 id (sym same) in absurd (cc (equal, e))))
    ] refl)

module _ (xs : List Made) (rise : IsStrictlySortedBy nat_cmp (file_ids xs)) where
  abbrev kept : FinMap nat_cmp MadeFile
  kept = with_made empty xs

  pub get-kept : (id : ℕ) → get kept id ≡ option_map file_kept (made_under id xs)
  get-kept id = with_made-get empty xs rise id ∙ ap (option_or (option_map file_kept (made_under id xs))) (get-empty {X = MadeFile} nat_cmp id) ∙ or_none (option_map file_kept (made_under id xs))
    where
      or_none : (o : Option MadeFile) → option_or o None ≡ o
      or_none None = refl
      or_none (Some f) = refl

  -- the files are those with all that were made
  pub files_over-changed : (base : FinMap nat_cmp File) → files_over kept base ≡ files_with base xs
  files_over-changed base =
      same_map nat_cmp_total nat_cmp-IsAntisymmetric _ _ (λ id. get-files_over kept base id ∙ ap (λ o. option_or (option_map file_made o) (get base id)) (get-kept id) ∙ at (made_under id xs) id ∙ sym (files_with-get base xs id))
    where
      at : (o : Option Made) (id : ℕ) → option_or (option_map file_made (option_map file_kept o)) (get base id) ≡ option_or (option_map file_of_made o) (get base id)
      at None id = refl
      at (Some x) id = refl
