-- The order of links, and what is found among them.
use Rattle.std.proofs.Common.{◌≡◌, ◌==◌, arith, eq-eqb, ℕ, true, false, cond, List, [], ◌∷◌, ◌++◌, Option, Some, None, refl, ap, ◌∙◌}
use Rattle.std.specs.Ordering.{nat_cmp, is_eq, ordering_then}
use Rattle.std.specs.declared.cmp.Ordering.{Ordering}
use Rattle.std.specs.declared.cmp.Ordering.TheVariants.{Less, Equal, Greater}
use Rattle.std.specs.Cmp.{IsTotalOrder, nat_cmp_total, on_total, then_total}
use Rattle.std.specs.Cmp.Lexicographic.{slice_cmp, nat_list_cmp_total}
use Rattle.std.specs.FinMap.{FinMap, entries, get, find, IsAntisymmetric, nat_cmp-IsAntisymmetric, slice_cmp-IsAntisymmetric}
use Rattle.std.specs.Option.{option_or}
use Rattle.eden_base.specs.declared.number.FileId.{FileId}
use Rattle.std.specs.List.{list_any}
use Rattle.std.proofs.lemmas.Bool.Decides.{nat_tests}
use Rattle.manifest.proofs.MapLemmas.{any_key-entries, key_from_any}
use Rattle.manifest.specs.Tree.{link_cmp}

-- names, by their bytes
abbrev pub name_cmp : List ℕ → List ℕ → Ordering
name_cmp = slice_cmp nat_cmp

pub name_cmp-same : IsAntisymmetric name_cmp
name_cmp-same = slice_cmp-IsAntisymmetric nat_cmp-IsAntisymmetric

pub link_cmp_total : IsTotalOrder link_cmp
link_cmp_total = then_total (on_total (λ (k : ℕ × List ℕ). k.0) nat_cmp_total) (on_total (λ (k : ℕ × List ℕ). k.1) nat_list_cmp_total)

-- a lookup in two lists is one in the second where the first has nothing
pub find-append : {K X : Type 0} (R : K → K → Ordering) (q : K) (es fs : List (K × X)) → find R q (es ++ fs) ≡ option_or (find R q es) (find R q fs)
find-append R q [] fs = refl
find-append {X = X} R q (e ∷ es) fs =
    let rest = find-append R q es fs in
    elim (is_eq (R q e.0)) as (λ b. ◌≡◌ {A = Option X} (cond b (Some e.1) (find R q (es ++ fs))) (option_or (cond b (Some e.1) (find R q es)) (find R q fs))) [ true ↦ refl | false ↦ rest ]

pub link_cmp-same : IsAntisymmetric link_cmp
link_cmp-same x y e =
    elim (nat_cmp x.0 y.0) as (λ o. nat_cmp x.0 y.0 ≡ o → ordering_then o (name_cmp x.1 y.1) ≡ Equal → x ≡ y) [
      | Less ↦ λ _ h. cc
      | Equal ↦ λ k h. λ i. (nat_cmp-IsAntisymmetric x.0 y.0 k i, name_cmp-same x.1 y.1 h i)
      | Greater ↦ λ _ h. cc
    ] refl e

-- a link in a directory is among all links, and only it shows that there is one
pub has_link : (m : FinMap link_cmp FileId) (dir : ℕ) (name : List ℕ) (file : FileId) → get m (dir, name) ≡ Some file → list_any (λ (link : (ℕ × List ℕ) × FileId). link.0.0 == dir) (entries m) ≡ true
has_link m dir name file h = any_key-entries link_cmp-same (λ k. k.0 == dir) m (dir, name) file h (eq-eqb dir dir refl)

pub has_no_link : (m : FinMap link_cmp FileId) (dir : ℕ) → ((name : List ℕ) → get m (dir, name) ≡ None) → list_any (λ (link : (ℕ × List ℕ) × FileId). link.0.0 == dir) (entries m) ≡ false
has_no_link m dir none =
    elim (list_any (λ (link : (ℕ × List ℕ) × FileId). link.0.0 == dir) (entries m)) as (λ b. list_any (λ (link : (ℕ × List ℕ) × FileId). link.0.0 == dir) (entries m) ≡ b → b ≡ false) [
      | true ↦ λ e.
          let r = key_from_any link_cmp_total (λ k. k.0 == dir) m e in
          let same : r.0.0 ≡ dir = grind (arith, nat_tests) in
          let gone = ap (λ (d : ℕ). get m (d, r.0.1)) same ∙ none r.0.1 in
          absurd (cc (r.2, gone))
      | false ↦ λ e. refl
    ] refl
