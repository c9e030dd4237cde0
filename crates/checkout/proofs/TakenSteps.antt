-- What is left once the link of one change went.
use Rattle.std.proofs.Common.{◌≡◌, ℕ, ◌==◌, ◌||◌, ◌++◌, true, false, List, [], ◌∷◌, map, Option, Some, None, IfSome, refl, sym, ap, ◌∙◌, arith}
use Rattle.std.proofs.lemmas.Bool.Decides.{nat_tests}
use Rattle.std.proofs.lemmas.List.{append-nil}
use Rattle.std.proofs.lemmas.List.Elements.{filter_map-append}
use Rattle.std.proofs.lemmas.Map.Keys.{IsDistinct-head, IsDistinct-tail}
use Rattle.std.specs.Cmp.{tied_itself}
use Rattle.std.specs.List.{AllByRecursion, cons_option, list_any}
use Rattle.std.specs.Option.{option_map}
use Rattle.std.specs.Ordering.{eq_by_cmp, is_eq}
use Rattle.eden_base.specs.declared.number.FileId.{FileId}
use Rattle.manifest.specs.declared.link_change.LinkChange.{LinkChange}
use Rattle.checkout.specs.Changes.{place_of}
use Rattle.checkout.specs.UnlinkedFiles.{UnlinkedFiles, is_gone}
use Rattle.checkout.specs.Laying.{IsLeft, StandApart, base_target, taken}
use Rattle.manifest.specs.Manifest.{Manifest, IsManifest}
use Rattle.manifest.specs.Tree.{link_cmp}
use Rattle.manifest.proofs.FlatLemmas.{link_cmp_total}
use Rattle.checkout.proofs.UnlinkedLemmas.{is_gone-added}
use Rattle.manifest.proofs.ListLemmas.{listed_more}
use Rattle.checkout.proofs.TakenLaws.{one_place}

-- two places that are told apart
pub not_one : (a b : ℕ × List ℕ) → eq_by_cmp link_cmp a b ≡ false → a ≡ b → ⊥
not_one a b e same = let yes = ap (λ x. eq_by_cmp link_cmp x b) same ∙ ap is_eq (tied_itself link_cmp_total b) in cc (yes, e)

module _ (m : Manifest) (is : IsManifest m) (gone gone' : UnlinkedFiles) (change : LinkChange) (went : gone'.files ≡ gone.files ++ taken m (change ∷ [])) where
  -- what stands elsewhere is left still
  left_still : (d : LinkChange) → IsLeft m gone d → eq_by_cmp link_cmp (place_of change) (place_of d) ≡ false → IsLeft m gone' d
  left_still d h apart =
      elim (base_target m d) as (λ o. base_target m d ≡ o → IfSome o (λ file. is_gone gone file.0 ≡ false) → IfSome o (λ file. is_gone gone' file.0 ≡ false)) [
        | None ↦ λ e k. tt
        | Some g ↦ λ e k. elim (base_target m change) as (λ o. base_target m change ≡ o → is_gone gone' g.0 ≡ false) [
          | None ↦ λ b. ap (λ fs. list_any (λ f. g.0 == f) fs) (went ∙ ap (λ (o : Option FileId). gone.files ++ cons_option (option_map (λ (file : FileId). file.0) o) []) b ∙ append-nil gone.files) ∙ k
          | Some f ↦ λ b.
              let one = is_gone-added gone gone' f.0 (went ∙ ap (λ (o : Option FileId). gone.files ++ cons_option (option_map (λ (file : FileId). file.0) o) []) b) g.0 in
              one ∙ ap (λ b. (g.0 == f.0) || b) k ∙ (elim (g.0 == f.0) as (λ b. (g.0 == f.0) ≡ b → (b || false) ≡ false) [
                | false ↦ λ _. refl
                | true ↦ λ t. let id : g.0 ≡ f.0 = grind (arith, nat_tests) in absurd (not_one (place_of change) (place_of d) apart (one_place m is (place_of change) (place_of d) f g b e (sym id)))
              ] refl)
        ] refl
      ] refl h

  all_left : (ds : List LinkChange) → AllByRecursion (IsLeft m gone) ds → AllByRecursion (λ y. eq_by_cmp link_cmp (place_of change) y ≡ false) (map place_of ds) → AllByRecursion (IsLeft m gone') ds
  all_left [] h apart = tt
  all_left (d ∷ ds) h apart = (left_still d h.0 apart.0, all_left ds h.1 apart.1)

  -- what the loop keeps
  pub record IsKept (rest all : List LinkChange) : Type 0 where
    pub files : gone'.files ++ taken m rest ≡ taken m all
    pub left : AllByRecursion (IsLeft m gone') rest
    pub apart : StandApart rest

  pub take-kept : (rest all : List LinkChange) → gone.files ++ taken m (change ∷ rest) ≡ taken m all → AllByRecursion (IsLeft m gone) (change ∷ rest) → StandApart (change ∷ rest) → IsKept rest all
  take-kept rest all so_far left apart = record {
    files = listed_more gone.files gone'.files (taken m (change ∷ [])) (taken m rest) (taken m all) (ap (λ xs. gone.files ++ xs) (sym (filter_map-append (λ c. option_map (λ (file : FileId). file.0) (base_target m c)) (change ∷ []) rest)) ∙ so_far) went;
    left = all_left rest left.1 (IsDistinct-head (eq_by_cmp link_cmp) (place_of change) (map place_of rest) apart);
    apart = IsDistinct-tail (eq_by_cmp link_cmp) (place_of change) (map place_of rest) apart;
  }

-- at first nothing is gone
pub all_left_first : (m : Manifest) (gone : UnlinkedFiles) → ((q : ℕ) → is_gone gone q ≡ false) → (links : List LinkChange) → AllByRecursion (IsLeft m gone) links
all_left_first m gone none [] = tt
all_left_first m gone none (c ∷ cs) = (here (base_target m c), all_left_first m gone none cs)
  where
    here : (o : Option FileId) → IfSome o (λ file. is_gone gone file.0 ≡ false)
    here None = tt
    here (Some file) = none file.0
