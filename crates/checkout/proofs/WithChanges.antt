-- The tree that is made of a manifest with changes, and the first bad change that refuses it.
use Rattle.std.proofs.Common.{◌≡◌, ◌+◌, ◌<◌, ◌==◌, ◌||◌, ℕ, Bool, true, false, cond, List, [], ◌∷◌, length, Option, Some, None, refl, sym, ap, subst, ◌∙◌, inl, inr, arith}
use Rattle.std.proofs.lemmas.Option.{slice_get_within}
use Rattle.std.specs.FinMap.{FinMap, empty}
use Rattle.std.specs.List.{AllByRecursion, list_any}
use Rattle.std.specs.Option.{option_map}
use Rattle.std.specs.Ordering.{nat_cmp}
use Rattle.eden_base.specs.Name.{IsNameText}
use Rattle.eden_base.specs.declared.number.FileId.{FileId}
use Rattle.checkout.specs.declared.changes.Changes.{Changes}
use Rattle.manifest.specs.declared.link_change.LinkChange.{LinkChange}
use Rattle.checkout.specs.declared.made.MadeFile.{MadeFile}
use Rattle.checkout.specs.BadChanges.{Else, bad_by_other, bad_itself, changed_links, file_does, first_link, first_link_where, is_cut_off, manifest_target, IsBadAround, IsBadChange}
use Rattle.checkout.specs.Changed.{changed}
use Rattle.checkout.specs.UnlinkedFiles.{UnlinkedFiles, is_gone}
use Rattle.checkout.specs.Laying.{taken, with_made}
use Rattle.manifest.specs.Manifest.{IsManifest, Manifest}
use Rattle.checkout.specs.Overlay.{IsOverlay, tree_over}
use Rattle.checkout.specs.Rounds.{AreLaid, first_of, is_given_twice, marked}
use Rattle.manifest.specs.Tally.{Tally, count_of}
use Rattle.manifest.specs.Tree.{IsTree, link_cmp}
use Rattle.checkout.proofs.AmongLinks.{first_where-is}
use Rattle.checkout.proofs.ChangedIsTree.{changed_is_tree}
use Rattle.checkout.proofs.RoundTwo.{twice-found}
use Rattle.checkout.proofs.RoundsAround.{is_changed, parts}

-- the first index is within the list
pub first_of-within : (test : LinkChange → Bool) (i : ℕ) (xs : List LinkChange) (index : ℕ) → first_of test i xs ≡ Some index → index < i + length xs
first_of-within test i [] index h = absurd (cc)
first_of-within test i (x ∷ xs) index h =
    elim (test x) as (λ b. cond b (Some i) (first_of test (i + 1) xs) ≡ Some index → index < i + length (x ∷ xs)) [
      | true ↦ λ g. let same : i ≡ index = cc in omega (arith, same)
      | false ↦ λ g. let rest = first_of-within test (i + 1) xs index g in omega (arith, rest)
    ] h

-- so is that of the first link of which a test holds
where-within : (test : LinkChange → Bool) (c : Changes) (index : ℕ) → Some (first_link c + index) ≡ first_link_where test c → index < length c.links
where-within test c index h =
    elim (first_of test 0 c.links) as (λ o. first_of test 0 c.links ≡ o → Some (first_link c + index) ≡ option_map (λ i. first_link c + i) o → index < length c.links) [
      | None ↦ λ e g. absurd (cc)
      | Some i ↦ λ e g.
          let same : first_link c + index ≡ first_link c + i = cc in
          let within = first_of-within test 0 c.links i e in
          omega (arith, same, within)
    ] refl (h ∙ first_where-is test c)

pub around-within : (m : Manifest) (c : Changes) (index : ℕ) → IsBadAround m c (Some (first_link c + index)) → index < length c.links
around-within m c index (inl w) =
    let at = w.2 in
    let same : first_link c + index ≡ first_link c + w.0 = cc in
    let within = slice_get_within c.links w.0 w.1 w.3 in
    omega (arith, same, within)
around-within m c index (inr w) =
    let cut = is_cut_off (changed_links m c) in
    where-within (λ change. cut change.dir || file_does cut (manifest_target m change)) c index w.0

-- what a later round finds is the first bad change
pub later_round : (earlier : Option ℕ) (Later : Option ℕ → Type 0) (bad : Option ℕ) → earlier ≡ None → Later bad → Else earlier Later bad
later_round (Some place) Later bad none h = absurd (cc)
later_round None Later bad none h = h

pub this_round : (found : Option ℕ) (Later : Option ℕ → Type 0) (place : ℕ) → found ≡ Some place → Else found Later (Some place)
this_round None Later place h = absurd (cc)
this_round (Some other) Later place h = sym h

pub bad_by_second : (m : Manifest) (c : Changes) (place : ℕ) → bad_itself m c ≡ None → bad_by_other m c ≡ Some place → IsBadChange m c (Some place)
bad_by_second m c place itself e = later_round (bad_itself m c) (Else (bad_by_other m c) (IsBadAround m c)) (Some place) itself (this_round (bad_by_other m c) (IsBadAround m c) place e)

-- what the second round finds, in the words of the calls that made it
module _ (m : Manifest) (c : Changes) (is : IsManifest m) (itself : bad_itself m c ≡ None) (gone : UnlinkedFiles) (went : gone.files ≡ taken m c.links)
    (links : List LinkChange) (all : links ≡ c.links)
    (found : Option ℕ) (looked : found ≡ first_of (is_given_twice m (is_gone gone) (λ file. marked file None links)) 0 links) where
  pub second_round : option_map (λ i. first_link c + i) found ≡ bad_by_other m c
  second_round =
      twice-found m c is itself (is_gone gone) (λ q. ap (list_any (λ f. q == f)) went) found
      (looked ∙ ap (λ xs. first_of (is_given_twice m (is_gone gone) (λ file. marked file None xs)) 0 xs) all)

module _ (m : Manifest) (c : Changes) (added : FinMap link_cmp FileId) (gone : UnlinkedFiles) (lost : Tally) (laid : AreLaid m c added gone lost) where
  pub bad_by_last : (bad : Option ℕ) → IsBadAround m c bad → IsBadChange m c bad
  bad_by_last bad h =
      later_round (bad_itself m c) (Else (bad_by_other m c) (IsBadAround m c)) bad laid.itself (later_round (bad_by_other m c) (IsBadAround m c) bad laid.by_other h)

  module _ (made : FinMap nat_cmp MadeFile) (all_made : made ≡ with_made empty c.made) where
    pub is_changed_tree : tree_over m made added (is_gone gone) c.next_file.0 ≡ changed m c
    is_changed_tree = ap (λ x. tree_over m x added (is_gone gone) c.next_file.0) all_made ∙ is_changed m c added gone lost laid

    pub is_overlay : AllByRecursion (λ link. IsNameText link.name) c.links → IsBadAround m c None → IsOverlay m made added (is_gone gone) (count_of lost) c.next_file.0
    is_overlay names none =
        subst (λ x. IsOverlay m x added (is_gone gone) (count_of lost) c.next_file.0) (sym all_made) (record {
          parts = parts m c added gone lost laid;
          is_tree = subst IsTree (sym (is_changed m c added gone lost laid)) (changed_is_tree m c laid.is_manifest names (bad_by_last None none));
        })
