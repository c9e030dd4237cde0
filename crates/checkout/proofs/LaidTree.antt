-- The tree of a manifest over which changes were laid.
use Rattle.std.proofs.Common.{◌≡◌, ℕ, ◌+◌, ◌==◌, ◌≤◌, true, false, cond, List, [], ◌∷◌, length, map, Option, Some, None, IsSome, IfSome, refl, sym, ap, ◌∙◌, arith}
use Rattle.std.proofs.lemmas.Map.Keys.{IsDistinct-from_sorted, IsDistinct-head, IsDistinct-tail}
use Rattle.std.specs.FinMap.{FinMap, empty, get, get-empty}
use Rattle.std.specs.List.{AllByRecursion, list_any}
use Rattle.std.specs.List.Sorted.{IsStrictlySortedBy}
use Rattle.std.specs.Option.{option_map, option_or}
use Rattle.std.specs.Ordering.{eq_by_cmp, nat_cmp}
use Rattle.eden_base.proofs.MemberLemmas.{some-is}
use Rattle.eden_base.specs.declared.number.FileId.{FileId}
use Rattle.checkout.specs.declared.changes.Changes.{Changes}
use Rattle.manifest.specs.declared.link_change.LinkChange.{LinkChange}
use Rattle.checkout.specs.declared.made.MadeFile.{MadeFile}
use Rattle.checkout.specs.Added.{gives}
use Rattle.checkout.specs.BadChanges.{bad_by_other, bad_itself, first_link, is_at}
use Rattle.checkout.specs.Changed.{changed, links_with}
use Rattle.checkout.specs.Changes.{file_ids, place_of}
use Rattle.checkout.specs.UnlinkedFiles.{UnlinkedFiles, is_gone}
use Rattle.checkout.specs.Laying.{AreTaken, CanAdd, StandApart, add, file_kept, taken, with_added, with_made}
use Rattle.manifest.specs.Manifest.{Manifest, IsManifest}
use Rattle.checkout.specs.Overlay.{tree_over, AreParts}
use Rattle.manifest.specs.Tally.{Tally, count_of}
use Rattle.manifest.specs.Tree.{files_from, link_cmp, links_from}
use Rattle.checkout.proofs.ChangedAround.{changed_apart}
use Rattle.checkout.proofs.ChangedFiles.{found_made, made_is_good, made_under}
use Rattle.checkout.proofs.ChangedMaps.{each_stands}
use Rattle.checkout.proofs.FirstBadLaws.{good_itself, ids_rise, places_rise}
use Rattle.manifest.proofs.FlatLemmas.{link_cmp-same}
use Rattle.checkout.proofs.LaidFiles.{files_over-changed, get-kept}
use Rattle.checkout.proofs.LaidLinks.{change_at, get-add, get-added, given_else, links_over-changed, nothing_still}
use Rattle.checkout.proofs.LinkLaws.{link_from_given}
use Rattle.manifest.proofs.MapLemmas.{tied_key}
use Rattle.checkout.proofs.TakenSteps.{not_one}

-- links that can be added to some of a map's links, in which each file stands once
module _ (all : FinMap link_cmp FileId) (once : (p q : ℕ × List ℕ) (file : FileId) → get all p ≡ Some file → get all q ≡ Some file → p ≡ q) where
  abbrev AreAmong : FinMap link_cmp FileId → Type 0
  AreAmong links = (p : ℕ × List ℕ) (file : FileId) → get links p ≡ Some file → get all p ≡ Some file

  abbrev AreFree : FinMap link_cmp FileId → List LinkChange → Type 0
  AreFree links cs = AllByRecursion (λ c. get links (place_of c) ≡ None) cs

  among-add : (links : FinMap link_cmp FileId) (c : LinkChange) → AreAmong links → c.target ≡ get all (place_of c) → AreAmong (add links (place_of c) c.target)
  among-add links c among stands p file h =
      elim (is_at p (place_of c)) as (λ b. is_at p (place_of c) ≡ b → cond b (option_or c.target (get links p)) (get links p) ≡ Some file → get all p ≡ Some file) [
        | false ↦ λ e g. among p file g
        | true ↦ λ e g. elim c.target as (λ o. c.target ≡ o → option_or o (get links p) ≡ Some file → get all p ≡ Some file) [
          | None ↦ λ _ k. among p file k
          | Some f ↦ λ t k. ap (get all) (tied_key link_cmp-same p (place_of c) e) ∙ sym stands ∙ t ∙ k
        ] refl g
      ] refl (sym (get-add links (place_of c) c.target p) ∙ h)

  free-add : (links : FinMap link_cmp FileId) (c : LinkChange) (cs : List LinkChange) → AreFree links cs → AllByRecursion (λ y. eq_by_cmp link_cmp (place_of c) y ≡ false) (map place_of cs) → AreFree (add links (place_of c) c.target) cs
  free-add links c [] free apart = tt
  free-add links c (d ∷ ds) free apart =
      let other : is_at (place_of d) (place_of c) ≡ false = elim (is_at (place_of d) (place_of c)) as (λ b. is_at (place_of d) (place_of c) ≡ b → b ≡ false) [
        | false ↦ λ _. refl
        | true ↦ λ e. absurd (not_one (place_of c) (place_of d) apart.0 (sym (tied_key link_cmp-same (place_of d) (place_of c) e)))
      ] refl in
      (get-add links (place_of c) c.target (place_of d) ∙ ap (λ b. cond b (option_or c.target (get links (place_of d))) (get links (place_of d))) other ∙ free.0, free-add links c ds free.1 apart.1)

  gives_nothing : (links : FinMap link_cmp FileId) (c : LinkChange) (file : FileId) → AreAmong links → get links (place_of c) ≡ None → get all (place_of c) ≡ Some file → gives links file ≡ false
  gives_nothing links c file among free there =
      elim (gives links file) as (λ b. gives links file ≡ b → b ≡ false) [
        | false ↦ λ _. refl
        | true ↦ λ e.
            let at = link_from_given links file e in
            let same = once (at.0.0, at.1) (place_of c) file (among (at.0.0, at.1) file at.2) there in
            let here = sym (ap (get links) same) ∙ at.2 in
            absurd (cc (here, free))
      ] refl

  pub can_add : (links : FinMap link_cmp FileId) (cs : List LinkChange) → AreAmong links → AreFree links cs → StandApart cs → AllByRecursion (λ c. c.target ≡ get all (place_of c)) cs → CanAdd links cs
  can_add links [] among free apart stand = tt
  can_add links (c ∷ cs) among free apart stand = (
    first c.target refl,
    can_add (add links (place_of c) c.target) cs (among-add links c among stand.0) (free-add links c cs free.1 (IsDistinct-head (eq_by_cmp link_cmp) (place_of c) (map place_of cs) apart)) (IsDistinct-tail (eq_by_cmp link_cmp) (place_of c) (map place_of cs) apart) stand.1,
  )
    where
      first : (o : Option FileId) → c.target ≡ o → IfSome o (λ file. (get links (place_of c) ≡ None) × (gives links file ≡ false))
      first None e = tt
      first (Some file) e = (free.0, gives_nothing links c file among free.0 (sym stand.0 ∙ e))

module _ (m : Manifest) (c : Changes) (is : IsManifest m) (itself : bad_itself m c ≡ None) where
  pub stand_apart : StandApart c.links
  stand_apart = IsDistinct-from_sorted link_cmp (map place_of c.links) (places_rise m c.made (first_link c) c.links (good_itself m c itself).links)

  -- after the second round the links of all changes can be added
  pub can_be_added : bad_by_other m c ≡ None → CanAdd empty c.links
  can_be_added by_other =
      let all = links_with (links_from 2 m.lines) c.links in
      can_add all (changed_apart m c is itself by_other).apart empty c.links
      (λ p file h. let e = get-empty {X = FileId} link_cmp p in absurd (cc (e, h)))
      (all_free c.links) stand_apart
      (each_stands (links_from 2 m.lines) c.links (places_rise m c.made (first_link c) c.links (good_itself m c itself).links))
    where
      all_free : (cs : List LinkChange) → AllByRecursion (λ x. get (empty {X = FileId} {R = link_cmp}) (place_of x) ≡ None) cs
      all_free [] = tt
      all_free (x ∷ xs) = (get-empty {X = FileId} link_cmp (place_of x), all_free xs)

  module _ (gone : UnlinkedFiles) (lost : Tally) (went : gone.files ≡ taken m c.links) (so_far : AreTaken m gone lost) where
    abbrev made : FinMap nat_cmp MadeFile
    made = with_made empty c.made

    abbrev added : FinMap link_cmp FileId
    added = with_added empty c.links

    is_taken : (q : ℕ) → is_gone gone q ≡ list_any (λ f. q == f) (taken m c.links)
    is_taken q = ap (list_any (λ f. q == f)) went

    ids : IsStrictlySortedBy nat_cmp (file_ids c.made)
    ids = ids_rise m c.next_file 1 c.made (good_itself m c itself).made

    -- what was laid over the manifest is the tree with all changes made
    pub laid-changed : tree_over m made added (is_gone gone) c.next_file.0 ≡ changed m c
    laid-changed =
        let files = files_over-changed c.made ids (files_from 2 m.lines) in
        let links = links_over-changed m is c.links stand_apart (is_gone gone) is_taken in
        λ i. record { manifest = m; files = files i; links = links i; next_file = c.next_file.0 }

    -- the change that added a link
    change_of : (place : ℕ × List ℕ) (file : FileId) → get added place ≡ Some file → (x : LinkChange) × (change_at place c.links ≡ Some x) × (x.target ≡ Some file)
    change_of place file h =
        elim (change_at place c.links) as (λ o. change_at place c.links ≡ o → given_else None o ≡ Some file → (x : LinkChange) × (change_at place c.links ≡ Some x) × (x.target ≡ Some file)) [
          | None ↦ λ e g. absurd (cc)
          | Some x ↦ λ e g. (x, e, some_or x.target g)
        ] refl (sym (get-added m is c.links stand_apart (is_gone gone) is_taken place) ∙ h)
      where
        some_or : (o : Option FileId) → option_or o None ≡ Some file → o ≡ Some file
        some_or None g = absurd (cc)
        some_or (Some f) g = g

    pub laid-AreParts : AreParts m made added (is_gone gone) (count_of lost)
    laid-AreParts = record {
      is_manifest = is;
      made_are_later = λ id h. later id h;
      added_are_apart = λ dir name h.
          let file = some-is _ h in
          let w = change_of (dir, name) file.0 file.1 in
          nothing_still m is c.links stand_apart (is_gone gone) is_taken (dir, name) w.0 w.1;
      gone_are_lines = so_far.are_lines;
      lost_are_counted = so_far.counted;
    }
      where
        later : (id : ℕ) → IsSome (get made id) → length m.lines + 2 ≤ id
        later id h =
            let f = some-is _ h in
            elim (made_under id c.made) as (λ o. made_under id c.made ≡ o → option_map file_kept o ≡ Some f.0 → length m.lines + 2 ≤ id) [
              | None ↦ λ e g. absurd (cc)
              | Some x ↦ λ e g.
                  let r = found_made c.made id x e in
                  let good = (made_is_good m c (good_itself m c itself).made x r.0).later in
                  omega (arith, good, r.1)
            ] refl (sym (get-kept c.made ids id) ∙ f.1)
