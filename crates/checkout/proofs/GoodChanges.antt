-- What tells a tree from its manifest's has nothing bad in it: the last two rounds.
use Rattle.std.proofs.Common.{◌≡◌, ◌==◌, ◌&&◌, ◌||◌, ℕ, Bool, true, false, not, cond, List, [], ◌∷◌, Some, refl, sym, ap, ◌∙◌, arith, eq-eqb}
use Rattle.std.proofs.lemmas.Bool.Decides.{nat_tests}
use Rattle.std.proofs.Math.Bool.{and-false}
use Rattle.std.specs.Cmp.{tied_itself}
use Rattle.std.specs.List.{find}
use Rattle.std.specs.Option.{option_map}
use Rattle.std.specs.Ordering.{is_eq}
use Rattle.eden_base.specs.declared.number.FileId.{FileId}
use Rattle.checkout.specs.declared.changes.Changes.{Changes}
use Rattle.manifest.specs.declared.link_change.LinkChange.{LinkChange}
use Rattle.checkout.specs.BadChanges.{Link, changed_links, file_in, has_names, is_at, is_cut_off, is_given, IsAboveItself}
use Rattle.checkout.specs.Changes.{AreChanges, IsLinkChange}
use Rattle.manifest.specs.Tree.{Tree, IsTree}
use Rattle.checkout.proofs.ChangedLinks.{any_link, changed_links-get, file_below-is}
use Rattle.checkout.proofs.CircleLaws.{dir_is_linked, not_above_itself}
use Rattle.manifest.proofs.FlatLemmas.{link_cmp_total}
use Rattle.checkout.proofs.LinkLaws.{child_from_linked}

-- a name that stands in a directory is found
name_found : (links : List Link) (dir : FileId) → has_names links dir ≡ true → (name : List ℕ) × (file : FileId) × (file_in links (dir.0, name) ≡ Some file)
name_found [] dir h = absurd (cc)
name_found (x ∷ xs) dir h =
    elim (x.0.0 == dir.0) as (λ b. (x.0.0 == dir.0) ≡ b → (b || has_names xs dir) ≡ true → (name : List ℕ) × (file : FileId) × (file_in (x ∷ xs) (dir.0, name) ≡ Some file)) [
      | true ↦ λ e _.
          let same : x.0.0 ≡ dir.0 = grind (arith, nat_tests) in
          let at : is_at (dir.0, x.0.1) x.0 ≡ true = ap (λ (d : ℕ). is_at (d, x.0.1) x.0) (sym same) ∙ ap is_eq (tied_itself link_cmp_total x.0) in
          (x.0.1, x.1, ap (λ (d : Bool). option_map (λ (link : Link). link.1) (cond d (Some x) (find (λ (link : Link). is_at (dir.0, x.0.1) link.0) xs))) at)
      | false ↦ λ e g.
          let r = name_found xs dir g in
          elim (is_at (dir.0, r.0) x.0) as (λ b. is_at (dir.0, r.0) x.0 ≡ b → (name : List ℕ) × (file : FileId) × (file_in (x ∷ xs) (dir.0, name) ≡ Some file)) [
            | true ↦ λ k. (r.0, x.1, ap (λ (d : Bool). option_map (λ (link : Link). link.1) (cond d (Some x) (find (λ (link : Link). is_at (dir.0, r.0) link.0) xs))) k)
            | false ↦ λ k. (r.0, r.1, ap (λ (d : Bool). option_map (λ (link : Link). link.1) (cond d (Some x) (find (λ (link : Link). is_at (dir.0, r.0) link.0) xs))) k ∙ r.2)
          ] refl
    ] refl h

-- what stands somewhere is given
given_found : (links : List Link) (place : ℕ × List ℕ) (file : FileId) → file_in links place ≡ Some file → is_given links file ≡ true
given_found links place file h = any_link (λ (link : Link). link.1.0 == file.0) links place file (eq-eqb file.0 file.0 refl) h

module _ (t : Tree) (c : Changes) (is : IsTree t) (has : AreChanges t c) where
  abbrev links : List Link
  links = changed_links t.manifest c

  -- the third round finds nothing
  pub none_is_above : (change : LinkChange) → IsLinkChange t change → IsAboveItself links change → ⊥
  none_is_above change told above =
      not_above_itself t is change.dir change.name above.0 above.1 (sym told.target ∙ above.2) (sym (file_below-is t c has.links above.0 above.1) ∙ above.3)

  -- nor does the fourth
  pub none_cut_off : (dir : FileId) → is_cut_off links dir ≡ false
  none_cut_off dir =
      elim (dir.0 == 1) as (λ b. (dir.0 == 1) ≡ b → (not b && not (is_given links dir) && has_names links dir) ≡ false) [
        | true ↦ λ _. refl
        | false ↦ λ e. elim (has_names links dir) as (λ b. has_names links dir ≡ b → (not (is_given links dir) && b) ≡ false) [
          | false ↦ λ _. and-false (not (is_given links dir))
          | true ↦ λ g.
              let r = name_found links dir g in
              let link = sym (changed_links-get t c has.links (dir.0, r.0)) ∙ r.2 in
              let at = child_from_linked t dir (dir_is_linked t is dir r.0 r.1 link e) in
              let given = given_found links (at.0.0, at.1) dir (changed_links-get t c has.links (at.0.0, at.1) ∙ at.2) in
              ap (λ b. not b && true) given
        ] refl
      ] refl
