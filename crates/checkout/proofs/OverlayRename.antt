-- A file that moves in a tree laid over a manifest's.
use Rattle.std.proofs.Common.{◌≡◌, ℕ, ◌==◌, ◌||◌, Bool, true, false, cond, if◌then◌else◌, List, Option, Some, None, refl, sym, ap, subst, ◌∙◌, inl, inr, arith, eq-eqb}
use Rattle.std.proofs.lemmas.Bool.Decides.{nat_tests}
use Rattle.std.proofs.Math.Bool.{or-true}
use Rattle.std.specs.Option.{option_or}
use Rattle.std.specs.Ordering.{nat_cmp, eq_by_cmp}
use Rattle.std.specs.FinMap.{FinMap, get, get-insert, get-remove, insert, remove, same_map}
use Rattle.eden_base.proofs.MemberLemmas.{some-IsSome, some-is}
use Rattle.eden_base.specs.declared.number.FileId.{FileId}
use Rattle.checkout.specs.declared.made.MadeFile.{MadeFile}
use Rattle.checkout.specs.BadChanges.{file_does}
use Rattle.checkout.specs.Overlay.{still, files_over, links_over, tree_over, is_line, lost_in, IsOverlay}
use Rattle.checkout.specs.RenamedTree.{renamed}
use Rattle.manifest.specs.Manifest.{Manifest}
use Rattle.manifest.specs.Tree.{Tree, link_cmp, child_of, files_from, links_from, IsTree}
use Rattle.manifest.proofs.FlatLemmas.{link_cmp_total, link_cmp-same}
use Rattle.manifest.proofs.MapLemmas.{get-insert_cases, get-remove_cases, tied_key}
use Rattle.checkout.proofs.RenameLaws.{links-renamed}
use Rattle.checkout.proofs.TakenLaws.{one_place}
use Rattle.checkout.proofs.TakenSteps.{not_one}
use Rattle.checkout.proofs.UnionLaws.{get-links_over}

-- the manifest's file at a place is this one
abbrev pub is_file : FinMap link_cmp FileId → ℕ × List ℕ → ℕ → Bool
is_file base place q = file_does (λ file. q == file.0) (get base place)

module _ (m : Manifest) (made : FinMap nat_cmp MadeFile) (added : FinMap link_cmp FileId) (gone : ℕ → Bool) (lost : ℕ → ℕ) (next : ℕ) (is : IsOverlay m made added gone lost next)
    (dir : FileId) (name : List ℕ) (to_dir : FileId) (to_name : List ℕ) (file : FileId) where
  abbrev tree : Tree
  tree = tree_over m made added gone next

  abbrev base : FinMap link_cmp FileId
  base = links_from 2 m.lines

  abbrev from : ℕ × List ℕ
  from = (dir.0, name)

  abbrev to : ℕ × List ℕ
  to = (to_dir.0, to_name)

  abbrev added' : FinMap link_cmp FileId
  added' = insert (remove added from) to file

  module _ (there : child_of tree dir name ≡ Some file) (gone' : ℕ → Bool) (goes : (q : ℕ) → gone' q ≡ (is_file base to q || (is_file base from q || gone q))) where
    -- what the manifest has at both places is gone
    gone_there : still gone' (get base to) ≡ None
    gone_there =
        elim (get base to) as (λ o. get base to ≡ o → still gone' o ≡ None) [
          | None ↦ λ _. refl
          | Some g ↦ λ e.
              let it : is_file base to g.0 ≡ true = ap (file_does (λ file. g.0 == file.0)) e ∙ eq-eqb g.0 g.0 refl in
              ap (λ b. if b then None else Some g) (goes g.0 ∙ ap (λ b. b || (is_file base from g.0 || gone g.0)) it)
        ] refl

    gone_here : still gone' (get base from) ≡ None
    gone_here =
        elim (get base from) as (λ o. get base from ≡ o → still gone' o ≡ None) [
          | None ↦ λ _. refl
          | Some g ↦ λ e.
              let it : is_file base from g.0 ≡ true = ap (file_does (λ file. g.0 == file.0)) e ∙ eq-eqb g.0 g.0 refl in
              ap (λ b. if b then None else Some g) (goes g.0 ∙ ap (λ b. is_file base to g.0 || (b || gone g.0)) it ∙ or-true (is_file base to g.0))
        ] refl

    -- another place has another file
    other_file : (q place : ℕ × List ℕ) (g : FileId) → get base q ≡ Some g → (q ≡ place → ⊥) → is_file base place g.0 ≡ false
    other_file q place g h other =
        elim (get base place) as (λ o. get base place ≡ o → file_does (λ file. g.0 == file.0) o ≡ false) [
          | None ↦ λ _. refl
          | Some f ↦ λ e. elim (g.0 == f.0) as (λ b. (g.0 == f.0) ≡ b → b ≡ false) [
            | false ↦ λ _. refl
            | true ↦ λ t. let id : g.0 ≡ f.0 = grind (arith, nat_tests) in absurd (other (one_place m is.parts.is_manifest q place g f h e id))
          ] refl
        ] refl

    stays_elsewhere : (q : ℕ × List ℕ) → (q ≡ from → ⊥) → (q ≡ to → ⊥) → still gone' (get base q) ≡ still gone (get base q)
    stays_elsewhere q other too =
        elim (get base q) as (λ o. get base q ≡ o → still gone' o ≡ still gone o) [
          | None ↦ λ e. refl
          | Some g ↦ λ e.
              ap (λ b. if b then None else Some g) (goes g.0 ∙ ap (λ b. b || (is_file base from g.0 || gone g.0)) (other_file q to g e too) ∙ ap (λ b. b || gone g.0) (other_file q from g e other))
        ] refl

    links_over-renamed : links_over added' gone' base ≡ insert (remove tree.links from) to file
    links_over-renamed =
        same_map link_cmp_total link_cmp-same _ _ (λ q.
        get-links_over added' gone' base q ∙ ap (λ o. option_or o (still gone' (get base q))) (get-insert link_cmp_total (remove added from) to file q ∙ ap (cond (eq_by_cmp link_cmp q to) (Some file)) (get-remove link_cmp_total added from q))
        ∙ at q
        ∙ sym (get-insert link_cmp_total (remove tree.links from) to file q ∙ ap (cond (eq_by_cmp link_cmp q to) (Some file)) (get-remove link_cmp_total tree.links from q ∙ ap (cond (eq_by_cmp link_cmp q from) None) (get-links_over added gone base q))))
      where
        at : (q : ℕ × List ℕ) → option_or (cond (eq_by_cmp link_cmp q to) (Some file) (cond (eq_by_cmp link_cmp q from) None (get added q))) (still gone' (get base q))
            ≡ cond (eq_by_cmp link_cmp q to) (Some file) (cond (eq_by_cmp link_cmp q from) None (option_or (get added q) (still gone (get base q))))
        at q =
            elim (eq_by_cmp link_cmp q to) as (λ b. eq_by_cmp link_cmp q to ≡ b → option_or (cond b (Some file) (cond (eq_by_cmp link_cmp q from) None (get added q))) (still gone' (get base q)) ≡ cond b (Some file) (cond (eq_by_cmp link_cmp q from) None (option_or (get added q) (still gone (get base q))))) [
              | true ↦ λ e. refl
              | false ↦ λ e. elim (eq_by_cmp link_cmp q from) as (λ b. eq_by_cmp link_cmp q from ≡ b → option_or (cond b None (get added q)) (still gone' (get base q)) ≡ cond b None (option_or (get added q) (still gone (get base q)))) [
                | true ↦ λ k. ap (λ x. still gone' (get base x)) (tied_key link_cmp-same q from k) ∙ gone_here
                | false ↦ λ k. ap (option_or (get added q)) (stays_elsewhere q (not_one q from k) (not_one q to e))
              ] refl
            ] refl

    pub tree_over-renamed : tree_over m made added' gone' next ≡ renamed tree dir name to_dir to_name
    tree_over-renamed =
        let links = links_over-renamed ∙ sym (links-renamed tree dir name to_dir to_name file there) in
        λ i. record { manifest = m; files = files_over made (files_from 2 m.lines); links = links i; next_file = next }

    -- a link that is gone stays so
    gone_still : (o : Option FileId) → still gone o ≡ None → still gone' o ≡ None
    gone_still None h = refl
    gone_still (Some g) h =
        let was : gone g.0 ≡ true = elim (gone g.0) as (λ b. (if b then None else Some g) ≡ None → b ≡ true) [ true ↦ λ _. refl | false ↦ λ k. absurd (cc) ] h in
        ap (λ b. if b then None else Some g) (goes g.0 ∙ ap (λ b. is_file base to g.0 || (is_file base from g.0 || b)) was ∙ ap (λ b. is_file base to g.0 || b) (or-true (is_file base from g.0)) ∙ or-true (is_file base to g.0))

    pub rename-IsOverlay : (lost' : ℕ → ℕ) → ((g : FileId) → gone' g.0 ≡ true → is_line m g ≡ true) → ((d : ℕ) → lost' d ≡ lost_in gone' d 2 m.lines) → IsTree (renamed tree dir name to_dir to_name) → IsOverlay m made added' gone' lost' next
    rename-IsOverlay lost' are_lines counted is_tree = record {
      parts = record {
        is_manifest = is.parts.is_manifest;
        made_are_later = is.parts.made_are_later;
        added_are_apart = λ d n h.
            let g = some-is _ h in
            elim (get-insert_cases link_cmp_total link_cmp-same (remove added from) to file (d, n) g.0 g.1) [
              | inl w ↦ ap (λ k. still gone' (get base k)) w.0 ∙ gone_there
              | inr old ↦ gone_still (get base (d, n)) (is.parts.added_are_apart d n (some-IsSome _ g.0 (get-remove_cases link_cmp_total link_cmp-same added from (d, n) g.0 old).0))
            ];
        gone_are_lines = are_lines;
        lost_are_counted = counted;
      };
      is_tree = subst IsTree (sym tree_over-renamed) is_tree;
    }
