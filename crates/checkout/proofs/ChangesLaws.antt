-- What tells a tree from its manifest's makes it: no two trees of a manifest have the same changes.
use Rattle.std.proofs.Common.{◌≡◌, ◌≢◌, ◌==◌, ℕ, true, false, List, Option, Some, None, refl, sym, ap, ◌∙◌, ◌⊎◌, inl, inr, arith, eq-eqb}
use Rattle.std.proofs.lemmas.Bool.Decides.{nat_tests}
use Rattle.std.specs.Cmp.{nat_cmp_total}
use Rattle.std.specs.FinMap.{get, nat_cmp-IsAntisymmetric, same_map}
use Rattle.std.specs.List.{AllByRecursion}
use Rattle.eden_base.specs.Name.{IsNameText}
use Rattle.eden_base.specs.declared.number.FileId.{FileId}
use Rattle.checkout.specs.declared.changes.Changes.{Changes}
use Rattle.manifest.specs.declared.link_change.LinkChange.{LinkChange}
use Rattle.checkout.specs.declared.changes.Made.{Made}
use Rattle.checkout.specs.Changes.{AreChanges, IsLinkChange, place_of}
use Rattle.manifest.specs.Manifest.{File, Manifest}
use Rattle.manifest.specs.Tree.{Tree, IsTree, child_of, file_of, links_from, tree_of}
use Rattle.checkout.specs.ChangedTree.{made_file}
use Rattle.checkout.proofs.ChangeLists.{all_of}
use Rattle.manifest.proofs.FlatLemmas.{link_cmp_total, link_cmp-same}
use Rattle.manifest.proofs.ManifestTree.{file_with, same_id}
use Rattle.checkout.proofs.OneList.{one_list}

-- two files, or the want of one, are the same or not
pub same_or_not : (a b : Option FileId) → (a ≡ b) ⊎ (a ≢ b)
same_or_not None None = inl refl
same_or_not None (Some g) = inr (λ e. cc)
same_or_not (Some f) None = inr (λ e. cc)
same_or_not (Some f) (Some g) =
    elim (f.0 == g.0) as (λ b. (f.0 == g.0) ≡ b → (Some f ≡ Some g) ⊎ (Some f ≢ Some g)) [
      | true ↦ λ e. let id : f.0 ≡ g.0 = grind (arith, nat_tests) in inl (ap (λ x. Some x) (same_id f g id))
      | false ↦ λ e. inr (λ s.
          let same : f ≡ g = cc in
          let equal = eq-eqb f.0 g.0 (ap (λ (x : FileId). x.0) same) in
          absurd (cc (equal, e)))
    ] refl

-- what the one has, the other has
files_of : (t u : Tree) (c : Changes) → IsTree t → IsTree u → u.manifest ≡ t.manifest → AreChanges t c → AreChanges u c → (q : ℕ) (f : File) → get t.files q ≡ Some f → get u.files q ≡ Some f
files_of t u c tree other one has too q f here =
    elim (tree.others_are_later (file_with q) f here) [
      | inl first ↦ other.has_manifest_files (file_with q) f (ap (λ (m : Manifest). file_of (tree_of m) (file_with q)) one ∙ first)
      | inr w ↦
          let made : Made = record { file = file_with q; kind = w.1.0; perm = f.perm } in
          let empty : f ≡ made_file w.1.0 f.perm = λ i. record { kind = w.1.1 i; perm = f.perm; size = w.1.2 i } in
          let there = (has.made.each made).1 (record { later = w.0; file = here ∙ ap (λ x. Some x) empty }) in
          ((too.made.each made).0 there).file ∙ ap (λ x. Some x) (sym empty)
    ]

links_where_differs : (t u : Tree) (c : Changes) → AreChanges t c → AreChanges u c → (q : ℕ × List ℕ) → get t.links q ≢ get (links_from 2 t.manifest.lines) q → get t.links q ≡ get u.links q
links_where_differs t u c has too q differs =
    let change : LinkChange = record { dir = file_with q.0; name = q.1; target = get t.links q } in
    ((too.links.each change).0 ((has.links.each change).1 (record { target = refl; differs = differs }))).target

pub one_tree : (t u : Tree) (c : Changes) → IsTree t → IsTree u → u.manifest ≡ t.manifest → AreChanges t c → AreChanges u c → u ≡ t
one_tree t u c tree other one has too =
    λ i. record { manifest = one i; files = files i; links = links i; next_file = next i }
  where
    file : (q : ℕ) → get u.files q ≡ get t.files q
    file q =
        elim (get u.files q) as (λ o. get u.files q ≡ o → o ≡ get t.files q) [
          | Some f ↦ λ e. sym (files_of u t c other tree (sym one) too has q f e)
          | None ↦ λ e. elim (get t.files q) as (λ o. get t.files q ≡ o → None ≡ o) [
            | None ↦ λ _. refl
            | Some f ↦ λ h. let there = files_of t u c tree other one has too q f h in absurd (cc (there, e))
          ] refl
        ] refl

    files : u.files ≡ t.files
    files = same_map nat_cmp_total nat_cmp-IsAntisymmetric u.files t.files file

    link : (q : ℕ × List ℕ) → get u.links q ≡ get t.links q
    link q =
        elim (same_or_not (get u.links q) (get (links_from 2 u.manifest.lines) q)) [
          | inr differs ↦ links_where_differs u t c too has q differs
          | inl same ↦ elim (same_or_not (get t.links q) (get (links_from 2 t.manifest.lines) q)) [
            | inr differs ↦ sym (links_where_differs t u c has too q differs)
            | inl too_same ↦ same ∙ ap (λ (m : Manifest). get (links_from 2 m.lines) q) one ∙ sym too_same
          ]
        ]

    links : u.links ≡ t.links
    links = same_map link_cmp_total link_cmp-same u.links t.links link

    next : u.next_file ≡ t.next_file
    next = ap (λ (f : FileId). f.0) (sym too.next ∙ has.next)

-- and a tree has one list of each
pub one_changes : (t : Tree) (a b : Changes) → AreChanges t a → AreChanges t b → b ≡ a
one_changes t a b has too =
    let made = one_list nat_cmp_total (λ (m : Made). m.file.0) b.made a.made too.made.rising has.made.rising (λ x h. (has.made.each x).1 ((too.made.each x).0 h)) (λ x h. (too.made.each x).1 ((has.made.each x).0 h)) in
    let links = one_list link_cmp_total place_of b.links a.links too.links.rising has.links.rising (λ x h. (has.links.each x).1 ((too.links.each x).0 h)) (λ x h. (too.links.each x).1 ((has.links.each x).0 h)) in
    let next = too.next ∙ sym has.next in
    λ i. record { made = made i; links = links i; next_file = next i }

-- a name that differs is one: the tree has it, or the manifest
changed_name : (t : Tree) (x : LinkChange) → IsTree t → IsTree (tree_of t.manifest) → IsLinkChange t x → IsNameText x.name
changed_name t x tree first change =
    elim x.target as (λ o. x.target ≡ o → IsNameText x.name) [
      | Some f ↦ λ e. tree.links_have_names x.dir x.name f (sym change.target ∙ e)
      | None ↦ λ e. elim (child_of (tree_of t.manifest) x.dir x.name) as (λ o. child_of (tree_of t.manifest) x.dir x.name ≡ o → IsNameText x.name) [
        | Some f ↦ λ g. first.links_have_names x.dir x.name f g
        | None ↦ λ g. absurd (change.differs (e ∙ sym g))
      ] refl
    ] refl

pub changed_names : (t : Tree) (c : Changes) → IsTree t → IsTree (tree_of t.manifest) → AreChanges t c → AllByRecursion (λ link. IsNameText link.name) c.links
changed_names t c tree first has = all_of (λ link. IsNameText link.name) c.links (λ x here. changed_name t x tree first ((has.links.each x).0 here))
