-- Where no change is bad by itself or meets another: what each file and each link of the changed tree is.
use Rattle.std.proofs.Common.{◌≡◌, ◌<◌, ◌≤◌, ◌⊎◌, ◌==◌, ◌&&◌, ℕ, Bool, true, false, not, List, Option, Some, None, IsSome, is_some, refl, sym, ap, ◌∙◌, inl, inr, arith, eq-eqb}
use Rattle.std.proofs.lemmas.Bool.{and_parts}
use Rattle.std.proofs.lemmas.Bool.Decides.{nat_tests}
use Rattle.std.proofs.lemmas.List.Elements.{All-contains, All-from_recursion}
use Rattle.std.specs.FinMap.{FinMap, get}
use Rattle.std.specs.List.{Contains}
use Rattle.std.specs.Option.{option_map, option_or}
use Rattle.eden_base.proofs.MemberLemmas.{some-is, some-IsSome}
use Rattle.eden_base.specs.declared.attr.Kind.{Kind}
use Rattle.eden_base.specs.declared.attr.Kind.TheVariants.{Dir, File as RegularFile, Link as SymbolicLink}
use Rattle.eden_base.specs.declared.number.FileId.{FileId}
use Rattle.checkout.specs.declared.changes.Changes.{Changes}
use Rattle.manifest.specs.declared.link_change.LinkChange.{LinkChange}
use Rattle.checkout.specs.declared.changes.Made.{Made}
use Rattle.checkout.specs.BadChanges.{Link, bad_by_other, bad_itself, changed_links, first_link, first_link_where, has_other_link, is_at, is_target, kind_with, last_file}
use Rattle.checkout.specs.Changed.{changed}
use Rattle.checkout.specs.Changes.{place_of}
use Rattle.manifest.specs.Manifest.{File, IsManifest, Manifest}
use Rattle.manifest.specs.Tree.{IsTree, Tree, child_of, file_of, is_dir, kind_of, link_cmp, links_from, tree_of}
use Rattle.checkout.proofs.ChangedFiles.{changed_files, changed_kind, file_of_made, found_made, made_is_good, made_under}
use Rattle.checkout.proofs.ChangedLinks.{any_link}
use Rattle.checkout.proofs.ChangedMaps.{StandsAt, change_is_good, changed_links-changed, stands_or_same}
use Rattle.checkout.proofs.FirstBadLaws.{IsGoodItself, all_good, good_itself}
use Rattle.manifest.proofs.FlatLemmas.{link_cmp-same}
use Rattle.manifest.proofs.ManifestIsTree.{tree_of-IsTree}
use Rattle.manifest.proofs.ManifestTree.{file_with, id_of_file, same_id}
use Rattle.manifest.proofs.MapLemmas.{tied_key}

-- a test of which no link is found holds of none
pub holds_of_none : (test : LinkChange → Bool) (c : Changes) → first_link_where test c ≡ None → (x : LinkChange) → Contains c.links x → test x ≡ false
holds_of_none test c none x h =
    let P : LinkChange → Type 0 = λ y. test y ≡ false in
    All-contains P c.links x (All-from_recursion P c.links (all_good (λ _ change. test change) P (λ _ y fails. fails) (first_link c) None c.links none)) h

dir_if_so : (k : Option Kind) → is_dir k ≡ true → k ≡ Some Dir
dir_if_so None h = absurd (cc)
dir_if_so (Some RegularFile) h = absurd (cc)
dir_if_so (Some SymbolicLink) h = absurd (cc)
dir_if_so (Some Dir) h = refl

pub kind_there : (o : Option File) → is_some (option_map (λ (f : File). f.kind) o) ≡ true → IsSome o
kind_there None h = absurd (cc)
kind_there (Some f) h = refl

-- where a file stays, a directory does
pub dir_stays : (old new : Tree) (dir : FileId) → ((f : File) → file_of old dir ≡ Some f → file_of new dir ≡ Some f) → kind_of old dir ≡ Some Dir → kind_of new dir ≡ Some Dir
dir_stays old new dir stays h =
    elim (file_of old dir) as (λ o. file_of old dir ≡ o → option_map (λ (f : File). f.kind) o ≡ Some Dir → kind_of new dir ≡ Some Dir) [
      | None ↦ λ _ g. absurd (cc)
      | Some f ↦ λ e g. ap (option_map (λ (f : File). f.kind)) (stays f e) ∙ g
    ] refl h

-- a file that was made, as one of the tree
pub record IsMadeFile (c : Changes) (file : FileId) (f : File) : Type 0 where
  pub made : Made
  pub listed : Contains c.made made
  pub id : made.file.0 ≡ file.0
  pub is : file_of_made made ≡ f

module _ (m : Manifest) (c : Changes) (is : IsManifest m) (itself : bad_itself m c ≡ None) where
  abbrev tree : Tree
  tree = changed m c

  abbrev base : FinMap link_cmp FileId
  base = links_from 2 m.lines

  first : IsTree (tree_of m)
  first = tree_of-IsTree m is

  good : IsGoodItself m c
  good = good_itself m c itself

  pub first_stays : (file : FileId) (f : File) → file_of (tree_of m) file ≡ Some f → file_of tree file ≡ Some f
  first_stays file f h = changed_files m c good.made file.0 ∙ ap (λ o. option_or o (option_map file_of_made (made_under file.0 c.made))) h

  -- a file is the manifest's or was made
  pub file_cases : (file : FileId) (f : File) → file_of tree file ≡ Some f → (file_of (tree_of m) file ≡ Some f) ⊎ IsMadeFile c file f
  file_cases file f h =
      elim (file_of (tree_of m) file) as (λ o. option_or o (option_map file_of_made (made_under file.0 c.made)) ≡ Some f → (o ≡ Some f) ⊎ IsMadeFile c file f) [
        | Some g ↦ λ e. inl e
        | None ↦ λ e. elim (made_under file.0 c.made) as (λ o. made_under file.0 c.made ≡ o → option_map file_of_made o ≡ Some f → (None ≡ Some f) ⊎ IsMadeFile c file f) [
          | None ↦ λ _ g. inl g
          | Some x ↦ λ k g. let r = found_made c.made file.0 x k in inr (record { made = x; listed = r.0; id = r.1; is = let same : file_of_made x ≡ f = cc in same })
        ] refl e
      ] (sym (changed_files m c good.made file.0) ∙ h)

  pub id_within : (file : FileId) → IsSome (file_of tree file) → (1 ≤ file.0) × (file.0 < c.next_file.0)
  id_within file h =
      let w = some-is (file_of tree file) h in
      let next : last_file m < c.next_file.0 = next_after in
      elim (file_cases file w.0 w.1) [
        | inl e ↦ elim (id_of_file 2 m.lines file.0 w.0 e) [ inl one ↦ (omega (arith, one), omega (arith, one, next)) | inr at ↦ (omega (arith, at.0), omega (arith, at.1, next)) ]
        | inr r ↦
            let x = made_is_good m c good.made r.made r.listed in
            let low = x.later in
            let high = x.below in
            let id = r.id in
            (omega (arith, low, id), omega (arith, high, id))
      ]
    where
      next_after : last_file m < c.next_file.0
      next_after = let n = good.next_after in grind (arith, nat_tests)

  -- what a change gives
  given_is_target : (dir : FileId) (name : List ℕ) (file : FileId) → child_of tree dir name ≡ Some file → StandsAt base c.links (dir.0, name) → (is_some (kind_with m c.made file) ≡ true) × (not (file.0 == 1) ≡ true)
  given_is_target dir name file h r =
      and_parts (is_some (kind_with m c.made file)) (not (file.0 == 1)) (ap (is_target m c.made) (sym (r.gives ∙ h)) ∙ (change_is_good m c good.links r.change r.listed).target)

  pub gives_file : (dir : FileId) (name : List ℕ) (file : FileId) → child_of tree dir name ≡ Some file → IsSome (file_of tree file)
  gives_file dir name file h =
      elim (stands_or_same base c.links (dir.0, name)) [
        | inl same ↦
            let w = some-is (file_of (tree_of m) file) (first.links_give_files dir name file (sym same ∙ h)) in
            some-IsSome (file_of tree file) w.0 (first_stays file w.0 w.1)
        | inr r ↦ kind_there (file_of tree file) (ap is_some (changed_kind m c good.made file.0) ∙ (given_is_target dir name file h r).0)
      ]

  pub stands_in_dir : (dir : FileId) (name : List ℕ) (file : FileId) → child_of tree dir name ≡ Some file → kind_of tree dir ≡ Some Dir
  stands_in_dir dir name file h =
      elim (stands_or_same base c.links (dir.0, name)) [
        | inl same ↦ dir_stays (tree_of m) tree dir (first_stays dir) (first.links_stand_in_dirs dir name file (sym same ∙ h))
        | inr r ↦
            let at = same_id r.change.dir dir (ap (λ (k : ℕ × List ℕ). k.0) r.here) in
            changed_kind m c good.made dir.0 ∙ ap (kind_with m c.made) (sym at) ∙ dir_if_so (kind_with m c.made r.change.dir) (change_is_good m c good.links r.change r.listed).dir
      ]

  pub gives_no_root : (dir : FileId) (name : List ℕ) (file : FileId) → child_of tree dir name ≡ Some file → 1 < file.0
  gives_no_root dir name file h =
      elim (stands_or_same base c.links (dir.0, name)) [
        | inl same ↦ first.root_has_no_link dir name file (sym same ∙ h)
        | inr r ↦
            let other = (given_is_target dir name file h r).1 in
            let low = (id_within file (gives_file dir name file h)).0 in
            above (file.0 == 1) refl other low
      ]
    where
      above : (b : Bool) → (file.0 == 1) ≡ b → not b ≡ true → 1 ≤ file.0 → 1 < file.0
      above true e g low = absurd (cc)
      above false e g low = grind (arith, nat_tests)

  module _ (by_other : bad_by_other m c ≡ None) where
    -- the file that a change gives stands nowhere else
    alone : (x : LinkChange) (file : FileId) (place : ℕ × List ℕ) → Contains c.links x → x.target ≡ Some file → get tree.links place ≡ Some file → place_of x ≡ place
    alone x file place listed gives there =
        elim (is_at (place_of x) place) as (λ b. is_at (place_of x) place ≡ b → place_of x ≡ place) [
          | true ↦ λ e. tied_key link_cmp-same (place_of x) place e
          | false ↦ λ e.
              let none = sym (ap (λ o. has_other_link_of o) gives) ∙ holds_of_none (has_other_link (changed_links m c)) c by_other x listed in
              let found = any_link (λ (link : Link). link.1.0 == file.0 && not (is_at (place_of x) link.0)) (changed_links m c) place file (passes (file.0 == file.0) (eq-eqb file.0 file.0 refl) e) (changed_links-changed m c good.links place ∙ there) in
              absurd (cc (none, found))
        ] refl
      where
        has_other_link_of : Option FileId → Bool
        has_other_link_of o = has_other_link (changed_links m c) (record { dir = x.dir; name = x.name; target = o })

        passes : (b : Bool) → b ≡ true → is_at (place_of x) place ≡ false → (b && not (is_at (place_of x) place)) ≡ true
        passes b e k = ap (λ d. d && not (is_at (place_of x) place)) e ∙ ap not k

    one_place : (p q : ℕ × List ℕ) (file : FileId) → get tree.links p ≡ Some file → get tree.links q ≡ Some file → p ≡ q
    one_place p q file at_p at_q =
        elim (stands_or_same base c.links p) [
          | inr r ↦ sym r.here ∙ alone r.change file q r.listed (r.gives ∙ at_p) at_q
          | inl same ↦ elim (stands_or_same base c.links q) [
            | inr r ↦ sym (sym r.here ∙ alone r.change file p r.listed (r.gives ∙ at_q) at_p)
            | inl too ↦
                let w = first.links_are_apart (file_with p.0) (file_with q.0) p.1 q.1 file (sym same ∙ at_p) (sym too ∙ at_q) in
                λ i. ((w.0 i).0, w.1 i)
          ]
        ]

-- links of a tree that give each file once, and not the root, and stand in directories
pub record AreLinksOfFiles (t : Tree) : Type 0 where
  pub apart : (p q : ℕ × List ℕ) (file : FileId) → get t.links p ≡ Some file → get t.links q ≡ Some file → p ≡ q
  pub no_root : (dir : FileId) (name : List ℕ) (file : FileId) → child_of t dir name ≡ Some file → 1 < file.0
  pub give_files : (dir : FileId) (name : List ℕ) (file : FileId) → child_of t dir name ≡ Some file → IsSome (file_of t file)
  pub stand_in_dirs : (dir : FileId) (name : List ℕ) (file : FileId) → child_of t dir name ≡ Some file → kind_of t dir ≡ Some Dir

pub changed_apart : (m : Manifest) (c : Changes) → IsManifest m → bad_itself m c ≡ None → bad_by_other m c ≡ None → AreLinksOfFiles (changed m c)
changed_apart m c is itself by_other = record {
  apart = one_place m c is itself by_other;
  no_root = gives_no_root m c is itself;
  give_files = gives_file m c is itself;
  stand_in_dirs = stands_in_dir m c is itself;
}
