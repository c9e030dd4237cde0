-- Who stands above whom in a tree, and the way up from a file.
use Rattle.std.proofs.Common.{◌≡◌, ◌⊎◌, ◌+◌, ◌≤◌, ℕ, List, [], ◌∷◌, length, Some, None, refl, sym, ap, subst, ◌∙◌, inl, inr, arith}
use Rattle.std.proofs.lemmas.Map.Steps.{length-le_from_distinct_below}
use Rattle.std.specs.FinMap.{FinMap, get}
use Rattle.std.specs.Option.{option_and_then}
use Rattle.eden_base.specs.declared.number.FileId.{FileId}
use Rattle.checkout.specs.Around.{end_of, AreApart, IsDirAbove, IsUnder}
use Rattle.checkout.specs.RenamedTree.{IsAtOrAbove}
use Rattle.manifest.specs.Tree.{child_of, file_at, link_cmp, root, IsTree, StandsIn, Tree}
use Rattle.checkout.proofs.AroundPaths.{circle_goes_up, last_of, one_dir}
use Rattle.checkout.proofs.CreateLaws.{dir_is_below, linked_is_below}
use Rattle.checkout.proofs.UpwardLaws.{begins, one_up, IsWayUp}

-- names lead in a tree as in its links
pub file_at-end_of : (tree : Tree) (dir : FileId) (names : List (List ℕ)) → file_at tree dir names ≡ end_of tree.links dir names
file_at-end_of tree dir [] = refl
file_at-end_of tree dir (name ∷ names) =
    elim (child_of tree dir name) as (λ o. option_and_then (λ (child : FileId). file_at tree child names) o ≡ option_and_then (λ (child : FileId). end_of tree.links child names) o) [
      | None ↦ refl
      | Some child ↦ file_at-end_of tree child names
    ]

-- what holds of each file's directory with the file holds of all above it
holds_above : (links : FinMap link_cmp FileId) (P : FileId → Type 0) → ((file dir : FileId) → P file → StandsIn links file dir → P dir) →
    (names : List (List ℕ)) (file below : FileId) → end_of links file names ≡ Some below → P below → P file
holds_above links P up [] file below h p = let e : below ≡ file = cc in subst P e p
holds_above links P up (name ∷ names) file below h p =
    elim (get links (file.0, name)) as (λ o. get links (file.0, name) ≡ o → option_and_then (λ (child : FileId). end_of links child names) o ≡ Some below → P file) [
      | None ↦ λ e g. absurd (cc)
      | Some child ↦ λ e g. up child file (holds_above links P up names child below g p) (name, e)
    ] refl h

-- some steps up from a file, none of which came to another
pub record IsOnWay (tree : Tree) (file from at : FileId) (steps : ℕ) : Type 0 where
  pub came : IsAtOrAbove tree at from
  pub left : IsAtOrAbove tree file from → IsAtOrAbove tree file at
  pub seen : (steps ≡ 0) ⊎ ((files : List ℕ) × IsWayUp tree at files × (length files ≡ steps + 1))

module _ (tree : Tree) (is : IsTree tree) where
  stand_apart : AreApart tree.links
  stand_apart = record { apart = λ d e n m file h k. is.links_are_apart d e n m file h k }

  -- no file stands below itself
  pub not_under_itself : (file : FileId) → IsUnder tree.links file file → ⊥
  not_under_itself file on =
      let path = is.links_are_reached on.dir on.stands.0 file on.stands.1 in
      let top = holds_above tree.links (λ f. IsUnder tree.links f f) (λ f d u s. (circle_goes_up tree.links stand_apart f d u s).1) path.0 root file (sym (file_at-end_of tree root path.0) ∙ path.1) on in
      let below = is.root_has_no_link top.dir top.stands.0 root top.stands.1 in
      omega (arith, below)

  pub no_way_back : (dir : FileId) (name : List ℕ) (file : FileId) (names : List (List ℕ)) → child_of tree dir name ≡ Some file → file_at tree file names ≡ Some dir → ⊥
  no_way_back dir name file names link back =
      not_under_itself file (record { dir = dir; to_dir = (names, sym (file_at-end_of tree file names) ∙ back); stands = (name, link) })

  -- names that lead to another file have a last one, which stands in the other's directory
  pub above_next : (file at dir : FileId) → (file ≡ at → ⊥) → IsAtOrAbove tree file at → StandsIn tree.links at dir → IsAtOrAbove tree file dir
  above_next file at dir other above s =
      elim (last_of tree.links above.0 file at (sym (file_at-end_of tree file above.0) ∙ above.1)) [
        | inl same ↦ absurd (other same)
        | inr u ↦
            let same = one_dir tree.links stand_apart at u.dir dir u.stands s in
            (u.to_dir.0, file_at-end_of tree file u.to_dir.0 ∙ u.to_dir.1 ∙ ap (λ (d : FileId). Some d) same)
      ]

  -- nothing else stands above a file that stands nowhere
  pub none_above_next : (file at : FileId) → (file ≡ at → ⊥) → IsAtOrAbove tree file at → IsDirAbove tree.links at None → ⊥
  none_above_next file at other above none =
      elim (last_of tree.links above.0 file at (sym (file_at-end_of tree file above.0) ∙ above.1)) [
        | inl same ↦ other same
        | inr u ↦ none u.dir u.stands
      ]

  pub on_way-start : (file from : FileId) → IsOnWay tree file from from 0
  on_way-start file from = record { came = ([], refl); left = λ h. h; seen = inl refl }

  pub on_way-up : (file from at dir : FileId) (steps : ℕ) → IsOnWay tree file from at steps → (file ≡ at → ⊥) → StandsIn tree.links at dir → IsOnWay tree file from dir (steps + 1)
  on_way-up file from at dir steps way other s = record {
    came = (s.0 ∷ way.came.0, ap (option_and_then (λ (child : FileId). file_at tree child way.came.0)) s.1 ∙ way.came.1);
    left = λ h. above_next file at dir other (way.left h) s;
    seen = inr (elim way.seen [
      | inl none ↦ (dir.0 ∷ at.0 ∷ [], up (at.0 ∷ []) (begins tree at (linked_is_below tree is dir s.0 at s.1)), omega (arith, none))
      | inr w ↦ (dir.0 ∷ w.0, up w.0 w.1, let many = w.2 in omega (arith, many))
    ]);
  }
    where
      up : (files : List ℕ) → IsWayUp tree at files → IsWayUp tree dir (dir.0 ∷ files)
      up files = one_up tree (λ d n f h. dir_is_below tree is d (is.links_stand_in_dirs d n f h)) no_way_back dir s.0 at files s.1

  -- no way up is longer than there are files
  pub on_way-ends : (file from at : FileId) (steps : ℕ) → IsOnWay tree file from at steps → tree.next_file ≤ steps → ⊥
  on_way-ends file from at steps way many =
      elim way.seen [
        | inl none ↦ let one = dir_is_below tree is root is.root_is_dir in omega (arith, one, none, many)
        | inr w ↦
            let few = length-le_from_distinct_below w.0 tree.next_file w.1.apart w.1.below in
            let count = w.2 in
            omega (arith, few, many, count)
      ]
