-- A tree in which a file was made.
use Rattle.std.proofs.Common.{◌≡◌, ℕ, ◌+◌, ◌<◌, ◌≤◌, ◌==◌, ◌&&◌, not, true, false, List, [], ◌∷◌, ◌++◌, length, Some, None, IsSome, refl, sym, ap, subst, ◌∙◌, ◌⊎◌, inl, inr, arith}
use Rattle.std.proofs.lemmas.Bool.Decides.{nat_tests}
use Rattle.std.specs.Cmp.{nat_cmp_total}
use Rattle.std.specs.FinMap.{get, nat_cmp-IsAntisymmetric}
use Rattle.std.specs.Option.{option_map}
use Rattle.eden_base.proofs.MemberLemmas.{some-IsSome, some-is}
use Rattle.eden_base.specs.Limits.{end_of_files}
use Rattle.eden_base.specs.Name.{IsNameText}
use Rattle.eden_base.specs.declared.attr.MadeKind.{MadeKind}
use Rattle.eden_base.specs.declared.attr.Kind.TheVariants.{Dir}
use Rattle.eden_base.specs.declared.attr.Perm.{Perm}
use Rattle.eden_base.specs.declared.number.FileId.{FileId}
use Rattle.manifest.specs.Manifest.{File, Line}
use Rattle.manifest.specs.Tree.{Tree, root, file_of, kind_of, child_of, file_at, files_from, IsTree}
use Rattle.checkout.specs.ChangedTree.{is_linked, is_unlinked, next_file, made_file, created}
use Rattle.manifest.proofs.FlatLemmas.{link_cmp_total, link_cmp-same}
use Rattle.checkout.proofs.LinkLaws.{child_from_linked}
use Rattle.manifest.proofs.ManifestTree.{file_with, same_id, file_of_line, line_at}
use Rattle.manifest.proofs.MapLemmas.{get-insert_cases, get-insert_same, get-insert_other}
use Rattle.manifest.proofs.PathLaws.{file_at-below, file_at-stays}

-- the place is another
abbrev pub IsElsewhere : FileId → List ℕ → FileId → List ℕ → Type 0
IsElsewhere d n dir name = (d ≡ dir) × (n ≡ name) → ⊥

module _ (tree : Tree) (dir : FileId) (name : List ℕ) (kind : MadeKind) (perm : Perm) where
  abbrev new : Tree
  new = created tree dir name kind perm

  -- the file is under its name, and every other name gives what it gave
  pub child_of-created : child_of new dir name ≡ Some (next_file tree)
  child_of-created = get-insert_same link_cmp_total tree.links (dir.0, name) (next_file tree)

  pub child_of-created_elsewhere : (d : FileId) (n : List ℕ) → IsElsewhere d n dir name → child_of new d n ≡ child_of tree d n
  child_of-created_elsewhere d n other =
      get-insert_other link_cmp_total link_cmp-same tree.links (dir.0, name) (next_file tree) (d.0, n)
      (λ e. other (same_id d dir (ap (λ (k : ℕ × List ℕ). k.0) e), ap (λ (k : ℕ × List ℕ). k.1) e))

  pub child_of-created_cases : (d : FileId) (n : List ℕ) (file : FileId) → child_of new d n ≡ Some file → ((d ≡ dir) × (n ≡ name) × (file ≡ next_file tree)) ⊎ (child_of tree d n ≡ Some file)
  child_of-created_cases d n file h =
      elim (get-insert_cases link_cmp_total link_cmp-same tree.links (dir.0, name) (next_file tree) (d.0, n) file h) [
        | inl w ↦ inl (same_id d dir (ap (λ (k : ℕ × List ℕ). k.0) w.0), ap (λ (k : ℕ × List ℕ). k.1) w.0, sym w.1)
        | inr g ↦ inr g
      ]

  -- the file is there, and every other file is what it was
  pub file_of-created : file_of new (next_file tree) ≡ Some (made_file kind perm)
  file_of-created = get-insert_same nat_cmp_total tree.files tree.next_file (made_file kind perm)

  pub file_of-created_other : (file : FileId) → (file.0 ≡ tree.next_file → ⊥) → file_of new file ≡ file_of tree file
  file_of-created_other file other = get-insert_other nat_cmp_total nat_cmp-IsAntisymmetric tree.files tree.next_file (made_file kind perm) file.0 other

  pub file_of-created_cases : (file : FileId) (f : File) → file_of new file ≡ Some f → ((file.0 ≡ tree.next_file) × (made_file kind perm ≡ f)) ⊎ (file_of tree file ≡ Some f)
  file_of-created_cases file f h = get-insert_cases nat_cmp_total nat_cmp-IsAntisymmetric tree.files tree.next_file (made_file kind perm) file.0 f h

  pub kind_of-created_other : (file : FileId) → (file.0 ≡ tree.next_file → ⊥) → kind_of new file ≡ kind_of tree file
  kind_of-created_other file other = ap (option_map (λ (f : File). f.kind)) (file_of-created_other file other)

-- the next file comes after the manifest's
pub next_is_later : (tree : Tree) → IsTree tree → length tree.manifest.lines + 2 ≤ tree.next_file
next_is_later tree is = above tree.manifest.lines refl
  where
    root_there : (t : Tree) → IsTree t → IsSome (file_of t root)
    root_there t it =
        elim (file_of t root) as (λ o. option_map (λ (f : File). f.kind) o ≡ Some Dir → IsSome o) [ None ↦ λ h. cc | Some f ↦ λ h. refl ] it.root_is_dir

    in_tree : (id : ℕ) (f : File) → get (files_from 2 tree.manifest.lines) id ≡ Some f → id < tree.next_file
    in_tree id f h = is.ids_below_next (file_with id) (some-IsSome _ f (is.has_manifest_files (file_with id) f h))

    above : (lines : List Line) → lines ≡ tree.manifest.lines → length tree.manifest.lines + 2 ≤ tree.next_file
    above [] e =
        let none : length tree.manifest.lines ≡ 0 = ap length (sym e) in
        let below = is.ids_below_next root (root_there tree is) in
        omega (arith, none, below)
    above (l ∷ ls) e =
        let some : length tree.manifest.lines ≡ length ls + 1 = ap length (sym e) ∙ omega arith in
        let last = line_at tree.manifest.lines (length ls) (omega (arith, some)) in
        let below = in_tree (2 + length ls) last.0.file (file_of_line 2 (length ls) tree.manifest.lines last.0 last.1) in
        omega (arith, some, below)

module _ (tree : Tree) (is : IsTree tree) where
  pub linked_is_below : (d : FileId) (n : List ℕ) (file : FileId) → child_of tree d n ≡ Some file → file.0 < tree.next_file
  linked_is_below d n file h = is.ids_below_next file (is.links_give_files d n file h)

  pub dir_is_below : (d : FileId) → kind_of tree d ≡ Some Dir → d.0 < tree.next_file
  dir_is_below d h =
      is.ids_below_next d (elim (file_of tree d) as (λ o. option_map (λ (f : File). f.kind) o ≡ Some Dir → IsSome o) [ None ↦ λ e. cc | Some f ↦ λ e. refl ] h)

  -- a file that is not unlinked is reached from the root
  pub reached : (file : FileId) → is_unlinked tree file ≡ false → (path : List (List ℕ)) × (file_at tree root path ≡ Some file)
  reached file h =
      elim (file.0 == 1) as (λ b. (file.0 == 1) ≡ b → (not b && not (is_linked tree file)) ≡ false → (path : List (List ℕ)) × (file_at tree root path ≡ Some file)) [
        | true ↦ λ e g. let one : file.0 ≡ 1 = grind (arith, nat_tests) in ([], ap (λ f. Some f) (same_id root file (sym one)))
        | false ↦ λ e g.
            let linked : is_linked tree file ≡ true = elim (is_linked tree file) as (λ b. not b ≡ false → b ≡ true) [ true ↦ λ k. refl | false ↦ λ k. cc ] g in
            let at = child_from_linked tree file linked in
            is.links_are_reached at.0 at.1 file at.2
      ] refl h

module _ (tree : Tree) (dir : FileId) (name : List ℕ) (kind : MadeKind) (perm : Perm) (is : IsTree tree) (is_dir : kind_of tree dir ≡ Some Dir) (is_reached : is_unlinked tree dir ≡ false) (free : child_of tree dir name ≡ None) (is_name : IsNameText name) (fits : tree.next_file < end_of_files) where
  abbrev more : Tree
  more = created tree dir name kind perm

  link_stays : (d : FileId) (n : List ℕ) (file : FileId) → child_of tree d n ≡ Some file → child_of more d n ≡ Some file
  link_stays d n file h =
      child_of-created_elsewhere tree dir name kind perm d n (λ w. let e = ap (λ (f : FileId). child_of tree f n) w.0 in let g = ap (child_of tree dir) w.1 in cc (e, g, h, free)) ∙ h

  file_stays : (file : FileId) (f : File) → file_of tree file ≡ Some f → file_of more file ≡ Some f
  file_stays file f h = let below = is.ids_below_next file (some-IsSome _ f h) in file_of-created_other tree dir name kind perm file (λ e. omega (arith, e, below)) ∙ h

  dir_stays : (d : FileId) → kind_of tree d ≡ Some Dir → kind_of more d ≡ Some Dir
  dir_stays d h = let below = dir_is_below tree is d h in kind_of-created_other tree dir name kind perm d (λ e. omega (arith, e, below)) ∙ h

  -- a new name and an old one give different files
  not_both : (d : FileId) (n : List ℕ) (file : FileId) → file ≡ next_file tree → child_of tree d n ≡ Some file → ⊥
  not_both d n file e h = let below = linked_is_below tree is d n file h in let id = ap (λ (f : FileId). f.0) e in omega (arith, id, below)

  one_place : (d e : FileId) (n m : List ℕ) (file : FileId) → child_of more d n ≡ Some file → child_of more e m ≡ Some file → (d ≡ e) × (n ≡ m)
  one_place d e n m file h g =
      elim (child_of-created_cases tree dir name kind perm d n file h) [
        | inl w ↦ elim (child_of-created_cases tree dir name kind perm e m file g) [
          | inl v ↦ (w.0 ∙ sym v.0, w.1 ∙ sym v.1)
          | inr old ↦ absurd (not_both e m file w.2 old)
        ]
        | inr before ↦ elim (child_of-created_cases tree dir name kind perm e m file g) [
          | inl v ↦ absurd (not_both d n file v.2 before)
          | inr old ↦ is.links_are_apart d e n m file before old
        ]
      ]

  path_stays : (path : List (List ℕ)) (file : FileId) → file_at tree root path ≡ Some file → file_at more root path ≡ Some file
  path_stays path file h = file_at-stays tree more link_stays root path file h

  pub created-IsTree : IsTree (created tree dir name kind perm)
  created-IsTree = record {
    root_is_dir = dir_stays root is.root_is_dir;
    ids_below_next = λ file h.
        let f = some-is _ h in
        elim (file_of-created_cases tree dir name kind perm file f.0 f.1) [
          | inl w ↦ omega (arith, w.0)
          | inr old ↦ let below = is.ids_below_next file (some-IsSome _ f.0 old) in omega (arith, below)
        ];
    next_fits = omega (arith, fits);
    has_manifest_files = λ file f h. file_stays file f (is.has_manifest_files file f h);
    others_are_later = λ file f h. elim (file_of-created_cases tree dir name kind perm file f h) [
      | inl w ↦ inr (omega (arith, w.0, next_is_later tree is), (kind, ap (λ (x : File). x.kind) (sym w.1), ap (λ (x : File). x.size) (sym w.1)))
      | inr old ↦ is.others_are_later file f old
    ];
    links_have_names = λ d n file h. elim (child_of-created_cases tree dir name kind perm d n file h) [ inl w ↦ subst IsNameText (sym w.1) is_name | inr old ↦ is.links_have_names d n file old ];
    links_give_files = λ d n file h. elim (child_of-created_cases tree dir name kind perm d n file h) [
      | inl w ↦ some-IsSome _ (made_file kind perm) (ap (file_of more) w.2 ∙ file_of-created tree dir name kind perm)
      | inr old ↦ let f = some-is _ (is.links_give_files d n file old) in some-IsSome _ f.0 (file_stays file f.0 f.1)
    ];
    links_stand_in_dirs = λ d n file h. elim (child_of-created_cases tree dir name kind perm d n file h) [
      | inl w ↦ dir_stays d (ap (kind_of tree) w.0 ∙ is_dir)
      | inr old ↦ dir_stays d (is.links_stand_in_dirs d n file old)
    ];
    root_has_no_link = λ d n file h. elim (child_of-created_cases tree dir name kind perm d n file h) [
      | inl w ↦ let below = dir_is_below tree is root is.root_is_dir in let id = ap (λ (f : FileId). f.0) w.2 in omega (arith, below, id)
      | inr old ↦ is.root_has_no_link d n file old
    ];
    links_are_apart = one_place;
    links_are_reached = λ d n file h. elim (child_of-created_cases tree dir name kind perm d n file h) [
      | inl w ↦
          let to_dir = reached tree is dir is_reached in
          (to_dir.0 ++ name ∷ [], file_at-below more root dir to_dir.0 name (next_file tree) (path_stays to_dir.0 dir to_dir.1) (child_of-created tree dir name kind perm) ∙ ap (λ f. Some f) (sym w.2))
      | inr old ↦ let to_file = is.links_are_reached d n file old in (to_file.0, path_stays to_file.0 file to_file.1)
    ];
  }
