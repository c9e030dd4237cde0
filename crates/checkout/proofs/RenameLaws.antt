-- A tree in which a file moved from one name to another.
use Rattle.std.proofs.Common.{◌≡◌, ℕ, ◌==◌, ◌&&◌, not, true, false, if◌then◌else◌, List, [], ◌∷◌, ◌++◌, Some, None, refl, sym, ap, subst, ◌∙◌, ◌⊎◌, inl, inr, arith}
use Rattle.std.proofs.lemmas.Bool.{not-true}
use Rattle.std.proofs.lemmas.Bool.Decides.{nat_tests}
use Rattle.std.specs.FinMap.{FinMap, get, insert, remove}
use Rattle.std.specs.Option.{option_and_then}
use Rattle.eden_base.specs.Name.{IsNameText}
use Rattle.eden_base.specs.declared.attr.Kind.TheVariants.{Dir}
use Rattle.eden_base.specs.declared.number.FileId.{FileId}
use Rattle.manifest.specs.Tree.{Tree, root, kind_of, child_of, file_at, is_dir, IsTree, link_cmp}
use Rattle.checkout.specs.Changed.{put}
use Rattle.checkout.specs.ChangedTree.{has_links, is_empty_dir, is_full_dir, is_unlinked}
use Rattle.checkout.specs.RenamedTree.{can_replace, renamed, IsAtOrAbove}
use Rattle.checkout.proofs.CreateLaws.{IsElsewhere, reached}
use Rattle.checkout.proofs.RemoveLaws.{no_links_below, not_full-from_empty}
use Rattle.manifest.proofs.FlatLemmas.{link_cmp_total, link_cmp-same}
use Rattle.manifest.proofs.ManifestTree.{same_id}
use Rattle.manifest.proofs.MapLemmas.{get-insert_cases, get-insert_same, get-insert_other, get-remove_cases, get-remove_other}
use Rattle.manifest.proofs.PathLaws.{file_at-below}

-- a file that may be replaced is no directory with links
pub not_full-from_replaced : (tree : Tree) (file replaced : FileId) → can_replace tree file replaced ≡ true → is_full_dir tree replaced ≡ false
not_full-from_replaced tree file replaced h =
    elim (is_dir (kind_of tree file)) as (λ b. (if b then is_empty_dir tree replaced else not (is_dir (kind_of tree replaced))) ≡ true → is_full_dir tree replaced ≡ false) [
      | true ↦ λ k. not_full-from_empty tree replaced k
      | false ↦ λ k. ap (λ b. b && has_links tree replaced) (not-true (is_dir (kind_of tree replaced)) k)
    ] h

module _ (tree : Tree) (dir : FileId) (name : List ℕ) (to_dir : FileId) (to_name : List ℕ) (file : FileId) (there : child_of tree dir name ≡ Some file) where
  abbrev new : Tree
  new = renamed tree dir name to_dir to_name

  abbrev rest : FinMap link_cmp FileId
  rest = remove tree.links (dir.0, name)

  pub links-renamed : new.links ≡ insert rest (to_dir.0, to_name) file
  links-renamed = ap (put rest (to_dir.0, to_name)) there

  link_at : (d : FileId) (n : List ℕ) → child_of new d n ≡ get (insert rest (to_dir.0, to_name) file) (d.0, n)
  link_at d n = ap (λ (links : FinMap link_cmp FileId). get links (d.0, n)) links-renamed

  apart_keys : (d e : FileId) (n m : List ℕ) → IsElsewhere d n e m → ◌≡◌ {A = ℕ × List ℕ} (d.0, n) (e.0, m) → ⊥
  apart_keys d e n m other same = other (same_id d e (ap (λ (k : ℕ × List ℕ). k.0) same), ap (λ (k : ℕ × List ℕ). k.1) same)

  -- the file is under its new name, its old one gives nothing, and every other name gives what it gave
  pub child_of-renamed : child_of new to_dir to_name ≡ Some file
  child_of-renamed = link_at to_dir to_name ∙ get-insert_same link_cmp_total rest (to_dir.0, to_name) file

  pub child_of-renamed_elsewhere : (d : FileId) (n : List ℕ) → IsElsewhere d n dir name → IsElsewhere d n to_dir to_name → child_of new d n ≡ child_of tree d n
  child_of-renamed_elsewhere d n other too =
      link_at d n ∙ get-insert_other link_cmp_total link_cmp-same rest (to_dir.0, to_name) file (d.0, n) (apart_keys d to_dir n to_name too)
      ∙ get-remove_other link_cmp_total link_cmp-same tree.links (dir.0, name) (d.0, n) (apart_keys d dir n name other)

  pub child_of-renamed_cases : (d : FileId) (n : List ℕ) (g : FileId) → child_of new d n ≡ Some g → ((d ≡ to_dir) × (n ≡ to_name) × (g ≡ file)) ⊎ ((child_of tree d n ≡ Some g) × IsElsewhere d n dir name)
  child_of-renamed_cases d n g h =
      elim (get-insert_cases link_cmp_total link_cmp-same rest (to_dir.0, to_name) file (d.0, n) g (sym (link_at d n) ∙ h)) [
        | inl w ↦ inl (same_id d to_dir (ap (λ (k : ℕ × List ℕ). k.0) w.0), ap (λ (k : ℕ × List ℕ). k.1) w.0, sym w.1)
        | inr old ↦
            let w = get-remove_cases link_cmp_total link_cmp-same tree.links (dir.0, name) (d.0, n) g old in
            inr (w.0, λ same. w.1 (λ i. ((same.0 i).0, same.1 i)))
      ]

  module _ (is : IsTree tree) where
    -- a file that stands at one place isn't at another
    pub not_at : (d e : FileId) (n m : List ℕ) (f g : FileId) → child_of tree d n ≡ Some f → child_of tree e m ≡ Some g → (f ≡ g → ⊥) → IsElsewhere d n e m
    not_at d e n m f g here too other same =
        let at = ap (λ (x : FileId). child_of tree x n) same.0 ∙ ap (child_of tree e) same.1 in
        let one : f ≡ g = cc (here, at, too) in
        other one

    -- another file keeps its place, unless it stood under the new name
    pub place_stays : (d : FileId) (n : List ℕ) (g : FileId) → child_of tree d n ≡ Some g → (g ≡ file → ⊥) → (child_of tree to_dir to_name ≡ Some g → ⊥) → child_of new d n ≡ Some g
    place_stays d n g h other not_there =
        child_of-renamed_elsewhere d n (not_at d dir n name g file h there other)
        (λ same. not_there (sym (ap (λ (x : FileId). child_of tree x n) same.0 ∙ ap (child_of tree to_dir) same.1) ∙ h)) ∙ h

    -- what stood at the new name has no place now
    pub no_place : (child_of tree to_dir to_name ≡ Some file → ⊥) → (d : FileId) (n : List ℕ) (u : FileId) → child_of tree to_dir to_name ≡ Some u → child_of new d n ≡ Some u → ⊥
    no_place other d n u at h =
        elim (child_of-renamed_cases d n u h) [
          | inl w ↦ other (at ∙ ap (λ (x : FileId). Some x) w.2)
          | inr old ↦
              let same = is.links_are_apart d to_dir n to_name u old.0 at in
              let now = sym (ap (λ (x : FileId). child_of new x n) same.0 ∙ ap (child_of new to_dir) same.1) ∙ h in
              let one : u ≡ file = let moved = child_of-renamed in cc (now, moved) in
              other (at ∙ ap (λ (x : FileId). Some x) one)
        ]

    module _ (full : (u : FileId) → child_of tree to_dir to_name ≡ Some u → is_full_dir tree u ≡ false) where
      -- a file under which names lead on doesn't stand at the new name
      pub leads_on : (c m : FileId) (n : List ℕ) → child_of tree c n ≡ Some m → child_of tree to_dir to_name ≡ Some c → ⊥
      leads_on c m n h at = let none = no_links_below tree c is (full c at) n in cc (h, none)

      -- nor does one from which names lead to a file that doesn't stand there
      pub not_at_new : (c g : FileId) (names : List (List ℕ)) → file_at tree c names ≡ Some g → (child_of tree to_dir to_name ≡ Some g → ⊥) → child_of tree to_dir to_name ≡ Some c → ⊥
      not_at_new c g [] k not_there at = not_there (at ∙ k)
      not_at_new c g (m ∷ ns) k not_there at =
          let ends = ap (option_and_then (λ (x : FileId). file_at tree x ns)) (no_links_below tree c is (full c at) m) in
          cc (k, ends)

      abbrev pub Reaches : FileId → Type 0
      Reaches g = (path : List (List ℕ)) × (file_at new root path ≡ Some g)

      -- names that lead from a file that is reached to one that stood elsewhere than at the new name reach it still. If they
      -- lead through the moved file it has to be reached, too
      pub reaches_on : (names : List (List ℕ)) (from g : FileId) → Reaches from → file_at tree from names ≡ Some g → (child_of tree to_dir to_name ≡ Some g → ⊥) →
          Reaches file ⊎ (IsAtOrAbove tree file g → ⊥) → Reaches g
      reaches_on [] from g r h not_there moved = let e : from ≡ g = cc in subst Reaches e r
      reaches_on (n ∷ names) from g r h not_there moved =
          elim (child_of tree from n) as (λ o. child_of tree from n ≡ o → option_and_then (λ (c : FileId). file_at tree c names) o ≡ Some g → Reaches g) [
            | None ↦ λ e k. absurd (cc)
            | Some c ↦ λ e k. elim (c.0 == file.0) as (λ b. (c.0 == file.0) ≡ b → Reaches g) [
              | true ↦ λ t.
                  let id : c.0 ≡ file.0 = grind (arith, nat_tests) in
                  let down = ap (λ (x : FileId). file_at tree x names) (sym (same_id c file id)) ∙ k in
                  elim moved [ inl at ↦ reaches_on names file g at down not_there (inl at) | inr never ↦ absurd (never (names, down)) ]
              | false ↦ λ t.
                  let stays = place_stays from n c e (λ same. let yes : (c.0 == file.0) ≡ true = let id = ap (λ (x : FileId). x.0) same in grind (arith, nat_tests) in cc (yes, t)) (not_at_new c g names k not_there) in
                  reaches_on names c g (r.0 ++ n ∷ [], file_at-below new root from r.0 n c r.1 stays) k not_there moved
            ] refl
          ] refl h

      module _ (is_dir : kind_of tree to_dir ≡ Some Dir) (is_reached : is_unlinked tree to_dir ≡ false) (other : child_of tree to_dir to_name ≡ Some file → ⊥) (not_above : IsAtOrAbove tree file to_dir → ⊥) where
        -- the new directory is reached, and so is the file
        pub reaches_dir : Reaches to_dir
        reaches_dir =
            let at = reached tree is to_dir is_reached in
            reaches_on at.0 root to_dir ([], refl) at.1 (λ itself. leads_on to_dir to_dir to_name itself itself) (inr not_above)

        pub reaches_file : Reaches file
        reaches_file = (reaches_dir.0 ++ to_name ∷ [], file_at-below new root to_dir reaches_dir.0 to_name file reaches_dir.1 child_of-renamed)

        one_place : (d e : FileId) (n m : List ℕ) (g : FileId) → child_of new d n ≡ Some g → child_of new e m ≡ Some g → (d ≡ e) × (n ≡ m)
        one_place d e n m g h k =
            elim (child_of-renamed_cases d n g h) [
              | inl w ↦ elim (child_of-renamed_cases e m g k) [
                | inl v ↦ (w.0 ∙ sym v.0, w.1 ∙ sym v.1)
                | inr old ↦ absurd (old.1 (is.links_are_apart e dir m name file (old.0 ∙ ap (λ (x : FileId). Some x) w.2) there))
              ]
              | inr before ↦ elim (child_of-renamed_cases e m g k) [
                | inl v ↦ absurd (before.1 (is.links_are_apart d dir n name file (before.0 ∙ ap (λ (x : FileId). Some x) v.2) there))
                | inr old ↦ is.links_are_apart d e n m g before.0 old.0
              ]
            ]

        pub renamed-IsTree : IsNameText to_name → IsTree (renamed tree dir name to_dir to_name)
        renamed-IsTree is_name = record {
          root_is_dir = is.root_is_dir;
          ids_below_next = is.ids_below_next;
          next_fits = is.next_fits;
          has_manifest_files = is.has_manifest_files;
          others_are_later = is.others_are_later;
          links_have_names = λ d n g h. elim (child_of-renamed_cases d n g h) [ inl w ↦ subst IsNameText (sym w.1) is_name | inr old ↦ is.links_have_names d n g old.0 ];
          links_give_files = λ d n g h. elim (child_of-renamed_cases d n g h) [
            | inl w ↦ is.links_give_files dir name g (there ∙ ap (λ (x : FileId). Some x) (sym w.2))
            | inr old ↦ is.links_give_files d n g old.0
          ];
          links_stand_in_dirs = λ d n g h. elim (child_of-renamed_cases d n g h) [ inl w ↦ ap (kind_of tree) w.0 ∙ is_dir | inr old ↦ is.links_stand_in_dirs d n g old.0 ];
          root_has_no_link = λ d n g h. elim (child_of-renamed_cases d n g h) [
            | inl w ↦ is.root_has_no_link dir name g (there ∙ ap (λ (x : FileId). Some x) (sym w.2))
            | inr old ↦ is.root_has_no_link d n g old.0
          ];
          links_are_apart = one_place;
          links_are_reached = λ d n g h. elim (child_of-renamed_cases d n g h) [
            | inl w ↦ subst Reaches (sym w.2) reaches_file
            | inr old ↦
                let to_file = is.links_are_reached d n g old.0 in
                reaches_on to_file.0 root g ([], refl) to_file.1 (λ at. no_place other d n g at h) (inl reaches_file)
          ];
        }
