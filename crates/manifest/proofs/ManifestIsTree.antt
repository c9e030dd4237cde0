-- What a manifest says is a tree.
use Rattle.std.proofs.Common.{◌≡◌, ℕ, zero, suc, ◌+◌, ◌<◌, List, [], ◌∷◌, ◌++◌, length, Option, Some, None, IsSome, refl, sym, ap, subst, ◌∙◌, inl, inr, arith}
use Rattle.std.specs.List.{slice_get}
use Rattle.std.specs.Option.{option_map, option_and_then}
use Rattle.std.specs.FinMap.{get}
use Rattle.eden_base.proofs.MemberLemmas.{some-IsSome}
use Rattle.eden_base.specs.Name.{IsNameText}
use Rattle.eden_base.specs.declared.attr.Kind.TheVariants.{Dir}
use Rattle.eden_base.specs.declared.number.FileId.{FileId}
use Rattle.manifest.specs.Manifest.{File, Line, Manifest, IsDirBefore, IsManifest}
use Rattle.manifest.specs.Tree.{Tree, files_from, root, tree_of, kind_of, child_of, file_at, IsTree}
use Rattle.manifest.proofs.MoreLines.{apart}
use Rattle.manifest.proofs.PathLaws.{file_at-append}
use Rattle.manifest.proofs.ManifestTree.{file_with, same_id, IsLinkOf, line_of_link, link_of_line, root_of_files, file_of_line, id_of_file}

module _ (m : Manifest) (is : IsManifest m) where
  abbrev tree : Tree
  tree = tree_of m

  kind_of_line : (i : ℕ) (line : Line) → slice_get m.lines i ≡ Some line → (file : FileId) → file.0 ≡ i + 2 → kind_of tree file ≡ Some line.file.kind
  kind_of_line i line here file e =
      let at : file.0 ≡ 2 + i = omega arith in
      ap (λ (o : Option File). option_map (λ (f : File). f.kind) o) (ap (get (files_from 2 m.lines)) at ∙ file_of_line 2 i m.lines line here)

  root_kind : kind_of tree root ≡ Some Dir
  root_kind = ap (λ (o : Option File). option_map (λ (f : File). f.kind) o) (root_of_files 2 m.lines (omega arith))

  dir_kind : (dir : FileId) (i : ℕ) → IsDirBefore m.lines i dir → kind_of tree dir ≡ Some Dir
  dir_kind dir i (inl e) = ap (kind_of tree) (same_id dir root e) ∙ root_kind
  dir_kind dir i (inr (j, above, lt, e, here, kind)) = kind_of_line j above here dir e ∙ ap (λ k. Some k) kind

  child_of_line : (i : ℕ) (line : Line) → slice_get m.lines i ≡ Some line → child_of tree line.dir line.name ≡ Some (file_with (2 + i))
  child_of_line i line here = link_of_line m.lines 2 i line (apart m.lines is.lines) here

  -- a line is reached by its name, after a path to its directory
  reached_below : (i : ℕ) (line : Line) → slice_get m.lines i ≡ Some line → (path : List (List ℕ)) → file_at tree root path ≡ Some line.dir → file_at tree root (path ++ line.name ∷ []) ≡ Some (file_with (2 + i))
  reached_below i line here path e =
      file_at-append tree root path (line.name ∷ []) ∙ ap (option_and_then (λ (f : FileId). file_at tree f (line.name ∷ []))) e
      ∙ ap (option_and_then (λ (child : FileId). file_at tree child [])) (child_of_line i line here)

  -- each line is reached by the names above it; no more than n lines stand above
  reached : (n i : ℕ) (line : Line) → i < n → slice_get m.lines i ≡ Some line → (path : List (List ℕ)) × (file_at tree root path ≡ Some (file_with (2 + i)))
  reached zero i line lt here = absurd (omega arith)
  reached (suc n) i line lt here =
      elim ((is.lines.each i line here).dir_before) [
        | inl e ↦ (line.name ∷ [], reached_below i line here [] (ap (λ f. Some f) (same_id root line.dir (sym e))))
        | inr w ↦
            let r = reached n w.0 w.1 (omega (arith, w.2)) w.4 in
            let same : (file_with (2 + w.0)).0 ≡ line.dir.0 = omega (arith, w.3) in
            (r.0 ++ line.name ∷ [], reached_below i line here r.0 (r.1 ∙ ap (λ f. Some f) (same_id (file_with (2 + w.0)) line.dir same)))
      ]

  file_is : (dir : FileId) (name : List ℕ) (file : FileId) → child_of tree dir name ≡ Some file → IsLinkOf m.lines 2 dir.0 name file
  file_is dir name file h = line_of_link m.lines 2 dir.0 name file h

  below_next : (q : ℕ) (o : Option File) → get (files_from 2 m.lines) q ≡ o → IsSome o → q < length m.lines + 2
  below_next q None e h = cc
  below_next q (Some f) e h = elim (id_of_file 2 m.lines q f e) [ inl one ↦ omega (arith, one) | inr lt ↦ omega (arith, lt.1) ]

  pub tree_of-IsTree : IsTree (tree_of m)
  tree_of-IsTree = record {
    root_is_dir = root_kind;
    ids_below_next = λ file h. below_next file.0 _ refl h;
    next_fits = omega (arith, is.lines.few);
    has_manifest_files = λ file f h. h;
    others_are_later = λ file f h. inl h;
    links_have_names = λ dir name file h. let r = file_is dir name file h in subst IsNameText r.name_is ((is.lines.each r.place r.line r.here).name);
    links_give_files = λ dir name file h. let r = file_is dir name file h in some-IsSome _ r.line.file (ap (get (files_from 2 m.lines)) r.file_is ∙ file_of_line 2 r.place m.lines r.line r.here);
    links_stand_in_dirs = λ dir name file h. let r = file_is dir name file h in ap (kind_of tree) (same_id dir r.line.dir (sym r.dir_is)) ∙ dir_kind r.line.dir r.place ((is.lines.each r.place r.line r.here).dir_before);
    root_has_no_link = λ dir name file h. let r = file_is dir name file h in omega (arith, r.file_is);
    links_are_apart = λ dir other name other_name file h g.
        let r = file_is dir name file h in
        let s = file_is other other_name file g in
        let at : r.place ≡ s.place = omega (arith, r.file_is, s.file_is) in
        let line : r.line ≡ s.line = let e = ap (slice_get m.lines) at in cc (r.here, s.here) in
        (same_id dir other (sym r.dir_is ∙ ap (λ (x : Line). x.dir.0) line ∙ s.dir_is), sym r.name_is ∙ ap (λ (x : Line). x.name) line ∙ s.name_is);
    links_are_reached = λ dir name file h.
        let r = file_is dir name file h in
        let p = reached (suc r.place) r.place r.line (omega arith) r.here in
        (p.0, p.1 ∙ ap (λ f. Some f) (same_id (file_with (2 + r.place)) file (sym r.file_is)));
  }
