-- Of every tree: no file is above its own directory, and a directory with a link in it is the root or linked.
use Rattle.std.proofs.Common.{◌≡◌, ◌+◌, ◌⊎◌, ◌==◌, ℕ, zero, suc, false, true, List, [], ◌∷◌, length, Some, None, refl, sym, ap, ◌∙◌, inl, inr, arith, eq-eqb}
use Rattle.std.specs.Option.{option_and_then}
use Rattle.eden_base.specs.declared.number.FileId.{FileId}
use Rattle.manifest.specs.Tree.{Tree, IsTree, child_of, file_at, root}
use Rattle.checkout.specs.ChangedTree.{is_linked}
use Rattle.checkout.proofs.LinkLaws.{linked_from_child}

-- the last link of a path
record LastLink (t : Tree) (from : FileId) (path : List (List ℕ)) (file : FileId) : Type 0 where
  front : List (List ℕ)
  dir : FileId
  name : List ℕ
  longer : length path ≡ length front + 1
  to_dir : file_at t from front ≡ Some dir
  link : child_of t dir name ≡ Some file

last_link : (t : Tree) (from : FileId) (path : List (List ℕ)) (file : FileId) → file_at t from path ≡ Some file → (path ≡ []) ⊎ LastLink t from path file
last_link t from [] file h = inl refl
last_link t from (name ∷ path) file h =
    elim (child_of t from name) as (λ o. child_of t from name ≡ o → option_and_then (λ (child : FileId). file_at t child path) o ≡ Some file → (name ∷ path ≡ []) ⊎ LastLink t from (name ∷ path) file) [
      | None ↦ λ e g. absurd (cc)
      | Some child ↦ λ e g. inr (elim (last_link t child path file g) [
        | inl none ↦
            let at : Some child ≡ Some file = ap (file_at t child) (sym none) ∙ g in
            record { front = []; dir = from; name = name; longer = ap (λ p. length (name ∷ p)) none; to_dir = refl; link = e ∙ at }
        | inr r ↦ record {
          front = name ∷ r.front;
          dir = r.dir;
          name = r.name;
          longer = let l = r.longer in omega (arith, l);
          to_dir = ap (option_and_then (λ (c : FileId). file_at t c r.front)) e ∙ r.to_dir;
          link = r.link;
        }
      ])
    ] refl h

module _ (t : Tree) (is : IsTree t) where
  not_root : (dir : FileId) (name : List ℕ) (file : FileId) → child_of t dir name ≡ Some file → root ≡ file → ⊥
  not_root dir name file link same =
      let above = is.root_has_no_link dir name file link in
      let one = ap (λ (f : FileId). f.0) same in
      omega (arith, above, one)

  -- a circle would have a file nearer to the root, and so on
  no_circle : (n : ℕ) (path : List (List ℕ)) → length path ≡ n → (file dir : FileId) (name : List ℕ) (names : List (List ℕ)) →
      file_at t root path ≡ Some file → child_of t dir name ≡ Some file → file_at t file names ≡ Some dir → ⊥
  no_circle zero [] len file dir name names to_file link back = not_root dir name file link (let same : root ≡ file = cc in same)
  no_circle zero (n ∷ path) len file dir name names to_file link back = omega (arith, len)
  no_circle (suc n) path len file dir name names to_file link back =
      elim (last_link t root path file to_file) [
        | inl none ↦ let zero_long = ap length none in omega (arith, len, zero_long)
        | inr r ↦
            let at = (is.links_are_apart r.dir dir r.name name file r.link link).0 in
            let to_dir = r.to_dir ∙ ap (λ d. Some d) at in
            let shorter : length r.front ≡ n = let l = r.longer in omega (arith, l, len) in
            elim (last_link t file names dir back) [
              | inl none ↦
                  let same : Some file ≡ Some dir = ap (file_at t file) (sym none) ∙ back in
                  no_circle n r.front shorter dir dir name [] to_dir (link ∙ same) refl
              | inr q ↦ no_circle n r.front shorter dir q.dir q.name (name ∷ q.front) to_dir q.link (ap (option_and_then (λ (c : FileId). file_at t c q.front)) link ∙ q.to_dir)
            ]
      ]

  pub not_above_itself : (dir : FileId) (name : List ℕ) (file : FileId) (names : List (List ℕ)) → child_of t dir name ≡ Some file → file_at t file names ≡ Some dir → ⊥
  not_above_itself dir name file names link back =
      let path = is.links_are_reached dir name file link in
      no_circle (length path.0) path.0 refl file dir name names path.1 link back

  pub dir_is_linked : (dir : FileId) (name : List ℕ) (file : FileId) → child_of t dir name ≡ Some file → (dir.0 == 1) ≡ false → is_linked t dir ≡ true
  dir_is_linked dir name file link other =
      let path = is.links_are_reached dir name file link in
      elim (last_link t root path.0 file path.1) [
        | inl none ↦ let same : Some root ≡ Some file = ap (file_at t root) (sym none) ∙ path.1 in absurd (not_root dir name file link (let e : root ≡ file = cc in e))
        | inr r ↦
            let at = (is.links_are_apart r.dir dir r.name name file r.link link).0 in
            let to_dir = r.to_dir ∙ ap (λ d. Some d) at in
            elim (last_link t root r.front dir to_dir) [
              | inl none ↦
                  let same : Some root ≡ Some dir = ap (file_at t root) (sym none) ∙ to_dir in
                  let e : root ≡ dir = cc in
                  let one = eq-eqb dir.0 1 (sym (ap (λ (f : FileId). f.0) e)) in
                  absurd (cc (one, other))
              | inr q ↦ linked_from_child t q.dir q.name dir q.link
            ]
      ]
