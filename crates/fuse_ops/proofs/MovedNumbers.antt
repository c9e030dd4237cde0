-- What numbers name after a file moved to another name: each names the file that it named.
use Rattle.std.proofs.Common.{◌≡◌, ℕ, ◌<◌, true, false, List, [], ◌∷◌, ◌++◌, Option, Some, None, refl, sym, ap, ◌∙◌, subst, inl, inr, ◌⊎◌, arith, length, not, ◌&&◌, ◌==◌}
use Rattle.std.specs.Prelude.{◌↔◌}
use Rattle.eden_base.proofs.MemberLemmas.{some-none, some-same}
use Rattle.eden_base.proofs.NumberTests.{eq-false}
use Rattle.eden_base.specs.declared.number.FileId.{FileId}
use Rattle.eden_base.specs.declared.number.Number.{Number}
use Rattle.eden_base.specs.declared.place.Place.TheVariants.{Linked, Unlinked}
use Rattle.manifest.proofs.PathLaws.{file_at-below}
use Rattle.manifest.specs.Tree.{Tree, child_of}
use Rattle.checkout.proofs.RenameLaws.{child_of-renamed, place_stays}
use Rattle.checkout.proofs.RenamedLinks.{is_linked-renamed, is_linked-renamed_replaced, is_linked-renamed_other}
use Rattle.checkout.specs.ChangedTree.{is_linked, is_unlinked}
use Rattle.checkout.specs.RenamedTree.{renamed, IsAtOrAbove}
use Rattle.entry_table.proofs.Changing.{count_of-entry, count_of-none}
use Rattle.entry_table.proofs.FileLemmas.{IsFileOf-same}
use Rattle.entry_table.specs.EntryPlaces.{AreOfUseBut}
use Rattle.entry_table.specs.Entries.{entry_of, count_of, AreNumbers, IsFileOf, is_root, is_child, is_marked}
use Rattle.entry_table.specs.declared.kept.Kept.{Kept}
use Rattle.inode_map.proofs.Walking.{IsStruck, struck-keeps}
use Rattle.inode_map.specs.InodeMap.{left_of_use}
use Rattle.fuse_ops.specs.Changes.{MayMove}
use Rattle.fuse_ops.specs.Served.{ServedState}
use Rattle.fuse_ops.specs.Soundness.{IsUnlinkedPlace}
use Rattle.fuse_ops.proofs.Fits.{Fits, sound-fits, linked_is_not_unlinked}
use Rattle.fuse_ops.proofs.FitsCarried.{AreCarried, named-carried, fits-carried}
use Rattle.fuse_ops.proofs.ForgettingLaw.{IsLeft, one-left}

-- An entry and what it was. It is the file's and has the new name; or it is that of the file that stood there, and has
-- its mark; or it is of another file, and stands where it stood.
pub record WasMoved (tree : Tree) (es : List Kept) (to : Number) (to_dir : FileId) (to_name : List ℕ) (file : FileId) (m : ℕ) (now : Kept) : Type 0 where
  pub kept : Kept
  pub was : entry_of es m ≡ Some kept
  pub count : now.count ≡ kept.count
  pub how : (IsFileOf tree es m file × (now.place ≡ Linked to to_name))
      ⊎ (((u : FileId) × (child_of tree to_dir to_name ≡ Some u) × IsFileOf tree es m u × (now.place ≡ Unlinked u))
      ⊎ ((IsFileOf tree es m file → ⊥) × ((u : FileId) → child_of tree to_dir to_name ≡ Some u → IsFileOf tree es m u → ⊥) × (now.place ≡ kept.place)))

-- the entries after the move, before any is struck
pub record AreMoved (tree : Tree) (next : ℕ) (es new : List Kept) (to : Number) (to_dir : FileId) (to_name : List ℕ) (file : FileId) : Type 0 where
  pub numbers : AreNumbers 2 next new
  pub there : (m : ℕ) (kept : Kept) → entry_of es m ≡ Some kept → (now : Kept) × (entry_of new m ≡ Some now)
  pub was : (m : ℕ) (now : Kept) → entry_of new m ≡ Some now → WasMoved tree es to to_dir to_name file m now

module _ (served : ServedState) (number : Number) (dir : FileId) (name : List ℕ) (to : Number) (to_dir : FileId) (to_name : List ℕ) (file : FileId)
    (may : MayMove served number dir name to to_dir to_name file) (new : List Kept) (moved : AreMoved served.tree served.map.next served.map.entries new to to_dir to_name file) where
  abbrev tree : Tree
  tree = served.tree

  abbrev later : Tree
  later = renamed served.tree dir name to_dir to_name

  abbrev es : List Kept
  es = served.map.entries

  abbrev next : ℕ
  next = served.map.next

  fits : Fits served.tree served.map.next served.map.entries
  fits = sound-fits served may.sound

  -- the number of the new directory names it still, or the moved file stands neither at this one nor above it
  abbrev Reaches : FileId → Type 0
  Reaches f = IsFileOf later new to.0 to_dir ⊎ (IsAtOrAbove tree file f → ⊥)

  upward : (above f : FileId) (nm : List ℕ) → child_of tree above nm ≡ Some f → Reaches f → Reaches above
  upward above f nm c (inl at) = inl at
  upward above f nm c (inr never) = inr (λ up. never (up.0 ++ nm ∷ [], file_at-below tree file above up.0 nm f up.1 c))

  -- a number names its file still, if it does where its entry keeps its place
  placed : (n : ℕ) (f : FileId) (kept now : Kept) → (n ≡ 1 → ⊥) → entry_of es n ≡ Some kept → entry_of new n ≡ Some now → IsFileOf tree es n f → Reaches f →
      (now.place ≡ kept.place → (f ≡ file → ⊥) → (child_of tree to_dir to_name ≡ Some f → ⊥) → IsFileOf later new n f) → IsFileOf later new n f
  placed n f kept now not e there at reaches same = how_in w.how where
    w : WasMoved tree es to to_dir to_name file n now
    w = moved.was n now there

    own : f ≡ file → now.place ≡ Linked to to_name → Reaches f → IsFileOf later new n f
    own is place (inl dir_at) =
        subst (λ (x : FileId). IsFileOf later new n x) (sym is) (is_child n file now to to_name to_dir not there place dir_at (child_of-renamed tree dir name to_dir to_name file may.child))
    own is place (inr never) = absurd (never ([], ap (λ (x : FileId). Some x) (sym is)))

    how_in : (IsFileOf tree es n file × (now.place ≡ Linked to to_name))
        ⊎ (((u : FileId) × (child_of tree to_dir to_name ≡ Some u) × IsFileOf tree es n u × (now.place ≡ Unlinked u))
        ⊎ ((IsFileOf tree es n file → ⊥) × ((u : FileId) → child_of tree to_dir to_name ≡ Some u → IsFileOf tree es n u → ⊥) × (now.place ≡ w.kept.place))) → IsFileOf later new n f
    how_in (inl (names, place)) = own (IsFileOf-same tree es n f file at names) place reaches
    how_in (inr (inl (u, stood, names, place))) = subst (λ (x : FileId). IsFileOf later new n x) (sym (IsFileOf-same tree es n f u at names)) (is_marked n u now not there place)
    how_in (inr (inr (not_file, not_other, place))) =
        same (place ∙ ap (λ (k : Kept). k.place) (some-same (entry_of es n) w.kept kept w.was e))
        (λ is. not_file (subst (λ (x : FileId). IsFileOf tree es n x) is at)) (λ stood. not_other f stood at)

  forward : (n : ℕ) (f : FileId) → IsFileOf tree es n f → Reaches f → IsFileOf later new n f
  forward n f (is_root _ _ one same) reaches = is_root n f one same
  forward n f (is_child _ _ kept d nm above not e l up c) reaches =
      let now = moved.there n kept e in
      let rest = forward d.0 above up (upward above f nm c reaches) in
      placed n f kept now.0 not e now.1 (is_child n f kept d nm above not e l up c) reaches
      (λ place other not_there. is_child n f now.0 d nm above not now.1 (place ∙ l) rest (place_stays tree dir name to_dir to_name file may.child may.is_tree above nm f c other not_there))
  forward n f (is_marked _ _ kept not e l) reaches =
      let now = moved.there n kept e in
      placed n f kept now.0 not e now.1 (is_marked n f kept not e l) reaches (λ place other not_there. is_marked n f now.0 not now.1 (place ∙ l))

  -- the new directory isn't below the moved file
  dir_now : IsFileOf later new to.0 to_dir
  dir_now = forward to.0 to_dir may.to_at (inr may.not_above)

  -- what stood at the new name has no name
  has_none : (u : FileId) → child_of tree to_dir to_name ≡ Some u → is_unlinked later u ≡ true
  has_none u stood =
      let low : 1 < u.0 = (may.is_tree).root_has_no_link to_dir to_name u stood in
      let root : (u.0 == 1) ≡ false = eq-false u.0 1 (λ e. omega arith) in
      ap (λ b. not b && not (is_linked later u)) root ∙ ap (λ b. not b) (is_linked-renamed_replaced tree dir name to_dir to_name file may.child may.is_tree may.other u stood)

  marks : (m : ℕ) (now : Kept) (w : WasMoved tree es to to_dir to_name file m now) (f : FileId) → IsFileOf tree es m f → IsUnlinkedPlace now.place ↔ (is_unlinked later f ≡ true)
  marks m now w f at = how_in w.how where
    how_in : (IsFileOf tree es m file × (now.place ≡ Linked to to_name))
        ⊎ (((u : FileId) × (child_of tree to_dir to_name ≡ Some u) × IsFileOf tree es m u × (now.place ≡ Unlinked u))
        ⊎ ((IsFileOf tree es m file → ⊥) × ((u : FileId) → child_of tree to_dir to_name ≡ Some u → IsFileOf tree es m u → ⊥) × (now.place ≡ w.kept.place))) → IsUnlinkedPlace now.place ↔ (is_unlinked later f ≡ true)
    how_in (inl (names, place)) =
        let is : f ≡ file = IsFileOf-same tree es m f file at names in
        let linked : is_linked later file ≡ true = is_linked-renamed tree dir name to_dir to_name file may.child may.is_tree in
        (λ q. absurd (subst IsUnlinkedPlace place q), λ q. absurd (linked_is_not_unlinked later file linked (subst (λ (x : FileId). is_unlinked later x ≡ true) is q)))
    how_in (inr (inl (u, stood, names, place))) =
        let is : f ≡ u = IsFileOf-same tree es m f u at names in
        (λ q. ap (is_unlinked later) is ∙ has_none u stood, λ q. subst IsUnlinkedPlace (sym place) tt)
    how_in (inr (inr (not_file, not_other, place))) =
        let alike : is_unlinked later f ≡ is_unlinked tree f =
        ap (λ b. not (f.0 == 1) && not b) (is_linked-renamed_other tree dir name to_dir to_name file may.child may.is_tree f (λ stood. not_other f stood at)) in
        let u = fits.unlinked_alike m w.kept f w.was at in
        (λ q. alike ∙ u.0 (subst IsUnlinkedPlace place q), λ q. subst IsUnlinkedPlace (sym place) (u.1 (sym alike ∙ q)))

  carried : AreCarried served.tree (renamed served.tree dir name to_dir to_name) served.map.next served.map.entries new
  carried = record {
    numbers = moved.numbers;
    forward = λ n f at. forward n f at (inl dir_now);
    was = λ m now e. let w = moved.was m now e in record { kept = w.kept; was = w.was; count = w.count; marks = λ f at. marks m now w f at };
    files = λ f there. there;
  }

  pub moved-fits : Fits (renamed served.tree dir name to_dir to_name) served.map.next new
  moved-fits = fits-carried tree later next es new fits carried

  pub moved-names : (n : ℕ) (f : FileId) → IsFileOf (renamed served.tree dir name to_dir to_name) new n f → IsFileOf served.tree served.map.entries n f
  moved-names = named-carried tree later next es new fits carried

  pub moved-counts : (m : ℕ) → count_of new m ≡ count_of served.map.entries m
  moved-counts m = in_ (entry_of new m) refl where
    none_in : (o : Option Kept) → entry_of es m ≡ o → entry_of new m ≡ None → count_of es m ≡ 0
    none_in None e none = count_of-none es m e
    none_in (Some kept) e none = let now = moved.there m kept e in absurd (some-none (entry_of new m) now.0 now.1 none)

    in_ : (o : Option Kept) → entry_of new m ≡ o → count_of new m ≡ count_of es m
    in_ None e = count_of-none new m e ∙ sym (none_in (entry_of es m) refl e)
    in_ (Some now) e = let w = moved.was m now e in count_of-entry new m now e ∙ w.count ∙ sym (count_of-entry es m w.kept w.was)

  -- what is left of them once those of no use were struck
  pub moved-left : (but : Option ℕ) → AreOfUseBut but new → IsStruck (IsLeft (renamed served.tree dir name to_dir to_name) served.map.next new) 2 served.map.next (left_of_use new)
  moved-left but useful = struck-keeps (IsLeft later next new) 2 next (λ xs m numbers useless so_far. one-left later next new xs m useless so_far)
      (length new) but new (omega arith) moved.numbers useful
      (record { fits = moved-fits; counts = λ m. refl; names = λ m f at. at })
