-- What numbers name when a name is taken away: the number of its file keeps the file by a mark.
use Rattle.std.proofs.Common.{◌≡◌, ℕ, ◌<◌, true, false, List, Option, Some, None, refl, sym, ap, ◌∙◌, subst, inl, inr, ◌⊎◌, arith, length, not, ◌&&◌, ◌==◌}
use Rattle.std.specs.Option.{option_map, option_map_or}
use Rattle.eden_base.proofs.MemberLemmas.{some-same, first-passes}
use Rattle.eden_base.proofs.NumberTests.{eq-false, eq-or}
use Rattle.eden_base.specs.First.{changed_where}
use Rattle.eden_base.specs.declared.number.FileId.{FileId}
use Rattle.eden_base.specs.declared.number.Number.{Number}
use Rattle.checkout.proofs.RemoveLaws.{child_of-removed_elsewhere, is_linked-removed, is_linked-removed_other}
use Rattle.manifest.specs.Tree.{Tree, child_of}
use Rattle.checkout.specs.ChangedTree.{is_linked, is_unlinked, removed}
use Rattle.entry_table.proofs.Changing.{count_of-entry, count_of-alike}
use Rattle.entry_table.proofs.EntryLemmas.{changed-same, changed-other, entry_of-first, numbers-changed}
use Rattle.entry_table.proofs.FileLemmas.{IsFileOf-same}
use Rattle.entry_table.proofs.Places.{stands-place}
use Rattle.inode_map.proofs.Pruning.{marked-others}
use Rattle.inode_map.proofs.Walking.{IsStruck, struck-keeps}
use Rattle.entry_table.specs.Entries.{has_number, stands_at, entry_of, entry_at, count_of, marked, IsFileOf, is_root, is_child, is_marked}
use Rattle.inode_map.specs.InodeMap.{left_of_use, unlinked}
use Rattle.entry_table.specs.declared.kept.Kept.{Kept}
use Rattle.fuse_ops.specs.Changes.{KeepsNames, MayLose, UnnamingLaw}
use Rattle.fuse_ops.specs.Served.{ServedState}
use Rattle.fuse_ops.proofs.Fits.{Fits, sound-fits, sound-of_use, fits-sound, named-apart, place-file, no-place-no_file}
use Rattle.fuse_ops.proofs.FitsOver.{WasNamed, IsCarried, named-before, fits-over}
use Rattle.fuse_ops.proofs.ForgettingLaw.{IsLeft, one-left}

module _ (served : ServedState) (number : Number) (dir : FileId) (name : List ℕ) (file : FileId) (may : MayLose served number dir name file) where
  abbrev tree : Tree
  tree = served.tree

  abbrev fewer : Tree
  fewer = removed served.tree dir name

  abbrev es : List Kept
  es = served.map.entries

  abbrev next : ℕ
  next = served.map.next

  fits : Fits served.tree served.map.next served.map.entries
  fits = sound-fits served may.sound

  -- a file that keeps its name
  keeps_name : (above : FileId) (nm : List ℕ) (f : FileId) → child_of tree above nm ≡ Some f → (f ≡ file → ⊥) → child_of fewer above nm ≡ Some f
  keeps_name above nm f c other =
      child_of-removed_elsewhere tree dir name above nm
      (λ w. other (let a = ap (λ (x : FileId). child_of tree x nm) w.0 in let b = ap (child_of tree dir) w.1 in let there = may.child in cc (a, b, c, there))) ∙ c

  alike : (f : FileId) → (f ≡ file → ⊥) → is_unlinked fewer f ≡ is_unlinked tree f
  alike f other = ap (λ b. not (f.0 == 1) && not b) (is_linked-removed_other tree dir name file may.is_tree may.child may.not_full f other)

  -- the file has no name any more
  has_none : is_unlinked fewer file ≡ true
  has_none =
      let low : 1 < file.0 = (may.is_tree).root_has_no_link dir name file may.child in
      let root : (file.0 == 1) ≡ false = eq-false file.0 1 (λ e. omega arith) in
      ap (λ b. not b && not (is_linked fewer file)) root ∙ ap (λ b. not b) (is_linked-removed tree dir name file may.is_tree may.child may.not_full)

  -- ---- the file has no number

  module _ (absent : entry_at served.map.entries number.0 name ≡ None) where
    nobody : (m : ℕ) → IsFileOf tree es m file → ⊥
    nobody m at = no-place-no_file tree next es may.is_tree fits number.0 dir file name may.at may.child absent m at

    stays_all : (n : ℕ) (f : FileId) → IsFileOf tree es n f → IsFileOf fewer es n f
    stays_all n f (is_root _ _ one same) = is_root n f one same
    stays_all n f (is_child _ _ kept d nm above not e l up c) =
        is_child n f kept d nm above not e l (stays_all d.0 above up)
        (keeps_name above nm f c (λ same. nobody n (subst (λ (x : FileId). IsFileOf tree es n x) same (is_child n f kept d nm above not e l up c))))
    stays_all n f (is_marked _ _ kept not e l) = is_marked n f kept not e l

    carried-unnumbered : IsCarried served.tree (removed served.tree dir name) served.map.next served.map.entries served.map.entries file
    carried-unnumbered = record {
      numbers = fits.numbers;
      forward = stays_all;
      was = λ m now e. record { kept = now; was = e; count = refl; how = inl (refl, nobody m) };
      files = λ f there. there;
      alike = alike;
    }

    pub unnumbered-keeps : KeepsNames served (record served { tree = removed served.tree dir name })
    unnumbered-keeps = record {
      sound = fits-sound (record served { tree = fewer }) (fits-over tree fewer next es es file fits carried-unnumbered) (sound-of_use served may.sound);
      counts = λ n. refl;
      names = named-before tree fewer next es es file fits carried-unnumbered;
      next = refl;
    }

  -- ---- the file has a number

  module _ (kept : Kept) (there : entry_at served.map.entries number.0 name ≡ Some kept) where
    abbrev k : ℕ
    k = kept.number.0

    abbrev new : List Kept
    new = changed_where (has_number kept.number.0) (marked file) served.map.entries

    entry : entry_of es k ≡ Some kept
    entry = entry_of-first es 2 next (stands_at number.0 name) kept fits.numbers there

    names : IsFileOf tree es k file
    names = place-file tree next es fits number.0 kept dir file name may.at may.child there

    now_marked : entry_of new k ≡ Some (marked file kept)
    now_marked = changed-same es k (marked file) (λ x. refl) ∙ ap (option_map (marked file)) entry

    same-other : (m : ℕ) → (m ≡ k → ⊥) → entry_of new m ≡ entry_of es m
    same-other m other = changed-other es k m (marked file) (λ x. refl) other

    -- the number itself
    here : (n : ℕ) (f : FileId) → (n ≡ 1 → ⊥) → n ≡ k → IsFileOf tree es n f → IsFileOf fewer new n f
    here n f not same at =
        let is : f ≡ file = IsFileOf-same tree es k f file (subst (λ (j : ℕ). IsFileOf tree es j f) same at) names in
        subst (λ (x : FileId). IsFileOf fewer new n x) (sym is) (is_marked n file (marked file kept) not (ap (entry_of new) same ∙ now_marked) refl)

    apart : (n : ℕ) (f : FileId) → (n ≡ k → ⊥) → IsFileOf tree es n f → f ≡ file → ⊥
    apart n f other at same = other (named-apart tree next es may.is_tree fits n k file (subst (λ (x : FileId). IsFileOf tree es n x) same at) names)

    forward : (n : ℕ) (f : FileId) → IsFileOf tree es n f → IsFileOf fewer new n f
    forward n f (is_root _ _ one same) = is_root n f one same
    forward n f (is_child _ _ x d nm above not e l up c) = in_ (eq-or n k) (forward d.0 above up) where
      in_ : (n ≡ k) ⊎ (n ≡ k → ⊥) → IsFileOf fewer new d.0 above → IsFileOf fewer new n f
      in_ (inl same) later = here n f not same (is_child n f x d nm above not e l up c)
      in_ (inr other) later = is_child n f x d nm above not (same-other n other ∙ e) l later (keeps_name above nm f c (apart n f other (is_child n f x d nm above not e l up c)))
    forward n f (is_marked _ _ x not e l) = in_ (eq-or n k) where
      in_ : (n ≡ k) ⊎ (n ≡ k → ⊥) → IsFileOf fewer new n f
      in_ (inl same) = here n f not same (is_marked n f x not e l)
      in_ (inr other) = is_marked n f x not (same-other n other ∙ e) l

    was : (m : ℕ) (now : Kept) → entry_of new m ≡ Some now → WasNamed tree fewer es file m now
    was m now e = in_ (eq-or m k) where
      in_ : (m ≡ k) ⊎ (m ≡ k → ⊥) → WasNamed tree fewer es file m now
      in_ (inl same) =
          let is : now ≡ marked file kept = some-same (entry_of new k) now (marked file kept) (subst (λ (j : ℕ). entry_of new j ≡ Some now) same e) now_marked in
          record {
            kept = kept;
            was = ap (entry_of es) same ∙ entry;
            count = ap (λ (x : Kept). x.count) is;
            how = inr (ap (λ (x : Kept). x.place) is, subst (λ (j : ℕ). IsFileOf tree es j file) (sym same) names, has_none);
          }
      in_ (inr other) = record { kept = now; was = sym (same-other m other) ∙ e; count = refl; how = inl (refl, λ at. apart m file other at refl) }

    carried-marked : IsCarried served.tree (removed served.tree dir name) served.map.next served.map.entries (changed_where (has_number kept.number.0) (marked file) served.map.entries) file
    carried-marked = record {
      numbers = numbers-changed es 2 next (has_number k) (marked file) (λ x. refl) fits.numbers;
      forward = forward;
      was = was;
      files = λ f there. there;
      alike = alike;
    }

    marked-fits : Fits fewer next new
    marked-fits = fits-over tree fewer next es new file fits carried-marked

    count_in : (n : ℕ) → (n ≡ k) ⊎ (n ≡ k → ⊥) → count_of new n ≡ count_of es n
    count_in n (inl same) = ap (count_of new) same ∙ count_of-entry new k (marked file kept) now_marked ∙ sym (count_of-entry es k kept entry) ∙ ap (count_of es) (sym same)
    count_in n (inr other) = count_of-alike new es n (same-other n other)

    left : IsStruck (IsLeft fewer next new) 2 next (left_of_use new)
    left = struck-keeps (IsLeft fewer next new) 2 next (λ xs m numbers useless so_far. one-left fewer next new xs m useless so_far)
        (length new) (Some number.0) new (omega arith) marked-fits.numbers
        (marked-others es k file kept number name entry (stands-place number.0 name kept (first-passes es (stands_at number.0 name) kept there)) (sound-of_use served may.sound))
        (record { fits = marked-fits; counts = λ m. refl; names = λ m f at. at })

    pub numbered-keeps : KeepsNames served (record { map = unlinked served.map kept.number.0 file; tree = removed served.tree dir name })
    numbered-keeps = record {
      sound = fits-sound (record { map = unlinked served.map k file; tree = fewer }) left.kept.fits left.of_use;
      counts = λ n. left.kept.counts n ∙ count_in n (eq-or n k);
      names = λ n f at. named-before tree fewer next es new file fits carried-marked n f (left.kept.names n f at);
      next = refl;
    }

-- Taking a name away leaves what every number names, and how often it is counted.
pub unnaming-keeps : UnnamingLaw
unnaming-keeps served number dir name file may = in_ (entry_at served.map.entries number.0 name) refl where
  in_ : (o : Option Kept) → entry_at served.map.entries number.0 name ≡ o →
      KeepsNames served (record { map = option_map_or (λ (x : Kept). unlinked served.map x.number.0 file) o served.map; tree = removed served.tree dir name })
  in_ None e = unnumbered-keeps served number dir name file may e
  in_ (Some kept) e = numbered-keeps served number dir name file may kept e
