-- The files of a tree, and the next, as its own changes tell them: none that was made is bad.
use Rattle.std.proofs.Common.{◌≡◌, ◌+◌, ◌<◌, ◌||◌, ℕ, zero, suc, true, false, not, nat_lt, length, Some, None, is_some, refl, sym, ap, ◌∙◌, inl, inr, arith}
use Rattle.std.proofs.lemmas.Bool.Decides.{nat_tests}
use Rattle.std.specs.List.{Contains}
use Rattle.std.specs.Option.{option_map, option_or}
use Rattle.eden_base.proofs.MemberLemmas.{some-IsSome}
use Rattle.eden_base.specs.Limits.{end_of_files}
use Rattle.eden_base.specs.declared.number.FileId.{FileId}
use Rattle.checkout.specs.declared.changes.Changes.{Changes}
use Rattle.checkout.specs.declared.changes.Made.{Made}
use Rattle.checkout.specs.BadChanges.{first_bad, is_bad_made, is_bad_next, kind_with, last_file}
use Rattle.checkout.specs.Changed.{changed}
use Rattle.checkout.specs.Changes.{AreChanges}
use Rattle.manifest.specs.Manifest.{File, Manifest}
use Rattle.manifest.specs.Tree.{IsTree, Tree, file_of, kind_of, root, tree_of}
use Rattle.checkout.specs.ChangedTree.{made_file}
use Rattle.checkout.proofs.ChangeLists.{all_of}
use Rattle.checkout.proofs.ChangedAround.{kind_there}
use Rattle.checkout.proofs.ChangedFiles.{changed_files, changed_kind, file_of_made, found_listed, found_made, made_under}
use Rattle.checkout.proofs.FirstBadLaws.{IsGoodMade}
use Rattle.manifest.proofs.ManifestTree.{file_of_line, file_with, line_at, same_id}
use Rattle.checkout.proofs.NoneBadLaws.{made_not_bad}

module _ (t : Tree) (c : Changes) (is : IsTree t) (has : AreChanges t c) where
  abbrev m : Manifest
  m = t.manifest

  next_is : c.next_file.0 ≡ t.next_file
  next_is = ap (λ (f : FileId). f.0) has.next

  -- the file of the last line is below the next, or the root, where there is no line
  last_is_below : last_file m < t.next_file
  last_is_below = by_length (length m.lines) refl
    where
      by_length : (n : ℕ) → length m.lines ≡ n → last_file m < t.next_file
      by_length zero len =
          let below = is.ids_below_next root (kind_there (file_of t root) (ap is_some is.root_is_dir)) in
          omega (arith, below, len)
      by_length (suc n) len =
          let at = line_at m.lines n (omega (arith, len)) in
          let there = is.has_manifest_files (file_with (2 + n)) at.0.file (file_of_line 2 n m.lines at.0 at.1) in
          let below = is.ids_below_next (file_with (2 + n)) (some-IsSome (file_of t (file_with (2 + n))) at.0.file there) in
          omega (arith, below, len)

  pub next_not_bad : is_bad_next m c.next_file ≡ false
  next_not_bad =
      let next = next_is in
      let low = last_is_below in
      let high = is.next_fits in
      let after : nat_lt (last_file m) c.next_file.0 ≡ true = grind (arith, nat_tests) in
      let fits : nat_lt end_of_files c.next_file.0 ≡ false = grind (arith, nat_tests) in
      ap (λ b. not b || nat_lt end_of_files c.next_file.0) after ∙ fits

  good_made : (x : Made) → Contains c.made x → IsGoodMade m c.next_file x
  good_made x h =
      let told = (has.made.each x).0 h in
      let later = told.later in
      let below = is.ids_below_next x.file (some-IsSome (file_of t x.file) (file_of_made x) told.file) in
      let next = next_is in
      record { later = omega (arith, later); below = omega (arith, below, next) }

  pub own_made_not_bad : first_bad (is_bad_made m c.next_file) 1 None c.made ≡ None
  own_made_not_bad = made_not_bad m c.next_file 1 c.made has.made.rising (all_of (IsGoodMade m c.next_file) c.made good_made)

  -- a file that isn't the manifest's is the made one
  files_there : (file : FileId) → file_of (tree_of m) file ≡ None → option_map file_of_made (made_under file.0 c.made) ≡ file_of t file
  files_there file none =
      elim (file_of t file) as (λ o. file_of t file ≡ o → option_map file_of_made (made_under file.0 c.made) ≡ o) [
        | Some f ↦ λ e. elim (is.others_are_later file f e) [
          | inl g ↦ absurd (cc (none, g))
          | inr w ↦
              let made : Made = record { file = file; kind = w.1.0; perm = f.perm } in
              let empty : f ≡ made_file w.1.0 f.perm = λ i. record { kind = w.1.1 i; perm = f.perm; size = w.1.2 i } in
              let there = (has.made.each made).1 (record { later = w.0; file = e ∙ ap (λ x. Some x) empty }) in
              ap (option_map file_of_made) (found_listed c.made has.made.rising made there) ∙ ap (λ x. Some x) (sym empty)
        ]
        | None ↦ λ e. elim (made_under file.0 c.made) as (λ o. made_under file.0 c.made ≡ o → option_map file_of_made o ≡ None) [
          | None ↦ λ _. refl
          | Some x ↦ λ g.
              let r = found_made c.made file.0 x g in
              let there = ap (file_of t) (sym (same_id x.file file r.1)) ∙ ((has.made.each x).0 r.0).file in
              absurd (cc (e, there))
        ] refl
      ] refl

  -- the files of a tree are those of its manifest with its own changes made
  pub own_files : (file : FileId) → file_of (changed m c) file ≡ file_of t file
  own_files file =
      changed_files m c own_made_not_bad file.0
      ∙ (elim (file_of (tree_of m) file) as (λ o. file_of (tree_of m) file ≡ o → option_or o (option_map file_of_made (made_under file.0 c.made)) ≡ file_of t file) [
        | Some f ↦ λ e. sym (is.has_manifest_files file f e)
        | None ↦ λ e. files_there file e
      ] refl)

  -- so is each kind
  pub own_kind : (file : FileId) → kind_with m c.made file ≡ kind_of t file
  own_kind file = sym (changed_kind m c own_made_not_bad file.0) ∙ ap (option_map (λ (f : File). f.kind)) (own_files file)
