-- What the calls of a tree leave, in the words of their callees.
use Rattle.std.proofs.Common.{◌≡◌, ℕ, ◌+◌, ◌<◌, ◌≤◌, ◌==◌, ◌||◌, Bool, false, if◌then◌else◌, List, length, true, Option, Some, None, IsSome, IfSome, refl, sym, ap, subst, ◌∙◌, inl, inr, arith}
use Rattle.std.proofs.lemmas.Option.{slice_get_within}
use Rattle.std.specs.Option.{option_map, option_or}
use Rattle.std.specs.Ordering.{nat_cmp}
use Rattle.std.specs.FinMap.{FinMap, get, insert, remove, empty, get-empty}
use Rattle.eden_base.proofs.MemberLemmas.{some-IsSome, some-is}
use Rattle.eden_base.specs.Limits.{end_of_files}
use Rattle.eden_base.specs.Name.{IsNameText}
use Rattle.eden_base.specs.declared.attr.MadeKind.{MadeKind}
use Rattle.eden_base.specs.declared.attr.Kind.TheVariants.{Dir}
use Rattle.eden_base.specs.declared.attr.Perm.{Perm}
use Rattle.eden_base.specs.declared.number.FileId.{FileId}
use Rattle.checkout.specs.declared.made.MadeFile.{MadeFile}
use Rattle.checkout.specs.Added.{gives}
use Rattle.manifest.specs.Manifest.{Manifest, IsManifest, most_files}
use Rattle.checkout.specs.Overlay.{file_made, tree_over, AreParts, IsOverlay}
use Rattle.manifest.specs.Tree.{Tree, IsTree, link_cmp, kind_of, child_of, tree_of, files_from, links_from}
use Rattle.checkout.specs.ChangedTree.{is_unlinked, is_full_dir, created, removed}
use Rattle.manifest.proofs.FlatLemmas.{link_cmp_total, link_cmp-same}
use Rattle.checkout.proofs.CreateLaws.{linked_is_below}
use Rattle.checkout.proofs.LostCounts.{lost-le-kids, lost_in-none}
use Rattle.manifest.proofs.LineCounts.{kids-le-length}
use Rattle.checkout.proofs.LinkLaws.{link_from_given}
use Rattle.manifest.proofs.ManifestIsTree.{tree_of-IsTree}
use Rattle.manifest.proofs.ManifestTree.{file_with, line_of_link}
use Rattle.manifest.proofs.MapLemmas.{removed_nothing, removed_again}
use Rattle.checkout.proofs.OverlayCreate.{kept_file, tree_over-created, create-IsOverlay}
use Rattle.checkout.proofs.OverlayLaws.{child_added, child_cases, none_added}
use Rattle.checkout.proofs.OverlayRemove.{tree_over-removed_added, remove_added-IsOverlay, tree_over-removed, remove-IsOverlay}
use Rattle.checkout.proofs.UnionLaws.{files_over-nothing, get-files_over, links_over-nothing}

-- before any request
pub start-is : (m : Manifest) (gone : ℕ → Bool) → ((q : ℕ) → gone q ≡ false) → tree_over m empty empty gone (length m.lines + 2) ≡ tree_of m
start-is m gone none =
    let files = files_over-nothing (files_from 2 m.lines) in
    let links = links_over-nothing gone (links_from 2 m.lines) none in
    λ i. record { manifest = m; files = files i; links = links i; next_file = length m.lines + 2 }

pub start-AreParts : (m : Manifest) (gone : ℕ → Bool) (lost : ℕ → ℕ) → IsManifest m → ((q : ℕ) → gone q ≡ false) → ((q : ℕ) → lost q ≡ 0) → AreParts m empty empty gone lost
start-AreParts m gone lost is none no_loss = record {
  is_manifest = is;
  made_are_later = λ file h. let e = get-empty {X = MadeFile} nat_cmp file in absurd (let s : IsSome {T = MadeFile} None = subst IsSome e h in cc (s));
  added_are_apart = λ dir name h. let e = get-empty {X = FileId} link_cmp (dir, name) in absurd (let s : IsSome {T = FileId} None = subst IsSome e h in cc (s));
  gone_are_lines = λ file h. let e = none file.0 in absurd (cc (e, h));
  lost_are_counted = λ dir. no_loss dir ∙ sym (lost_in-none gone none dir 2 m.lines);
}

pub start-IsOverlay : (m : Manifest) (gone : ℕ → Bool) (lost : ℕ → ℕ) → IsManifest m → ((q : ℕ) → gone q ≡ false) → ((q : ℕ) → lost q ≡ 0) → IsOverlay m empty empty gone lost (length m.lines + 2)
start-IsOverlay m gone lost is none no_loss = record { parts = start-AreParts m gone lost is none no_loss; is_tree = subst IsTree (sym (start-is m gone none)) (tree_of-IsTree m is) }

module _ (m : Manifest) (made : FinMap nat_cmp MadeFile) (added : FinMap link_cmp FileId) (gone : ℕ → Bool) (lost : ℕ → ℕ) (next : ℕ) (is : IsOverlay m made added gone lost next) (self : Tree) (view : tree_over m made added gone next ≡ self) (dir : FileId) (name : List ℕ) where
  abbrev tree : Tree
  tree = tree_over m made added gone next

  -- what was added gives no file that is still to be made
  pub next_is_new : (file : FileId) → next ≡ file.0 → gives added file ≡ false
  next_is_new file id =
      elim (gives added file) as (λ b. gives added file ≡ b → b ≡ false) [
        | false ↦ λ _. refl
        | true ↦ λ e.
            let at = link_from_given added file e in
            let below = linked_is_below tree is.is_tree at.0 at.1 file (child_added m made added gone lost next is.parts at.0 at.1 file at.2) in
            absurd (omega (arith, below, id))
      ] refl

  -- a file that was made was made before the next one
  pub made_is_below : (id : ℕ) → IsSome (get made id) → id < next
  made_is_below id there =
      let w = some-is _ there in
      let base = files_from 2 m.lines in
      is.is_tree.ids_below_next (record { 0 = id }) (some-IsSome _ (file_made w.0) (get-files_over made base id ∙ ap (λ o. option_or (option_map file_made o) (get base id)) w.1))

  module _ (free : child_of self dir name ≡ None) where
    free_here : child_of tree dir name ≡ None
    free_here = ap (λ (t : Tree). child_of t dir name) view ∙ free

    pub none_there : get added (dir.0, name) ≡ None
    none_there = none_added m made added gone lost next is.parts dir name free_here

    -- a link that was added, and taken out again
    pub undone : (file : FileId) (added' added'' : FinMap link_cmp FileId) → added' ≡ insert added (dir.0, name) file → added'' ≡ remove added' (dir.0, name) → added'' ≡ added
    undone file added' added'' a a' = a' ∙ ap (λ x. remove x (dir.0, name)) a ∙ removed_again link_cmp_total link_cmp-same added (dir.0, name) file none_there

    pub create-step : (kind : MadeKind) (perm : Perm) (made' : FinMap nat_cmp MadeFile) (added' : FinMap link_cmp FileId) → kind_of self dir ≡ Some Dir → is_unlinked self dir ≡ false → IsNameText name → next < end_of_files →
        made' ≡ insert made next (kept_file kind perm) → added' ≡ insert added (dir.0, name) (file_with next) →
        IsOverlay m made' added' gone lost (next + 1) × (tree_over m made' added' gone (next + 1) ≡ created self dir name kind perm)
    create-step kind perm made' added' is_dir is_reached is_name fits f a =
        rw (f, a) (
          create-IsOverlay m made added gone lost next is dir name kind perm (ap (λ (t : Tree). kind_of t dir) view ∙ is_dir) (ap (λ (t : Tree). is_unlinked t dir) view ∙ is_reached) free_here is_name fits,
          tree_over-created m made added gone next dir name kind perm ∙ ap (λ (t : Tree). created t dir name kind perm) view,
        )

  module _ (not_full : IfSome (child_of self dir name) (λ file. is_full_dir self file ≡ false)) where
    not_full_here : (file : FileId) → child_of tree dir name ≡ Some file → is_full_dir tree file ≡ false
    not_full_here file h =
        let there = sym (ap (λ (t : Tree). child_of t dir name) view) ∙ h in
        let p : is_full_dir self file ≡ false = subst (λ o. IfSome o (λ f. is_full_dir self f ≡ false)) there not_full in
        ap (λ (t : Tree). is_full_dir t file) view ∙ p

    pub remove_added-step : (file : FileId) (added' : FinMap link_cmp FileId) → get added (dir.0, name) ≡ Some file → added' ≡ remove added (dir.0, name) →
        IsOverlay m made added' gone lost next × (tree_over m made added' gone next ≡ removed self dir name) × (child_of self dir name ≡ Some file)
    remove_added-step file added' here a =
        let there = child_added m made added gone lost next is.parts dir name file here in
        let empty_or_file = not_full_here file there in
        rw a (
          remove_added-IsOverlay m made added gone lost next is dir name file here empty_or_file,
          tree_over-removed_added m made added gone lost next is dir name file here empty_or_file ∙ ap (λ (t : Tree). removed t dir name) view,
          sym (ap (λ (t : Tree). child_of t dir name) view) ∙ there,
        )

    -- the manifest is searched by the bytes of the name
    module _ (bytes : List ℕ) (e : bytes ≡ name) (none : get added (dir.0, name) ≡ None) where
      -- what is not an added link is one of the manifest's
      pub line_link : (file : FileId) → child_of self dir name ≡ Some file → (get (links_from 2 m.lines) (dir.0, name) ≡ Some file) × (gone file.0 ≡ false)
      line_link file h =
          elim (child_cases m made added gone lost next is.parts dir name file (ap (λ (t : Tree). child_of t dir name) view ∙ h)) [ inl a ↦ absurd (cc (a, none)) | inr w ↦ w ]

      pub is_found : (found : Option FileId) → IsSome (child_of self dir name) → found ≡ get (links_from 2 m.lines) (dir.0, bytes) → IsSome found
      is_found found there f =
          let w = some-is _ there in
          some-IsSome found w.0 (f ∙ ap (λ (n : List ℕ). get (links_from 2 m.lines) (dir.0, n)) e ∙ (line_link w.0 w.1).0)

      -- the file that was found, and that both counts have room
      pub record IsFound (file : FileId) : Type 0 where
        pub child : child_of self dir name ≡ Some file
        pub here : get (links_from 2 m.lines) (dir.0, name) ≡ Some file
        pub left : gone file.0 ≡ false
        pub file_within : file.0 < length m.lines + 2
        pub dir_within : dir.0 < length m.lines + 2
        pub fits : lost dir.0 ≤ most_files

      pub found-is : (found : Option FileId) (file : FileId) → IsSome (child_of self dir name) → found ≡ get (links_from 2 m.lines) (dir.0, bytes) → found ≡ Some file → IsFound file
      found-is found file there f g =
          let w = some-is _ there in
          let at = line_link w.0 w.1 in
          let found_here : get (links_from 2 m.lines) (dir.0, name) ≡ Some file = sym (f ∙ ap (λ (n : List ℕ). get (links_from 2 m.lines) (dir.0, n)) e) ∙ g in
          let same : w.0 ≡ file = let x = at.0 in cc (x, found_here) in
          let r = line_of_link m.lines 2 dir.0 name file found_here in
          let within = slice_get_within m.lines r.place r.line r.here in
          let dir_before = (is.parts.is_manifest.lines.each r.place r.line r.here).dir_before in
          let counted = is.parts.lost_are_counted dir.0 in
          let kids = lost-le-kids gone dir.0 2 m.lines in
          let all = kids-le-length dir.0 m.lines in
          let few = is.parts.is_manifest.lines.few in
          record {
            child = w.1 ∙ ap (λ x. Some x) same;
            here = found_here;
            left = ap (λ (x : FileId). gone x.0) (sym same) ∙ at.1;
            file_within = let id = r.file_is in omega (arith, id, within);
            dir_within = elim dir_before [ inl one ↦ let d = r.dir_is in omega (arith, one, d) | inr v ↦ let d = r.dir_is in omega (arith, v.2, v.3, d, within) ];
            fits = omega (arith, counted, kids, all, few);
          }

      pub remove_line-step : (file : FileId) (added' : FinMap link_cmp FileId) (gone' : ℕ → Bool) (lost' : ℕ → ℕ) → IsFound file → added' ≡ remove added (dir.0, name) →
          ((q : ℕ) → gone' q ≡ ((q == file.0) || gone q)) → ((q : ℕ) → lost' q ≡ (if q == dir.0 then lost q + 1 else lost q)) →
          IsOverlay m made added' gone' lost' next × (tree_over m made added' gone' next ≡ removed self dir name)
      remove_line-step file added' gone' lost' at a one_more counted =
          let a' = a ∙ removed_nothing link_cmp_total link_cmp-same added (dir.0, name) none in
          let full = not_full_here file (ap (λ (t : Tree). child_of t dir name) view ∙ at.child) in
          rw a' (
            remove-IsOverlay m made added gone lost next is dir name file at.here none at.left full gone' lost' one_more counted,
            tree_over-removed m made added gone lost next is dir name file at.here none at.left full gone' lost' one_more counted ∙ ap (λ (t : Tree). removed t dir name) view,
          )
