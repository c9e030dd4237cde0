-- What stands in a tree that is laid over a manifest's.
use Rattle.std.proofs.Common.{◌≡◌, ℕ, ◌+◌, ◌-◌, ◌<◌, ◌≤◌, ◌==◌, ◌&&◌, ◌||◌, Bool, true, false, not, nat_lt, nat_le, if◌then◌else◌, List, length, Option, Some, None, refl, sym, ap, ◌∙◌, ◌⊎◌, inl, inr, arith, eq-eqb}
use Rattle.std.proofs.lemmas.Bool.{and_parts}
use Rattle.std.proofs.lemmas.Bool.Decides.{nat_tests}
use Rattle.std.proofs.lemmas.Option.{slice_get_within}
use Rattle.std.specs.List.{list_any}
use Rattle.std.specs.Ordering.{nat_cmp}
use Rattle.std.specs.Option.{option_or}
use Rattle.std.specs.FinMap.{FinMap, get, entries}
use Rattle.eden_base.proofs.MemberLemmas.{some-IsSome}
use Rattle.eden_base.specs.declared.number.FileId.{FileId}
use Rattle.checkout.specs.declared.made.MadeFile.{MadeFile}
use Rattle.checkout.specs.Added.{gives}
use Rattle.manifest.specs.Manifest.{Manifest, kids_in}
use Rattle.manifest.specs.Tree.{Tree, link_cmp, child_of, links_from}
use Rattle.checkout.specs.ChangedTree.{has_links, is_linked}
use Rattle.checkout.specs.Overlay.{still, tree_over, lost_in, is_line, AreParts}
use Rattle.manifest.proofs.FlatLemmas.{link_cmp_total, has_link, has_no_link}
use Rattle.checkout.proofs.LostCounts.{left_from_lost, lost_from_left}
use Rattle.checkout.proofs.LinkLaws.{given_from_link, link_from_given, linked_from_child, child_from_linked}
use Rattle.manifest.proofs.ManifestTree.{file_with, same_id, line_of_link, link_of_line, line_at}
use Rattle.manifest.proofs.MapLemmas.{key_from_any}
use Rattle.manifest.proofs.MoreLines.{apart}
use Rattle.checkout.proofs.UnionLaws.{get-links_over}

pub still-cases : (gone : ℕ → Bool) (o : Option FileId) (file : FileId) → still gone o ≡ Some file → (o ≡ Some file) × (gone file.0 ≡ false)
still-cases gone None file h = absurd (cc)
still-cases gone (Some g) file h =
    elim (gone g.0) as (λ b. gone g.0 ≡ b → (if b then None else Some g) ≡ Some file → (Some g ≡ Some file) × (gone file.0 ≡ false)) [
      | true ↦ λ e k. absurd (cc)
      | false ↦ λ e k. (k, let s : g ≡ file = cc in ap (λ (f : FileId). gone f.0) (sym s) ∙ e)
    ] refl h

pub still-stays : (gone : ℕ → Bool) (file : FileId) → gone file.0 ≡ false → still gone (Some file) ≡ Some file
still-stays gone file e = ap (λ b. if b then None else Some file) e

-- a union has what the first or the second has
pub or-cases : {X : Type 0} (a b : Option X) (x : X) → option_or a b ≡ Some x → (a ≡ Some x) ⊎ ((a ≡ None) × (b ≡ Some x))
or-cases None b x h = inr (refl, h)
or-cases (Some y) b x h = inl h

-- where the ids of a manifest's files are
pub within_lines : (m : Manifest) (file : FileId) → is_line m file ≡ true → (2 ≤ file.0) × (file.0 < length m.lines + 2)
within_lines m file h =
    let w = and_parts (nat_le 2 file.0) (nat_lt file.0 (length m.lines + 2)) h in
    let a = w.0 in
    let b = w.1 in
    (grind (arith, nat_tests), grind (arith, nat_tests))

module _ (m : Manifest) (made : FinMap nat_cmp MadeFile) (added : FinMap link_cmp FileId) (gone : ℕ → Bool) (lost : ℕ → ℕ) (next : ℕ) (is : AreParts m made added gone lost) where
  abbrev tree : Tree
  tree = tree_over m made added gone next

  abbrev base : FinMap link_cmp FileId
  base = links_from 2 m.lines

  pub child-over : (dir : FileId) (name : List ℕ) → child_of tree dir name ≡ option_or (get added (dir.0, name)) (still gone (get base (dir.0, name)))
  child-over dir name = get-links_over added gone base (dir.0, name)

  -- a link of the manifest that is not gone is the tree's
  pub child_left : (dir : FileId) (name : List ℕ) (file : FileId) → get base (dir.0, name) ≡ Some file → gone file.0 ≡ false → child_of tree dir name ≡ Some file
  child_left dir name file here left =
      let stays = ap (still gone) here ∙ still-stays gone file left in
      child-over dir name ∙ (elim (get added (dir.0, name)) as (λ o. get added (dir.0, name) ≡ o → option_or o (still gone (get base (dir.0, name))) ≡ Some file) [
        | None ↦ λ e. stays
        | Some f ↦ λ e. let none = is.added_are_apart dir.0 name (some-IsSome _ f e) in absurd (cc (none, stays))
      ] refl)

  pub child_added : (dir : FileId) (name : List ℕ) (file : FileId) → get added (dir.0, name) ≡ Some file → child_of tree dir name ≡ Some file
  child_added dir name file here = child-over dir name ∙ ap (λ o. option_or o (still gone (get base (dir.0, name)))) here

  -- where a name gives nothing, none was added
  pub none_added : (dir : FileId) (name : List ℕ) → child_of tree dir name ≡ None → get added (dir.0, name) ≡ None
  none_added dir name free =
      elim (get added (dir.0, name)) as (λ o. get added (dir.0, name) ≡ o → o ≡ None) [
        | None ↦ λ _. refl
        | Some file ↦ λ here. let there = child_added dir name file here in absurd (cc (there, free))
      ] refl

  pub child_cases : (dir : FileId) (name : List ℕ) (file : FileId) → child_of tree dir name ≡ Some file → (get added (dir.0, name) ≡ Some file) ⊎ ((get base (dir.0, name) ≡ Some file) × (gone file.0 ≡ false))
  child_cases dir name file h =
      elim (or-cases (get added (dir.0, name)) (still gone (get base (dir.0, name))) file (sym (child-over dir name) ∙ h)) [
        | inl a ↦ inl a
        | inr w ↦ inr (still-cases gone (get base (dir.0, name)) file w.1)
      ]

  abbrev has_added : FileId → Bool
  has_added dir = list_any (λ (link : (ℕ × List ℕ) × FileId). link.0.0 == dir.0) (entries added)

  -- a directory has no link where none was added and all of the manifest's are gone
  pub none_in : (d : FileId) → has_added d ≡ false → nat_lt (lost d.0) (kids_in d.0 m.lines) ≡ false → (name : List ℕ) → child_of tree d name ≡ None
  none_in d e g name =
      elim (child_of tree d name) as (λ o. child_of tree d name ≡ o → o ≡ None) [
        | None ↦ λ _. refl
        | Some file ↦ λ h. elim (child_cases d name file h) [
          | inl a ↦ let some = has_link added d.0 name file a in absurd (cc (some, e))
          | inr w ↦
              let r = line_of_link m.lines 2 d.0 name file w.0 in
              let here : (r.line.dir.0 == d.0) ≡ true = eq-eqb r.line.dir.0 d.0 r.dir_is in
              let left : gone (2 + r.place) ≡ false = ap gone (sym r.file_is) ∙ w.1 in
              let below = lost_from_left gone d.0 2 r.place m.lines r.line r.here here left in
              let c = is.lost_are_counted d.0 in
              let lt : nat_lt (lost d.0) (kids_in d.0 m.lines) ≡ true = grind (arith, nat_tests) in
              absurd (cc (lt, g))
        ]
      ] refl

  -- a directory has links where one was added, or not all of the manifest's are gone
  pub has_links-over : (dir : FileId) → has_links tree dir ≡ (has_added dir || nat_lt (lost dir.0) (kids_in dir.0 m.lines))
  has_links-over dir =
      elim (has_added dir) as (λ b. has_added dir ≡ b → has_links tree dir ≡ (b || nat_lt (lost dir.0) (kids_in dir.0 m.lines))) [
        | true ↦ λ e.
            let r = key_from_any link_cmp_total (λ (k : ℕ × List ℕ). k.0 == dir.0) added e in
            let same : r.0.0 ≡ dir.0 = grind (arith, nat_tests) in
            let here = ap (λ (d : ℕ). get added (d, r.0.1)) (sym same) ∙ r.2 in
            has_link tree.links dir.0 r.0.1 r.1 (child_added dir r.0.1 r.1 here)
        | false ↦ λ e. elim (nat_lt (lost dir.0) (kids_in dir.0 m.lines)) as (λ b. nat_lt (lost dir.0) (kids_in dir.0 m.lines) ≡ b → has_links tree dir ≡ b) [
          | true ↦ λ g.
              let below : lost_in gone dir.0 2 m.lines < kids_in dir.0 m.lines = let c = is.lost_are_counted dir.0 in let lt : lost dir.0 < kids_in dir.0 m.lines = grind (arith, nat_tests) in omega (arith, c, lt) in
              let r = left_from_lost gone dir.0 2 m.lines below in
              let found = link_of_line m.lines 2 r.place r.line (apart m.lines is.is_manifest.lines) r.here in
              let here = ap (λ (d : ℕ). get base (d, r.line.name)) (sym r.in_dir) ∙ found in
              has_link tree.links dir.0 r.line.name (file_with (2 + r.place)) (child_left dir r.line.name (file_with (2 + r.place)) here r.is_left)
          | false ↦ λ g. has_no_link tree.links dir.0 (none_in dir e g)
        ] refl
      ] refl

  -- the manifest's links give its files
  pub line_of_base : (dir : FileId) (name : List ℕ) (file : FileId) → get base (dir.0, name) ≡ Some file → is_line m file ≡ true
  line_of_base dir name file h =
      let r = line_of_link m.lines 2 dir.0 name file h in
      let within = slice_get_within m.lines r.place r.line r.here in
      let low : nat_le 2 file.0 ≡ true = let e = r.file_is in grind (arith, nat_tests) in
      let high : nat_lt file.0 (length m.lines + 2) ≡ true = let e = r.file_is in grind (arith, nat_tests) in
      ap (λ b. b && nat_lt file.0 (length m.lines + 2)) low ∙ high

  -- a file is linked where an added link gives it, or the manifest's is not gone
  pub is_linked-over : (file : FileId) → is_linked tree file ≡ (gives added file || (is_line m file && not (gone file.0)))
  is_linked-over file =
      elim (gives added file) as (λ b. gives added file ≡ b → is_linked tree file ≡ (b || (is_line m file && not (gone file.0)))) [
        | true ↦ λ e. let at = link_from_given added file e in linked_from_child tree at.0 at.1 file (child_added at.0 at.1 file at.2)
        | false ↦ λ e. elim (is_linked tree file) as (λ b. is_linked tree file ≡ b → b ≡ (is_line m file && not (gone file.0))) [
          | true ↦ λ g.
              let at = child_from_linked tree file g in
              elim (child_cases at.0 at.1 file at.2) [
                | inl a ↦ let given = given_from_link added at.0 at.1 file a in absurd (cc (given, e))
                | inr w ↦ sym (ap (λ b. b && not (gone file.0)) (line_of_base at.0 at.1 file w.0) ∙ ap not w.1)
              ]
          | false ↦ λ g. sym (unlinked g)
        ] refl
      ] refl
    where
      unlinked : is_linked tree file ≡ false → (is_line m file && not (gone file.0)) ≡ false
      unlinked e =
          elim (is_line m file) as (λ b. is_line m file ≡ b → (b && not (gone file.0)) ≡ false) [
            | false ↦ λ _. refl
            | true ↦ λ l. elim (gone file.0) as (λ b. gone file.0 ≡ b → not b ≡ false) [
              | true ↦ λ _. refl
              | false ↦ λ g.
                  let w = within_lines m file l in
                  let low = w.0 in
                  let at = line_at m.lines (file.0 - 2) (omega (arith, low, w.1)) in
                  let found = link_of_line m.lines 2 (file.0 - 2) at.0 (apart m.lines is.is_manifest.lines) at.1 in
                  let same : (file_with (2 + (file.0 - 2))).0 ≡ file.0 = omega (arith, low) in
                  let here = found ∙ ap (λ f. Some f) (same_id (file_with (2 + (file.0 - 2))) file same) in
                  let linked = linked_from_child tree at.0.dir at.0.name file (child_left at.0.dir at.0.name file here g) in
                  absurd (cc (linked, e))
            ] refl
          ] refl
