-- The files of a manifest with changes made: the manifest's, and those that were made.
use Rattle.std.proofs.Common.{◌≡◌, ◌==◌, ℕ, Bool, true, false, cond, if◌then◌else◌, List, [], ◌∷◌, Option, Some, None, refl, sym, ap, subst, ◌∙◌, arith, eq-eqb}
use Rattle.std.proofs.lemmas.Bool.Decides.{nat_tests}
use Rattle.std.proofs.lemmas.List.Elements.{All-contains, All-from_recursion, Contains-append_right}
use Rattle.std.proofs.lemmas.Map.Keys.{sorted_head, sorted_tail}
use Rattle.std.specs.Cmp.{nat_cmp_total, unsigned_ties}
use Rattle.std.specs.FinMap.{FinMap, get, nat_cmp-IsAntisymmetric}
use Rattle.std.specs.List.{AllByRecursion, Contains, find}
use Rattle.std.specs.List.Sorted.{IsStrictlySortedBy}
use Rattle.std.specs.Option.{option_map, option_or}
use Rattle.std.specs.Ordering.{is_eq, nat_cmp}
use Rattle.std.specs.declared.cmp.Ordering.TheVariants.{Less}
use Rattle.eden_base.specs.Kinds.{kind_made}
use Rattle.eden_base.specs.declared.attr.Kind.{Kind}
use Rattle.eden_base.specs.declared.attr.Kind.TheVariants.{Dir}
use Rattle.eden_base.specs.declared.number.FileId.{FileId}
use Rattle.checkout.specs.declared.changes.Changes.{Changes}
use Rattle.checkout.specs.declared.changes.Made.{Made}
use Rattle.checkout.specs.BadChanges.{first_bad, is_bad_made, kind_with}
use Rattle.checkout.specs.Changed.{changed, files_with}
use Rattle.checkout.specs.Changes.{AreMade, IsMade, file_ids}
use Rattle.manifest.specs.Manifest.{File, Line, Manifest, line_of}
use Rattle.manifest.specs.Tree.{Tree, files_from}
use Rattle.checkout.specs.ChangedTree.{made_file}
use Rattle.checkout.proofs.KindLemmas.{made_kinds_same}
use Rattle.checkout.proofs.FirstBadLaws.{IsGoodMade, ids_rise, made_good}
use Rattle.manifest.proofs.ManifestTree.{file_from_line, no_file, no_later_file, root_of_files, same_id}
use Rattle.manifest.proofs.MapLemmas.{get-insert_other, get-insert_same}

abbrev pub file_of_made : Made → File
file_of_made x = made_file x.kind x.perm

-- the first that was made under an id
abbrev pub made_under : ℕ → List Made → Option Made
made_under id made = find (λ (x : Made). x.file.0 == id) made

pub files_with-get : (files : FinMap nat_cmp File) (made : List Made) (id : ℕ) → get (files_with files made) id ≡ option_or (option_map file_of_made (made_under id made)) (get files id)
files_with-get files [] id = refl
files_with-get files (x ∷ xs) id =
    elim (x.file.0 == id) as (λ b. (x.file.0 == id) ≡ b → get (files_with files (x ∷ xs)) id ≡ option_or (option_map file_of_made (cond b (Some x) (made_under id xs))) (get files id)) [
      | true ↦ λ e.
          let same : x.file.0 ≡ id = grind (arith, nat_tests) in
          ap (get (files_with files (x ∷ xs))) (sym same) ∙ get-insert_same nat_cmp_total (files_with files xs) x.file.0 (file_of_made x)
      | false ↦ λ e.
          get-insert_other nat_cmp_total nat_cmp-IsAntisymmetric (files_with files xs) x.file.0 (file_of_made x) id (λ same. let equal = eq-eqb x.file.0 id (sym same) in absurd (cc (equal, e)))
          ∙ files_with-get files xs id
    ] refl

-- what is found is one of them
pub found_made : (made : List Made) (id : ℕ) (x : Made) → made_under id made ≡ Some x → Contains made x × (x.file.0 ≡ id)
found_made [] id x h = absurd (cc)
found_made (y ∷ ys) id x h =
    elim (y.file.0 == id) as (λ b. (y.file.0 == id) ≡ b → cond b (Some y) (made_under id ys) ≡ Some x → Contains (y ∷ ys) x × (x.file.0 ≡ id)) [
      | true ↦ λ e g.
          let is_x : y ≡ x = cc in
          let same : y.file.0 ≡ id = grind (arith, nat_tests) in
          ((0, omega arith, is_x), sym (ap (λ (z : Made). z.file.0) is_x) ∙ same)
      | false ↦ λ e g. let r = found_made ys id x g in (Contains-append_right (y ∷ []) ys x r.0, r.1)
    ] refl h

-- where ids rise each is found
each_found : (made : List Made) → IsStrictlySortedBy nat_cmp (file_ids made) → AllByRecursion (λ x. made_under x.file.0 made ≡ Some x) made
each_found [] h = tt
each_found (x ∷ xs) h = (
  ap (λ b. cond b (Some x) (made_under x.file.0 xs)) (eq-eqb x.file.0 x.file.0 refl),
  behind xs (sorted_head nat_cmp x.file.0 (file_ids xs) h) (each_found xs (sorted_tail nat_cmp x.file.0 (file_ids xs) h)),
)
  where
    behind : (ys : List Made) → AllByRecursion (λ k. nat_cmp x.file.0 k ≡ Less) (file_ids ys) → AllByRecursion (λ y. made_under y.file.0 xs ≡ Some y) ys → AllByRecursion (λ y. made_under y.file.0 (x ∷ xs) ≡ Some y) ys
    behind [] up found = tt
    behind (y ∷ ys) up found = (ap (λ b. cond b (Some x) (made_under y.file.0 xs)) (unsigned_ties x.file.0 y.file.0 ∙ ap is_eq up.0) ∙ found.0, behind ys up.1 found.1)

pub found_listed : (made : List Made) → IsStrictlySortedBy nat_cmp (file_ids made) → (x : Made) → Contains made x → made_under x.file.0 made ≡ Some x
found_listed made rise x h =
    let P : Made → Type 0 = λ y. made_under y.file.0 made ≡ Some y in
    All-contains P made x (All-from_recursion P made (each_found made rise)) h

abbrev kind_of_option : Option File → Option Kind
kind_of_option o = option_map (λ (f : File). f.kind) o

-- the kind of the root, or of a file of the manifest
manifest_kind : (lines : List Line) (file : FileId) → option_map (λ (f : File). f.kind) (get (files_from 2 lines) file.0) ≡ (if file.0 == 1 then Some Dir else option_map (λ (line : Line). line.file.kind) (line_of lines file))
manifest_kind lines file =
    elim (file.0 == 1) as (λ b. (file.0 == 1) ≡ b → kind_of_option (get (files_from 2 lines) file.0) ≡ (if b then Some Dir else option_map (λ (line : Line). line.file.kind) (line_of lines file))) [
      | true ↦ λ e. let one : file.0 ≡ 1 = grind (arith, nat_tests) in ap (λ id. kind_of_option (get (files_from 2 lines) id)) one ∙ ap kind_of_option (root_of_files 2 lines (omega arith))
      | false ↦ λ e. elim (line_of lines file) as (λ o. line_of lines file ≡ o → kind_of_option (get (files_from 2 lines) file.0) ≡ option_map (λ (line : Line). line.file.kind) o) [
        | Some line ↦ λ g. ap kind_of_option (file_from_line lines file line g)
        | None ↦ λ g. ap kind_of_option (no_file lines file (λ one. let equal = eq-eqb file.0 1 one in absurd (cc (equal, e))) g)
      ] refl
    ] refl

module _ (m : Manifest) (c : Changes) (none : first_bad (is_bad_made m c.next_file) 1 None c.made ≡ None) where
  pub made_is_good : (x : Made) → Contains c.made x → IsGoodMade m c.next_file x
  made_is_good x h = All-contains (IsGoodMade m c.next_file) c.made x (All-from_recursion (IsGoodMade m c.next_file) c.made (made_good m c.next_file 1 c.made none)) h

  -- the manifest's file, or the one that was made
  pub changed_files : (id : ℕ) → get (files_with (files_from 2 m.lines) c.made) id ≡ option_or (get (files_from 2 m.lines) id) (option_map file_of_made (made_under id c.made))
  changed_files id =
      files_with-get (files_from 2 m.lines) c.made id
      ∙ (elim (made_under id c.made) as (λ o. made_under id c.made ≡ o → option_or (option_map file_of_made o) (get (files_from 2 m.lines) id) ≡ option_or (get (files_from 2 m.lines) id) (option_map file_of_made o)) [
        | None ↦ λ _. first_alone (get (files_from 2 m.lines) id)
        | Some x ↦ λ e.
            let found = found_made c.made id x e in
            let later = (made_is_good x found.0).later in
            ap (λ o. option_or o (Some (file_of_made x))) (sym (no_later_file m.lines id (omega (arith, later, found.1))))
      ] refl)
    where
      first_alone : (o : Option File) → o ≡ option_or o None
      first_alone None = refl
      first_alone (Some f) = refl

  pub changed_kind : (id : ℕ) → option_map (λ (f : File). f.kind) (get (files_with (files_from 2 m.lines) c.made) id) ≡ kind_with m c.made (record { 0 = id })
  changed_kind id =
      ap (option_map (λ (f : File). f.kind)) (changed_files id) ∙ kinds (get (files_from 2 m.lines) id) (made_under id c.made)
      ∙ ap (λ k. option_or k (option_map (λ (x : Made). kind_made x.kind) (made_under id c.made))) (manifest_kind m.lines (record { 0 = id }))
      ∙ root_first (id == 1) (option_map (λ (line : Line). line.file.kind) (line_of m.lines (record { 0 = id }))) (option_map (λ (x : Made). kind_made x.kind) (made_under id c.made))
    where
      root_first : (b : Bool) (o p : Option Kind) → option_or (if b then Some Dir else o) p ≡ (if b then Some Dir else option_or o p)
      root_first true o p = refl
      root_first false o p = refl

      kinds : (o : Option File) (p : Option Made) → option_map (λ (f : File). f.kind) (option_or o (option_map file_of_made p)) ≡ option_or (option_map (λ (f : File). f.kind) o) (option_map (λ (x : Made). kind_made x.kind) p)
      kinds None None = refl
      kinds None (Some x) = refl
      kinds (Some f) p = refl

  abbrev tree : Tree
  tree = changed m c

  is_made : (x : Made) → Contains c.made x → IsMade tree x
  is_made x h =
      let found = found_listed c.made (ids_rise m c.next_file 1 c.made none) x h in
      let later = (made_is_good x h).later in
      record {
        later = omega (arith, later);
        file = files_with-get (files_from 2 m.lines) c.made x.file.0 ∙ ap (λ o. option_or (option_map file_of_made o) (get (files_from 2 m.lines) x.file.0)) found;
      }

  listed : (x : Made) → IsMade tree x → Contains c.made x
  listed x h =
      let there = sym (changed_files x.file.0 ∙ ap (λ o. option_or o (option_map file_of_made (made_under x.file.0 c.made))) (no_later_file m.lines x.file.0 h.later)) ∙ h.file in
      elim (made_under x.file.0 c.made) as (λ o. made_under x.file.0 c.made ≡ o → option_map file_of_made o ≡ Some (made_file x.kind x.perm) → Contains c.made x) [
        | None ↦ λ e g. absurd (cc)
        | Some y ↦ λ e g.
            let found = found_made c.made x.file.0 y e in
            let same : file_of_made y ≡ file_of_made x = cc in
            let id = same_id y.file x.file found.1 in
            let kinds_same = made_kinds_same y.kind x.kind (ap (λ (f : File). f.kind) same) in
            let is_x : y ≡ x = λ i. record { file = id i; kind = kinds_same i; perm = (same i).perm } in
            subst (Contains c.made) is_x found.0
      ] refl there

  -- those that were made are the tree's
  pub changed_has_made : AreMade (changed m c) c.made
  changed_has_made = record { rising = ids_rise m c.next_file 1 c.made none; each = λ x. (is_made x, listed x) }
