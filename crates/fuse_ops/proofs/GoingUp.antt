-- Going up from a file tells who stands above it.
use Rattle.std.proofs.Common.{◌≡◌, ℕ, zero, suc, ◌+◌, ◌==◌, Bool, true, false, ◌||◌, T, List, [], ◌∷◌, Option, Some, None, cond, refl, sym, ap, ◌∙◌, subst, arith}
use Rattle.std.proofs.Math.Facts.{and_yes}
use Rattle.std.specs.Prelude.{◌↔◌}
use Rattle.std.specs.Cmp.{tied_itself}
use Rattle.std.specs.FinMap.{entries, entries_sorted, find, get-entries}
use Rattle.std.specs.FinMap.Entries.{below_all, is_sorted}
use Rattle.std.specs.List.{list_any}
use Rattle.std.specs.Option.{option_map, option_map_or}
use Rattle.std.specs.Ordering.{is_eq}
use Rattle.eden_base.specs.First.{first_where}
use Rattle.eden_base.specs.declared.number.FileId.{FileId}
use Rattle.eden_base.proofs.MemberLemmas.{first-passes}
use Rattle.eden_base.proofs.NumberTests.{eq-true, true-eq}
use Rattle.manifest.specs.Tree.{Tree, IsTree, link_cmp}
use Rattle.manifest.proofs.FlatLemmas.{link_cmp_total}
use Rattle.manifest.proofs.ManifestTree.{same_id}
use Rattle.manifest.proofs.MapLemmas.{list_any-entries, no_tie_behind}
use Rattle.checkout.specs.Around.{IsDirAbove}
use Rattle.checkout.specs.RenamedTree.{IsAtOrAbove}
use Rattle.checkout.proofs.StandsAbove.{IsOnWay, none_above_next, on_way-ends, on_way-start, on_way-up}
use Rattle.fuse_ops.specs.Above.{gives_file, dir_above, is_above_within, is_at_or_above}

abbrev Link : Type 0
Link = (ℕ × List ℕ) × FileId

-- of links that rise the first that gives a file is found at its place
first-found : (file : FileId) (links : List Link) (link : Link) → T (is_sorted link_cmp links) → first_where (gives_file file) links ≡ Some link → find link_cmp link.0 links ≡ Some link.1
first-found file [] link rise h = absurd (let none : ⊥ = cc in none)
first-found file (x ∷ links) link rise h = in_ (gives_file file x) h (λ rise' g. first-found file links link rise' g) where
  parts : T (below_all link_cmp x.0 links) × T (is_sorted link_cmp links)
  parts = and_yes (below_all link_cmp x.0 links) (is_sorted link_cmp links) rise

  in_ : (b : Bool) → cond b (Some x) (first_where (gives_file file) links) ≡ Some link →
      (T (is_sorted link_cmp links) → first_where (gives_file file) links ≡ Some link → find link_cmp link.0 links ≡ Some link.1) → find link_cmp link.0 (x ∷ links) ≡ Some link.1
  in_ true g rest =
      let same : x ≡ link = cc in
      subst (λ (y : Link). find link_cmp y.0 (x ∷ links) ≡ Some y.1) same (ap (λ r. cond (is_eq r) (Some x.1) (find link_cmp x.0 links)) (tied_itself link_cmp_total x.0))
  in_ false g rest =
      let later = rest parts.1 g in
      ap (λ b. cond b (Some x.1) (find link_cmp link.0 links)) (no_tie_behind link_cmp_total x.0 link.0 links link.1 parts.0 later) ∙ later

-- if no link passes there is none
none-passes : (file : FileId) (links : List Link) → first_where (gives_file file) links ≡ None → list_any (gives_file file) links ≡ false
none-passes file [] h = refl
none-passes file (x ∷ links) h = in_ (gives_file file x) h (λ g. none-passes file links g) where
  in_ : (b : Bool) → cond b (Some x) (first_where (gives_file file) links) ≡ None → (first_where (gives_file file) links ≡ None → list_any (gives_file file) links ≡ false) → (b || list_any (gives_file file) links) ≡ false
  in_ true g rest = absurd (let none : ⊥ = cc in none)
  in_ false g rest = rest g

-- the directory above is one in which the file stands
pub above-stands : (tree : Tree) (file : FileId) → IsDirAbove tree.links file (dir_above tree file)
above-stands tree file = in_ (first_where (gives_file file) (entries tree.links)) refl where
  in_ : (o : Option Link) → first_where (gives_file file) (entries tree.links) ≡ o → IsDirAbove tree.links file (option_map (λ (link : Link). record { 0 = link.0.0 }) o)
  in_ (Some link) e =
      let id : link.1.0 ≡ file.0 = true-eq link.1.0 file.0 (first-passes (entries tree.links) (gives_file file) link e) in
      (link.0.1, get-entries tree.links link.0 ∙ first-found file (entries tree.links) link (entries_sorted tree.links) e ∙ ap (λ (f : FileId). Some f) (same_id link.1 file id))
  in_ None e = λ dir s.
      let some : list_any (gives_file file) (entries tree.links) ≡ true = list_any-entries (λ (f : FileId). f.0 == file.0) tree.links (dir.0, s.0) file s.1 (eq-true file.0 file.0 refl) in
      let c : true ≡ false = sym some ∙ none-passes file (entries tree.links) e in
      let none : ⊥ = cc in none

module _ (tree : Tree) (is : IsTree tree) (file other : FileId) where
  -- what is told from a file on the way up is right
  abbrev Tells : ℕ → FileId → Type 0
  Tells levels at = (is_above_within levels tree file at ≡ true → IsAtOrAbove tree file other) × (IsAtOrAbove tree file other → is_above_within levels tree file at ≡ true)

  tells : (levels : ℕ) (at : FileId) (steps : ℕ) → IsOnWay tree file other at steps → steps + levels ≡ tree.next_file → Tells levels at
  tells zero at steps way sum = absurd (on_way-ends tree is file other at steps way (omega arith))
  tells (suc levels) at steps way sum = in_ (at.0 == file.0) refl (λ dir up. tells levels dir (steps + 1) up (omega arith)) where
    differ : (at.0 == file.0) ≡ false → file ≡ at → ⊥
    differ apart same = let yes : (at.0 == file.0) ≡ true = eq-true at.0 file.0 (ap (λ (f : FileId). f.0) (sym same)) in let no : ⊥ = cc in no

    rest_in : (at.0 == file.0) ≡ false → (o : Option FileId) → IsDirAbove tree.links at o → ((dir : FileId) → IsOnWay tree file other dir (steps + 1) → Tells levels dir) →
        (option_map_or (is_above_within levels tree file) o false ≡ true → IsAtOrAbove tree file other) × (IsAtOrAbove tree file other → option_map_or (is_above_within levels tree file) o false ≡ true)
    rest_in apart None none later = (λ h. absurd (let no : ⊥ = cc in no), λ above. absurd (none_above_next tree is file at (differ apart) (way.left above) none))
    rest_in apart (Some dir) s later = later dir (on_way-up tree is file other at dir steps way (differ apart) s)

    in_ : (b : Bool) → (at.0 == file.0) ≡ b → ((dir : FileId) → IsOnWay tree file other dir (steps + 1) → Tells levels dir) →
        ((b || option_map_or (is_above_within levels tree file) (dir_above tree at) false) ≡ true → IsAtOrAbove tree file other)
        × (IsAtOrAbove tree file other → (b || option_map_or (is_above_within levels tree file) (dir_above tree at) false) ≡ true)
    in_ true e later = (λ h. subst (λ (f : FileId). IsAtOrAbove tree f other) (same_id at file (true-eq at.0 file.0 e)) way.came, λ h. refl)
    in_ false e later = rest_in e (dir_above tree at) (above-stands tree at) later

  -- Going up from a file tells whether another is it or stands above it.
  pub above-tells : is_at_or_above tree file other ≡ true ↔ IsAtOrAbove tree file other
  above-tells = tells tree.next_file other 0 (on_way-start tree is file other) (omega arith)
