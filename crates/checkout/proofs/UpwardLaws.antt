-- Of trees whose directories each stand in another: where none is above itself, the way up ends at the root.
use Rattle.std.proofs.Common.{◌≡◌, ◌<◌, ◌+◌, ◌==◌, ◌||◌, ℕ, zero, suc, Bool, true, false, eqb, List, [], ◌∷◌, length, Some, refl, sym, ap, subst, ◌∙◌, arith}
use Rattle.std.proofs.lemmas.Bool.Decides.{nat_tests}
use Rattle.std.proofs.lemmas.Map.Keys.{IsDistinct-cons}
use Rattle.std.proofs.lemmas.Map.Steps.{length-le_from_distinct_below}
use Rattle.std.specs.List.{AllByRecursion, IsDistinct, list_any}
use Rattle.std.specs.Option.{option_and_then}
use Rattle.eden_base.specs.declared.number.FileId.{FileId}
use Rattle.manifest.specs.Tree.{Tree, child_of, file_at, root}
use Rattle.manifest.proofs.ManifestTree.{file_with, same_id}

-- where no element passes each fails
none_passes : {X : Type 0} (test : X → Bool) (xs : List X) → list_any test xs ≡ false → AllByRecursion (λ x. test x ≡ false) xs
none_passes test [] h = tt
none_passes test (x ∷ xs) h =
    elim (test x) as (λ b. test x ≡ b → (b || list_any test xs) ≡ false → AllByRecursion (λ y. test y ≡ false) (x ∷ xs)) [
      | true ↦ λ e g. absurd (cc)
      | false ↦ λ e g. (e, none_passes test xs g)
    ] refl h

none_apart : IsDistinct eqb []
unfolding IsDistinct
none_apart = tt

-- the files that stand below a directory on the way up, and itself: no id twice, each below the next, each reached
pub record IsWayUp (t : Tree) (dir : FileId) (seen : List ℕ) : Type 0 where
  pub apart : IsDistinct eqb seen
  pub below : (q : ℕ) → list_any (eqb q) seen ≡ true → q < t.next_file
  pub reached : (q : ℕ) → list_any (eqb q) seen ≡ true → (names : List (List ℕ)) × (file_at t dir names ≡ Some (file_with q))

module _ (t : Tree) (dirs_below : (dir : FileId) (name : List ℕ) (file : FileId) → child_of t dir name ≡ Some file → dir.0 < t.next_file)
    (no_circle : (dir : FileId) (name : List ℕ) (file : FileId) (names : List (List ℕ)) → child_of t dir name ≡ Some file → file_at t file names ≡ Some dir → ⊥) where
  pub one_up : (above : FileId) (own : List ℕ) (dir : FileId) (seen : List ℕ) → child_of t above own ≡ Some dir → IsWayUp t dir seen → IsWayUp t above (above.0 ∷ seen)
  one_up above own dir seen link way = record {
    apart = IsDistinct-cons eqb above.0 seen (none_passes (eqb above.0) seen not_seen) way.apart;
    below = λ q h. elim (eqb q above.0) as (λ b. eqb q above.0 ≡ b → (b || list_any (eqb q) seen) ≡ true → q < t.next_file) [
      | true ↦ λ e _. let at = dirs_below above own dir link in grind (arith, nat_tests)
      | false ↦ λ _ g. way.below q g
    ] refl h;
    reached = λ q h. elim (eqb q above.0) as (λ b. eqb q above.0 ≡ b → (b || list_any (eqb q) seen) ≡ true → (names : List (List ℕ)) × (file_at t above names ≡ Some (file_with q))) [
      | true ↦ λ e _. let same : above.0 ≡ q = grind (arith, nat_tests) in ([], ap (λ n. Some (file_with n)) same)
      | false ↦ λ _ g. let r = way.reached q g in (own ∷ r.0, ap (option_and_then (λ (child : FileId). file_at t child r.0)) link ∙ r.1)
    ] refl h;
  }
    where
      not_seen : list_any (eqb above.0) seen ≡ false
      not_seen =
          elim (list_any (eqb above.0) seen) as (λ b. list_any (eqb above.0) seen ≡ b → b ≡ false) [
            | true ↦ λ e. let r = way.reached above.0 e in absurd (no_circle above own dir r.0 link r.1)
            | false ↦ λ _. refl
          ] refl

-- a way up begins at a file of the tree
pub begins : (t : Tree) (dir : FileId) → dir.0 < t.next_file → IsWayUp t dir (dir.0 ∷ [])
begins t dir is_below = record {
  apart = IsDistinct-cons eqb dir.0 [] tt none_apart;
  below = λ q h. subst (λ n. n < t.next_file) (itself q h) is_below;
  reached = λ q h. ([], ap (λ n. Some (file_with n)) (itself q h));
}
  where
    itself : (q : ℕ) → (eqb q dir.0 || false) ≡ true → dir.0 ≡ q
    itself q h =
        elim (eqb q dir.0) as (λ b. eqb q dir.0 ≡ b → (b || false) ≡ true → dir.0 ≡ q) [
          | true ↦ λ e _. grind (arith, nat_tests)
          | false ↦ λ _ g. absurd (cc)
        ] refl h

module _ (t : Tree) (dirs_below : (dir : FileId) (name : List ℕ) (file : FileId) → child_of t dir name ≡ Some file → dir.0 < t.next_file)
    (up : (dir : FileId) (name : List ℕ) (file : FileId) → child_of t dir name ≡ Some file → (dir.0 == 1) ≡ false → (above : FileId) × (own : List ℕ) × (child_of t above own ≡ Some dir))
    (no_circle : (dir : FileId) (name : List ℕ) (file : FileId) (names : List (List ℕ)) → child_of t dir name ≡ Some file → file_at t file names ≡ Some dir → ⊥) where
  -- no more files are seen than there are
  climb : (left : ℕ) (dir : FileId) (name : List ℕ) (child : FileId) (path : List (List ℕ)) (file : FileId) (seen : List ℕ) →
      child_of t dir name ≡ Some child → file_at t dir path ≡ Some file → IsWayUp t dir seen → t.next_file < length seen + left → (path : List (List ℕ)) × (file_at t root path ≡ Some file)
  climb zero dir name child path file seen link to_file way more =
      let few = length-le_from_distinct_below seen t.next_file way.apart way.below in
      absurd (omega (arith, few, more))
  climb (suc left) dir name child path file seen link to_file way more =
      elim (dir.0 == 1) as (λ b. (dir.0 == 1) ≡ b → (path : List (List ℕ)) × (file_at t root path ≡ Some file)) [
        | true ↦ λ e.
            let one : dir.0 ≡ 1 = grind (arith, nat_tests) in
            (path, ap (λ d. file_at t d path) (sym (same_id dir root one)) ∙ to_file)
        | false ↦ λ e.
            let w = up dir name child link e in
            climb left w.0 w.1 dir (w.1 ∷ path) file (w.0.0 ∷ seen) w.2 (ap (option_and_then (λ (d : FileId). file_at t d path)) w.2 ∙ to_file) (one_up t dirs_below no_circle w.0 w.1 dir seen w.2 way) (omega (arith, more))
      ] refl

  pub reached_from_root : (dir : FileId) (name : List ℕ) (file : FileId) → child_of t dir name ≡ Some file → (path : List (List ℕ)) × (file_at t root path ≡ Some file)
  reached_from_root dir name file link =
      climb t.next_file dir name file (name ∷ []) file (dir.0 ∷ []) link (ap (option_and_then (λ (d : FileId). file_at t d [])) link) (begins t dir (dirs_below dir name file link)) (omega arith)
