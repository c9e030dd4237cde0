-- A list of files without one twice, all below a room, is no longer than the room.
use Rattle.std.proofs.Common.{◌≡◌, ℕ, ◌+◌, ◌<◌, ◌≤◌, ◌==◌, ◌||◌, Bool, true, false, eqb, nat_lt, if◌then◌else◌, List, [], ◌∷◌, ◌++◌, length, refl, sym, ap, subst, ◌∙◌, arith}
use Rattle.std.proofs.Math.Bool.{or-true}
use Rattle.std.proofs.lemmas.Bool.Decides.{nat_tests}
use Rattle.std.proofs.lemmas.Map.Keys.{IsDistinct-cons, IsDistinct-push}
use Rattle.std.proofs.lemmas.Map.Steps.{length-le_from_distinct_below}
use Rattle.std.specs.Cmp.{nat_eq_equiv}
use Rattle.std.specs.List.{AllByRecursion, IsDistinct, list_any}
use Rattle.checkout.specs.UnlinkedFiles.{UnlinkedFiles, is_gone, AreMarks}
use Rattle.manifest.specs.Tally.{Tally, count_of}

pub none-IsDistinct : IsDistinct eqb []
unfolding IsDistinct
none-IsDistinct = tt

pub length-push : (fs : List ℕ) (file : ℕ) → length (fs ++ file ∷ []) ≡ length fs + 1
length-push [] file = refl
length-push (f ∷ fs) file = let rest = length-push fs file in omega (arith, rest)

-- a file that is added is gone, and each other as before
pub has-push : (fs : List ℕ) (file q : ℕ) → list_any (λ f. q == f) (fs ++ file ∷ []) ≡ ((q == file) || list_any (λ f. q == f) fs)
has-push [] file q = refl
has-push (f ∷ fs) file q =
    let rest = has-push fs file q in
    rw rest (elim (q == f) as (λ b. (b || ((q == file) || list_any (λ x. q == x) fs)) ≡ ((q == file) || (b || list_any (λ x. q == x) fs))) [ true ↦ sym (or-true (q == file)) | false ↦ refl ])

pub is_gone-added : (old new : UnlinkedFiles) (file : ℕ) → new.files ≡ old.files ++ file ∷ [] → (q : ℕ) → is_gone new q ≡ ((q == file) || is_gone old q)
is_gone-added old new file added q = ap (list_any (λ f. q == f)) added ∙ has-push old.files file q

module _ (fs : List ℕ) (file : ℕ) (new : list_any (λ f. file == f) fs ≡ false) where
  abbrev with_file : ℕ → Bool
  with_file q = list_any (λ f. q == f) (fs ++ file ∷ [])

  -- marks of the files with a mark of 1 for one more
  pub marks-push : (old marks : Tally) → AreMarks (λ q. list_any (λ f. q == f) fs) old → ((q : ℕ) → count_of marks q ≡ (if q == file then 1 else count_of old q)) → AreMarks with_file marks
  marks-push old marks are set = (marked, reach) where
    marked : (q : ℕ) → nat_lt 0 (count_of marks q) ≡ with_file q
    marked q =
        ap (nat_lt 0) (set q) ∙ (elim (q == file) as (λ b. nat_lt 0 (if b then 1 else count_of old q) ≡ (b || list_any (λ f. q == f) fs)) [
          | true ↦ refl
          | false ↦ are.0 q
        ]) ∙ sym (has-push fs file q)

    reach : (q x : ℕ) → q ≤ x → x < q + count_of marks q → with_file x ≡ true
    reach q x low high =
        elim (q == file) as (λ b. (q == file) ≡ b → x < q + (if b then 1 else count_of old q) → with_file x ≡ true) [
          | true ↦ λ e lt.
              let same : q ≡ file = grind (arith, nat_tests) in
              let is : x ≡ file = omega (arith, same, low, lt) in
              let test : (x == file) ≡ true = grind (arith, nat_tests) in
              has-push fs file x ∙ ap (λ b. b || list_any (λ f. x == f) fs) test
          | false ↦ λ e lt. has-push fs file x ∙ ap (λ b. (x == file) || b) (are.1 q x low lt) ∙ or-true (x == file)
        ] refl (subst (λ n. x < q + n) (set q) high)

  all_other : (xs : List ℕ) → list_any (λ f. file == f) xs ≡ false → AllByRecursion (λ y. eqb file y ≡ false) xs
  all_other [] h = tt
  all_other (x ∷ xs) h =
      elim (file == x) as (λ b. (file == x) ≡ b → (b || list_any (λ f. file == f) xs) ≡ false → AllByRecursion (λ y. eqb file y ≡ false) (x ∷ xs)) [
        | true ↦ λ e k. absurd (cc)
        | false ↦ λ e k. (e, all_other xs k)
      ] refl h

  -- there is room for one more
  pub length_below : (room : ℕ) → IsDistinct eqb fs → ((q : ℕ) → list_any (λ f. q == f) fs ≡ true → q < room) → file < room → length fs + 1 ≤ room
  length_below room apart below within =
      let more = length-le_from_distinct_below (file ∷ fs) room (IsDistinct-cons eqb file fs (all_other fs new) apart) below_all in
      omega (arith, more)
    where
      below_all : (q : ℕ) → list_any (eqb q) (file ∷ fs) ≡ true → q < room
      below_all q h =
          elim (q == file) as (λ b. (q == file) ≡ b → (b || list_any (λ f. q == f) fs) ≡ true → q < room) [
            | true ↦ λ e _. let same : q ≡ file = grind (arith, nat_tests) in omega (arith, same, within)
            | false ↦ λ _ k. below q k
          ] refl h

  pub below-push : (room : ℕ) → ((q : ℕ) → list_any (λ f. q == f) fs ≡ true → q < room) → file < room → (q : ℕ) → list_any (λ f. q == f) (fs ++ file ∷ []) ≡ true → q < room
  below-push room below within q h =
      elim (q == file) as (λ b. (q == file) ≡ b → (b || list_any (λ f. q == f) fs) ≡ true → q < room) [
        | true ↦ λ e _. let same : q ≡ file = grind (arith, nat_tests) in omega (arith, same, within)
        | false ↦ λ _ k. below q k
      ] refl (sym (has-push fs file q) ∙ h)

  pub distinct-push : IsDistinct eqb fs → IsDistinct eqb (fs ++ file ∷ [])
  distinct-push apart = IsDistinct-push nat_eq_equiv fs file apart new
