-- A way up, step by step.
use Rattle.std.proofs.Common.{◌≡◌, ◌==◌, ◌||◌, ◌⊎◌, ◌+◌, ◌≤◌, ◌<◌, ℕ, Bool, true, false, List, [], ◌∷◌, ◌++◌, length, Option, Some, None, is_some, if◌then◌else◌, eqb, refl, sym, ap, subst, ◌∙◌, inl, inr, arith, eq-eqb}
use Rattle.std.proofs.lemmas.Bool.Decides.{nat_tests}
use Rattle.std.specs.Cmp.{nat_cmp_total}
use Rattle.std.specs.FinMap.{FinMap, get, insert, nat_cmp-IsAntisymmetric}
use Rattle.std.specs.List.{list_any, IsDistinct}
use Rattle.std.specs.Ordering.{nat_cmp}
use Rattle.eden_base.specs.declared.number.FileId.{FileId}
use Rattle.checkout.specs.Around.{among, ids, IsClimb, IsDirAbove}
use Rattle.manifest.specs.Tree.{link_cmp}
use Rattle.checkout.proofs.AroundWays.{goes_on}
use Rattle.checkout.proofs.UnlinkedLemmas.{below-push, distinct-push, length_below}
use Rattle.manifest.proofs.MapLemmas.{get-insert_other, get-insert_same}

pub none-IsClimb : (links : FinMap link_cmp FileId) (colours : FinMap nat_cmp Bool) (top : Option FileId) → IsClimb links colours colours [] top
none-IsClimb links colours top = record { is_way = tt; were_new = λ file h. absurd (cc); are_set = λ file. refl }

-- one file more at the end
pub among-push : (file x : FileId) (xs : List FileId) → among file (xs ++ x ∷ []) ≡ (among file xs || (x.0 == file.0))
among-push file x [] = elim (x.0 == file.0) as (λ b. (b || false) ≡ b) [ true ↦ refl | false ↦ refl ]
among-push file x (y ∷ ys) = elim (y.0 == file.0) as (λ b. (b || among file (ys ++ x ∷ [])) ≡ ((b || among file ys) || (x.0 == file.0))) [ true ↦ refl | false ↦ among-push file x ys ]

ids-push : (way : List FileId) (at : FileId) → ids (way ++ at ∷ []) ≡ ids way ++ at.0 ∷ []
ids-push [] at = refl
ids-push (x ∷ xs) at = ap (λ ns. x.0 ∷ ns) (ids-push xs at)

length-ids : (way : List FileId) → length (ids way) ≡ length way
length-ids [] = refl
length-ids (x ∷ xs) = let e = length-ids xs in omega (arith, e)

-- without a colour
pub none_from : {X : Type 0} (o : Option X) → is_some o ≡ false → o ≡ None
none_from None h = refl
none_from (Some x) h = absurd (cc)

module _ (links : FinMap link_cmp FileId) (old new : FinMap nat_cmp Bool) (way : List FileId) (at : FileId) (climb : IsClimb links old new way (Some at)) (white : get new at.0 ≡ None) where
  not_yet : among at way ≡ false
  not_yet = elim (among at way) as (λ b. among at way ≡ b → b ≡ false) [
    | false ↦ λ e. refl
    | true ↦ λ e. let set = climb.are_set at ∙ ap (λ b. if b then Some false else get old at.0) e in absurd (cc (set, white))
  ] refl

  was_white : get old at.0 ≡ None
  was_white = ap (λ b. if b then Some false else get old at.0) (sym not_yet) ∙ sym (climb.are_set at) ∙ white

  -- the way goes on by a file without a colour
  pub climb_on : (next : FinMap nat_cmp Bool) (top : Option FileId) → next ≡ insert new at.0 false → IsDirAbove links at top → IsClimb links old next (way ++ at ∷ []) top
  climb_on next top is above = record {
    is_way = goes_on links way at top climb.is_way above;
    were_new = λ file h. elim (among file way) as (λ b. among file way ≡ b → (b || (at.0 == file.0)) ≡ true → get old file.0 ≡ None) [
      | true ↦ λ e _. climb.were_new file e
      | false ↦ λ e g. let same : at.0 ≡ file.0 = grind (arith, nat_tests) in ap (get old) (sym same) ∙ was_white
    ] refl (sym (among-push file at way) ∙ h);
    are_set = λ file. set_more file ∙ ap (λ b. if b then Some false else get old file.0) (sym (among-push file at way));
  }
    where
      set_more : (file : FileId) → get next file.0 ≡ (if among file way || (at.0 == file.0) then Some false else get old file.0)
      set_more file =
          elim (at.0 == file.0) as (λ b. (at.0 == file.0) ≡ b → get next file.0 ≡ (if among file way || b then Some false else get old file.0)) [
            | true ↦ λ e.
                let same : at.0 ≡ file.0 = grind (arith, nat_tests) in
                ap (λ m. get m file.0) is ∙ ap (get (insert new at.0 false)) (sym same) ∙ get-insert_same nat_cmp_total new at.0 false
                ∙ (elim (among file way) as (λ b. Some false ≡ (if b || true then Some false else get old file.0)) [ true ↦ refl | false ↦ refl ])
            | false ↦ λ e.
                ap (λ m. get m file.0) is ∙ get-insert_other nat_cmp_total nat_cmp-IsAntisymmetric new at.0 false file.0 (λ same. let yes = eq-eqb at.0 file.0 (sym same) in cc (yes, e))
                ∙ climb.are_set file ∙ (elim (among file way) as (λ b. (if b then Some false else get old file.0) ≡ (if b || false then Some false else get old file.0)) [ true ↦ refl | false ↦ refl ])
          ] refl

  -- the file's id is new among those of the way
  pub id_is_new : list_any (λ f. at.0 == f) (ids way) ≡ false
  id_is_new = in_ids way not_yet
    where
      in_ids : (xs : List FileId) → among at xs ≡ false → list_any (λ f. at.0 == f) (ids xs) ≡ false
      in_ids [] h = refl
      in_ids (x ∷ xs) h =
          elim (x.0 == at.0) as (λ b. (x.0 == at.0) ≡ b → (b || among at xs) ≡ false → (at.0 == x.0 || list_any (λ f. at.0 == f) (ids xs)) ≡ false) [
            | true ↦ λ e g. absurd (cc)
            | false ↦ λ e g. let other : (at.0 == x.0) ≡ false = grind (arith, nat_tests) in ap (λ b. b || list_any (λ f. at.0 == f) (ids xs)) other ∙ in_ids xs g
          ] refl h

  -- where the way began has a colour
  pub began_coloured : (next : FinMap nat_cmp Bool) (file : FileId) → next ≡ insert new at.0 false → (at ≡ file) ⊎ (is_some (get new file.0) ≡ true) → is_some (get next file.0) ≡ true
  began_coloured next file is began =
      elim (at.0 == file.0) as (λ b. (at.0 == file.0) ≡ b → is_some (get next file.0) ≡ true) [
        | true ↦ λ e.
            let same : at.0 ≡ file.0 = grind (arith, nat_tests) in
            ap (λ m. is_some (get m file.0)) is ∙ ap (λ q. is_some (get (insert new at.0 false) q)) (sym same) ∙ ap is_some (get-insert_same nat_cmp_total new at.0 false)
        | false ↦ λ e.
            let other : at.0 ≡ file.0 → ⊥ = λ same. let yes = eq-eqb at.0 file.0 same in cc (yes, e) in
            ap (λ m. is_some (get m file.0)) is ∙ ap is_some (get-insert_other nat_cmp_total nat_cmp-IsAntisymmetric new at.0 false file.0 (λ same. other (sym same)))
            ∙ (elim began [ inl same ↦ absurd (other (ap (λ (f : FileId). f.0) same)) | inr had ↦ had ])
      ] refl

  -- the ids stay apart and below a bound, so there are no more than it
  pub distinct_on : IsDistinct eqb (ids way) → IsDistinct eqb (ids (way ++ at ∷ []))
  distinct_on apart = subst (λ (xs : List ℕ). IsDistinct eqb xs) (sym (ids-push way at)) (distinct-push (ids way) at.0 id_is_new apart)

  pub fit_on : (room : ℕ) → ((q : ℕ) → list_any (λ f. q == f) (ids way) ≡ true → q < room) → at.0 < room → (q : ℕ) → list_any (λ f. q == f) (ids (way ++ at ∷ [])) ≡ true → q < room
  fit_on room fit within q h = below-push (ids way) at.0 id_is_new room fit within q (ap (list_any (λ f. q == f)) (sym (ids-push way at)) ∙ h)

  pub room_left : (room : ℕ) → IsDistinct eqb (ids way) → ((q : ℕ) → list_any (λ f. q == f) (ids way) ≡ true → q < room) → at.0 < room → length way + 1 ≤ room
  room_left room apart fit within =
      let more = length_below (ids way) at.0 id_is_new room apart fit within in
      let as_many = length-ids way in
      omega (arith, more, as_many)
