-- Files stay rightly coloured where those of a way up are coloured.
use Rattle.std.proofs.Common.{◌≡◌, ◌+◌, ◌<◌, length, drop, get_or, drop-cons, suc, ◌==◌, ◌||◌, ◌⊎◌, ℕ, Bool, true, false, List, ◌∷◌, Option, Some, None, is_some, if◌then◌else◌, refl, sym, ap, subst, ◌∙◌, inl, inr, arith, eq-eqb}
use Rattle.std.proofs.lemmas.Bool.Decides.{nat_tests}
use Rattle.std.specs.Cmp.{nat_cmp_total}
use Rattle.std.specs.FinMap.{FinMap, empty, get, get-empty, insert, nat_cmp-IsAntisymmetric}
use Rattle.std.specs.Ordering.{nat_cmp}
use Rattle.eden_base.specs.declared.number.FileId.{FileId}
use Rattle.checkout.specs.Around.{among, from_file, AreApart, AreRight, AreSet, IsClimb, IsEnd, IsUnder, IsWay}
use Rattle.manifest.specs.Tree.{link_cmp, StandsIn}
use Rattle.checkout.proofs.AroundPaths.{told_above}
use Rattle.checkout.proofs.AroundWays.{circle_to_top, dir_of_way, first_among, is_circle, ToTop}
use Rattle.manifest.proofs.MapLemmas.{get-insert_other, get-insert_same}
use Rattle.checkout.proofs.FilesFrom.{among_from, from_none, from_there, way_from}

module _ (links : FinMap link_cmp FileId) where
  pub none-AreRight : AreRight links empty
  none-AreRight = record {
    on = λ f h. let e = get-empty {X = Bool} nat_cmp f.0 in absurd (cc (e, h));
    off = λ f h. let e = get-empty {X = Bool} nat_cmp f.0 in absurd (cc (e, h));
    closed = λ f d h. let e = ap is_some (get-empty {X = Bool} nat_cmp f.0) in absurd (cc (e, h));
  }

-- one more of some files has its colour
pub set_step : (colour : Bool) (x : FileId) (xs : List FileId) (old new : FinMap nat_cmp Bool) → new ≡ insert old x.0 colour → (file : FileId) →
    (if among file xs then Some colour else get new file.0) ≡ (if among file (x ∷ xs) then Some colour else get old file.0)
set_step colour x xs old new is file =
    elim (x.0 == file.0) as (λ b. (x.0 == file.0) ≡ b → (if among file xs then Some colour else get new file.0) ≡ (if b || among file xs then Some colour else get old file.0)) [
      | true ↦ λ e.
          let same : x.0 ≡ file.0 = grind (arith, nat_tests) in
          let here : get new file.0 ≡ Some colour = ap (λ m. get m file.0) is ∙ ap (get (insert old x.0 colour)) (sym same) ∙ get-insert_same nat_cmp_total old x.0 colour in
          ap (λ o. if among file xs then Some colour else o) here ∙ (elim (among file xs) as (λ b. (if b then Some colour else Some colour) ≡ Some colour) [ true ↦ refl | false ↦ refl ])
      | false ↦ λ e.
          let there : get new file.0 ≡ get old file.0 = ap (λ m. get m file.0) is ∙ get-insert_other nat_cmp_total nat_cmp-IsAntisymmetric old x.0 colour file.0 (λ same. let yes = eq-eqb x.0 file.0 (sym same) in cc (yes, e)) in
          ap (λ o. if among file xs then Some colour else o) there
    ] refl

pub set_next : (colour : Bool) (files : List FileId) (i : ℕ) (d : FileId) (old new : FinMap nat_cmp Bool) → i < length files → new ≡ insert old (get_or files i d).0 colour → (file : FileId) →
    (if among file (drop (i + 1) files) then Some colour else get new file.0) ≡ (if among file (drop i files) then Some colour else get old file.0)
set_next colour files i d old new within is file =
    let one : suc i ≡ i + 1 = omega arith in
    let left : drop i files ≡ get_or files i d ∷ drop (i + 1) files = drop-cons files i d within ∙ ap (λ (n : ℕ). get_or files i d ∷ drop n files) one in
    set_step colour (get_or files i d) (drop (i + 1) files) old new is file ∙ ap (λ xs. if among file xs then Some colour else get old file.0) (sym left)

-- where some files were given a colour
module _ (files : List FileId) (colour : Bool) (old new : FinMap nat_cmp Bool) (set : AreSet files colour old new) where
  pub set_among : (file : FileId) → among file files ≡ true → get new file.0 ≡ Some colour
  set_among file h = set file ∙ ap (λ b. if b then Some colour else get old file.0) h

  pub set_beside : (file : FileId) → among file files ≡ false → get new file.0 ≡ get old file.0
  set_beside file h = set file ∙ ap (λ b. if b then Some colour else get old file.0) h

  -- a file that has a colour had one, or was given it
  pub set_or_had : (file : FileId) → is_some (get new file.0) ≡ true → (among file files ≡ true) ⊎ ((among file files ≡ false) × (is_some (get old file.0) ≡ true))
  set_or_had file h =
      elim (among file files) as (λ b. among file files ≡ b → (among file files ≡ true) ⊎ ((among file files ≡ false) × (is_some (get old file.0) ≡ true))) [
        | true ↦ λ e. inl e
        | false ↦ λ e. inr (e, sym (ap is_some (set_beside file e)) ∙ h)
      ] refl

  -- a file that had a colour has one
  pub set_keeps : (file : FileId) → is_some (get old file.0) ≡ true → is_some (get new file.0) ≡ true
  set_keeps file h =
      elim (among file files) as (λ b. among file files ≡ b → is_some (get new file.0) ≡ true) [
        | true ↦ λ e. ap is_some (set_among file e)
        | false ↦ λ e. ap is_some (set_beside file e) ∙ h
      ] refl

module _ (links : FinMap link_cmp FileId) (are : AreApart links) (old new : FinMap nat_cmp Bool) (way : List FileId) (top : Option FileId) (right : AreRight links old) (climb : IsClimb links old new way top) where
  -- what is above a file of the way, or above a coloured one, has a colour
  pub climb_closed : IsEnd new top → (file dir : FileId) → is_some (get new file.0) ≡ true → StandsIn links file dir → is_some (get new dir.0) ≡ true
  climb_closed end file dir h s =
      elim (set_or_had way false old new climb.are_set file h) [
        | inl there ↦ elim (dir_of_way links are way top file dir climb.is_way there s) [
          | inl above ↦ subst (λ (o : Option FileId). IsEnd new o) above end
          | inr on_way ↦ ap is_some (set_among way false old new climb.are_set dir on_way)
        ]
        | inr was ↦ set_keeps way false old new climb.are_set dir (right.closed file dir was.1 s)
      ]

  -- where a way up ends at a file that had a colour, or at none, none of its files is on a circle
  climb_off : (file : FileId) → among file way ≡ true → IsEnd old top → IsUnder links file file → ⊥
  climb_off file there end on = above top end (circle_to_top links are way top file climb.is_way there on)
    where
      above : (t : Option FileId) → IsEnd old t → ToTop links file t → ⊥
      above None end to = to
      above (Some t) end to =
          let had = told_above links (λ (f : FileId). is_some (get old f.0)) right.closed to.0 file t to.1 end in
          let none = ap is_some (climb.were_new file there) in
          cc (had, none)

  kept_end : IsEnd old top → IsEnd new top
  kept_end end = keep top end
    where
      keep : (t : Option FileId) → IsEnd old t → IsEnd new t
      keep None end = tt
      keep (Some t) end = set_keeps way false old new climb.are_set t end

  -- so the colours are right
  pub climb-AreRight : IsEnd old top → AreRight links new
  climb-AreRight end = record {
    on = λ file h. elim (among file way) as (λ b. among file way ≡ b → IsUnder links file file) [
      | true ↦ λ e. let off = set_among way false old new climb.are_set file e in absurd (cc (off, h))
      | false ↦ λ e. right.on file (sym (set_beside way false old new climb.are_set file e) ∙ h)
    ] refl;
    off = λ file h on. elim (among file way) as (λ b. among file way ≡ b → ⊥) [
      | true ↦ λ e. climb_off file e end on
      | false ↦ λ e. right.off file (sym (set_beside way false old new climb.are_set file e) ∙ h) on
    ] refl;
    closed = climb_closed (kept_end end);
  }

-- where a way up ends at one of its own files, those from it on are a circle
module _ (links : FinMap link_cmp FileId) (are : AreApart links) (old new marked : FinMap nat_cmp Bool) (way : List FileId) (top : FileId) (right : AreRight links old) (climb : IsClimb links old new way (Some top)) (end : is_some (get new top.0) ≡ true) (set : AreSet (from_file top way) true new marked) where
  marked_closed : (file dir : FileId) → is_some (get marked file.0) ≡ true → StandsIn links file dir → is_some (get marked dir.0) ≡ true
  marked_closed file dir h s =
      let was : is_some (get new file.0) ≡ true =
      elim (set_or_had (from_file top way) true new marked set file h) [
        | inl there ↦ ap is_some (set_among way false old new climb.are_set file (among_from top way file there))
        | inr had ↦ had.1
      ] in
      set_keeps (from_file top way) true new marked set dir (climb_closed links are old new way (Some top) right climb end file dir was s)

  -- what was marked before
  was_right : (colour : Bool) (file : FileId) → among file (from_file top way) ≡ false → get marked file.0 ≡ Some colour → get new file.0 ≡ Some colour
  was_right colour file e h = sym (set_beside (from_file top way) true new marked set file e) ∙ h

  module _ (on_way : among top way ≡ true) where
    circle_closed : (file dir : FileId) → among file (from_file top way) ≡ true → StandsIn links file dir → among dir (from_file top way) ≡ true
    circle_closed file dir h s =
        let rest = from_there top way on_way in
        elim (dir_of_way links are (from_file top way) (Some top) file dir (way_from links top way (Some top) climb.is_way) h s) [
          | inl e ↦
              let same : top ≡ dir = cc in
              ap (λ (f : FileId). among f (from_file top way)) (sym same) ∙ ap (among top) rest.1 ∙ first_among top rest.0
          | inr there ↦ there
        ]

    circle_on : (file : FileId) → among file (from_file top way) ≡ true → IsUnder links file file
    circle_on file h =
        let rest = from_there top way on_way in
        let is_way : IsWay links (top ∷ rest.0) (Some top) = subst (λ (w : List FileId). IsWay links w (Some top)) rest.1 (way_from links top way (Some top) climb.is_way) in
        is_circle links top rest.0 file is_way (sym (ap (among file) rest.1) ∙ h)

    beside_off : (file : FileId) → among file (from_file top way) ≡ false → among file way ≡ true → IsUnder links file file → ⊥
    beside_off file e there on =
        let rest = from_there top way on_way in
        let to = circle_to_top links are way (Some top) file climb.is_way there on in
        let top_there : among top (from_file top way) ≡ true = ap (among top) rest.1 ∙ first_among top rest.0 in
        let yes = told_above links (λ (f : FileId). among f (from_file top way)) circle_closed to.0 file top to.1 top_there in
        cc (yes, e)

    circle-AreRight : AreRight links marked
    circle-AreRight = record {
      on = λ file h. elim (among file (from_file top way)) as (λ b. among file (from_file top way) ≡ b → IsUnder links file file) [
        | true ↦ λ e. circle_on file e
        | false ↦ λ e. elim (among file way) as (λ b. among file way ≡ b → IsUnder links file file) [
          | true ↦ λ k. let off = set_among way false old new climb.are_set file k in let yes = was_right true file e h in absurd (cc (off, yes))
          | false ↦ λ k. right.on file (sym (set_beside way false old new climb.are_set file k) ∙ was_right true file e h)
        ] refl
      ] refl;
      off = λ file h on. elim (among file (from_file top way)) as (λ b. among file (from_file top way) ≡ b → ⊥) [
        | true ↦ λ e. let yes = set_among (from_file top way) true new marked set file e in absurd (cc (yes, h))
        | false ↦ λ e. elim (among file way) as (λ b. among file way ≡ b → ⊥) [
          | true ↦ λ k. beside_off file e k on
          | false ↦ λ k. right.off file (sym (set_beside way false old new climb.are_set file k) ∙ was_right false file e h) on
        ] refl
      ] refl;
      closed = marked_closed;
    }

  -- where it ends at another, nothing is marked
  elsewhere-AreRight : among top way ≡ false → AreRight links marked
  elsewhere-AreRight e =
      let had : is_some (get old top.0) ≡ true = ap is_some (sym (set_beside way false old new climb.are_set top e)) ∙ end in
      let before = climb-AreRight links are old new way (Some top) right climb had in
      let none : (file : FileId) → among file (from_file top way) ≡ false = λ file. ap (among file) (from_none top way e) in
      record {
        on = λ file h. before.on file (was_right true file (none file) h);
        off = λ file h. before.off file (was_right false file (none file) h);
        closed = marked_closed;
      }

  pub marked-AreRight : AreRight links marked
  marked-AreRight = elim (among top way) as (λ b. among top way ≡ b → AreRight links marked) [ true ↦ circle-AreRight | false ↦ elsewhere-AreRight ] refl
