-- How many names each directory has, as a number comes to it or goes from it.
use Rattle.std.proofs.Common.{◌≡◌, ℕ, ◌+◌, ◌-◌, ◌≤◌, Bool, true, false, List, [], ◌∷◌, Option, Some, None, if◌then◌else◌, length, refl, sym, ap, subst, ◌∙◌, inl, inr, ◌⊎◌, arith}
use Rattle.std.proofs.lemmas.Bool.Decides.{nat_tests}
use Rattle.std.proofs.lemmas.List.Edits.{length-insert, length-remove}
use Rattle.std.specs.List.{insert, remove}
use Rattle.std.specs.Prelude.{◌==◌, ◌&&◌, ◌||◌, not, nat_lt}
use Rattle.eden_base.proofs.NumberTests.{eq-or, eq-true, true-eq}
use Rattle.directory_index.proofs.Gaps.{at-in, in-at, inserted-has, inserted-rises, removed-has, removed-rises, some-gap}
use Rattle.directory_index.proofs.Standings.{inserted-here, inserted-still, inserted-was, removed-still, removed-was, same-number}
use Rattle.directory_index.specs.NameCounts.{counted, AreCountsOf, AreNumbersIn}
use Rattle.directory_index.specs.Rising.{is_in}
use Rattle.directory_index.specs.Standing.{inserted, nothing, removed, AreApart, Standing, StandsIn, StandsNowhere}
use Rattle.directory_index.specs.declared.name_counts.NameCounts.{NameCounts}

-- no directory has a number of nothing
pub counts-of_nothing : (counts : NameCounts) → ((dir : ℕ) → counted counts dir ≡ 0) → AreCountsOf nothing counts
counts-of_nothing counts none = record {
  each = λ dir. (
    [],
    record {
      rising = λ i j order bound. let no : ⊥ = omega arith in absurd no;
      each = λ n w. let e = w.1 in let no : ⊥ = cc in absurd no;
      no_others = λ n t. let no : ⊥ = cc in absurd no;
    },
    none dir,
  );
  bound = λ dir. let e = none dir in omega arith;
}

-- counts that are the same are those of the same
pub counts-alike : (at : Standing) (old new : NameCounts) → ((dir : ℕ) → counted new dir ≡ counted old dir) → old.bound ≤ new.bound → AreCountsOf at old → AreCountsOf at new
counts-alike at old new same bound are = record {
  each = λ dir. let w = are.each dir in (w.0, w.1, same dir ∙ w.2);
  bound = λ dir. let e = same dir in let b = are.bound dir in omega arith;
}

-- a directory has a name where its count is not 0
pub counted-some : (at : Standing) (counts : NameCounts) (dir : ℕ) → AreCountsOf at counts → nat_lt 0 (counted counts dir) ≡ true → (n : ℕ) × StandsIn at dir n
counted-some at counts dir are t = let w = are.each dir in in_ w.0 w.1 w.2 where
  in_ : (ns : List ℕ) → AreNumbersIn at dir ns → counted counts dir ≡ length ns → (n : ℕ) × StandsIn at dir n
  in_ [] is e = let no : ⊥ = grind (arith, nat_tests) in absurd no
  in_ (n ∷ ns) is e = (n, is.no_others n (in-at (n ∷ ns) 0 n (omega arith) refl))

-- and none where it is 0
pub counted-none : (at : Standing) (counts : NameCounts) (dir : ℕ) → AreCountsOf at counts → nat_lt 0 (counted counts dir) ≡ false → (name : List ℕ) → at dir name ≡ None
counted-none at counts dir are f name = let w = are.each dir in in_ w.0 w.1 w.2 (at dir name) refl where
  in_ : (ns : List ℕ) → AreNumbersIn at dir ns → counted counts dir ≡ length ns → (o : Option ℕ) → at dir name ≡ o → at dir name ≡ None
  in_ ns is e None a = a
  in_ [] is e (Some n) a = let t = is.each n (name, a) in let no : ⊥ = cc in absurd no
  in_ (m ∷ ns) is e (Some n) a = let no : ⊥ = grind (arith, nat_tests) in absurd no

-- a directory in which the same numbers stand
numbers-alike : (at now : Standing) (dir : ℕ) (ns : List ℕ) → ((n : ℕ) → StandsIn at dir n → StandsIn now dir n) → ((n : ℕ) → StandsIn now dir n → StandsIn at dir n) → AreNumbersIn at dir ns → AreNumbersIn now dir ns
numbers-alike at now dir ns to from is = record {
  rising = is.rising;
  each = λ n w. is.each n (from n w);
  no_others = λ n t. to n (is.no_others n t);
}

-- a number came
module _ (at : Standing) (old new : NameCounts) (dir : ℕ) (name : List ℕ) (number : ℕ) (free : at dir name ≡ None) (fresh : StandsNowhere at number) (are : AreCountsOf at old) where
  abbrev after : Standing
  after = inserted at dir name number

  -- it is one of those of its directory
  inserted-numbers : (ns : List ℕ) → AreNumbersIn at dir ns → (ms : List ℕ) × AreNumbersIn after dir ms × (length ms ≡ length ns + 1)
  inserted-numbers ns is =
      let gap = some-gap ns is.rising number (out (is_in number ns) refl) in (
        insert ns gap.0 number,
        record {
          rising = inserted-rises ns is.rising number gap.0 gap.1;
          each = λ n w. inserted-has ns is.rising number gap.0 gap.1 n ∙ each_in n w.0 (inserted-was at dir name number dir w.0 n w.1);
          no_others = λ n t. others_in n (n == number) refl (sym (inserted-has ns is.rising number gap.0 gap.1 n) ∙ t);
        },
        length-insert ns gap.0 number gap.1.bound,
      ) where
        out : (b : Bool) → is_in number ns ≡ b → is_in number ns ≡ false
        out false t = t
        out true t = let w = is.no_others number t in absurd (fresh dir w.0 w.1)

        or-true : (b : Bool) → (b || true) ≡ true
        or-true true = refl
        or-true false = refl

        each_in : (n : ℕ) (q : List ℕ) → ((n ≡ number) × ((dir ≡ dir) × (q ≡ name))) ⊎ (at dir q ≡ Some n) → (n == number || is_in n ns) ≡ true
        each_in n q (inl p) = let t = eq-true n number p.0 in rw t refl
        each_in n q (inr a) = let t = is.each n (q, a) in rw t (or-true (n == number))

        others_in : (n : ℕ) (b : Bool) → (n == number) ≡ b → (b || is_in n ns) ≡ true → StandsIn after dir n
        others_in n true t e = (name, inserted-here at dir name number ∙ ap Some (sym (true-eq n number t)))
        others_in n false t e = let w = is.no_others n e in (w.0, inserted-still at dir name number free dir w.0 n w.1)

  pub counts-inserted : ((d : ℕ) → counted new d ≡ (if d == dir then counted old dir + 1 else counted old d)) → new.bound ≡ old.bound + 1 → AreCountsOf after new
  counts-inserted raised bound = record { each = λ d. each_in d (eq-or d dir); bound = λ d. bound_in d (d == dir) (raised d) } where
    was : (d n : ℕ) (q : List ℕ) → (d ≡ dir → ⊥) → ((n ≡ number) × ((d ≡ dir) × (q ≡ name))) ⊎ (at d q ≡ Some n) → at d q ≡ Some n
    was d n q other (inl p) = absurd (other p.1.0)
    was d n q other (inr a) = a

    counted_in : (d : ℕ) → (d ≡ dir → ⊥) → (b : Bool) → (d == dir) ≡ b → counted new d ≡ (if b then counted old dir + 1 else counted old d) → counted new d ≡ counted old d
    counted_in d other true t e = absurd (other (true-eq d dir t))
    counted_in d other false t e = e

    each_in : (d : ℕ) → (d ≡ dir) ⊎ (d ≡ dir → ⊥) → (ns : List ℕ) × AreNumbersIn after d ns × (counted new d ≡ length ns)
    each_in d (inl same) =
        let w = are.each dir in
        let more = inserted-numbers w.0 w.1 in
        let t = eq-true dir dir refl in
        let one : counted new dir ≡ counted old dir + 1 = raised dir ∙ (rw t refl) in
        subst (λ (x : ℕ). (ns : List ℕ) × AreNumbersIn after x ns × (counted new x ≡ length ns)) (sym same) (more.0, more.1, one ∙ ap (λ (k : ℕ). k + 1) w.2 ∙ sym more.2)
    each_in d (inr other) =
        let w = are.each d in (
          w.0,
          numbers-alike at after d w.0 (λ n s. (s.0, inserted-still at dir name number free d s.0 n s.1)) (λ n s. (s.0, was d n s.0 other (inserted-was at dir name number d s.0 n s.1))) w.1,
          counted_in d other (d == dir) refl (raised d) ∙ w.2,
        )

    bound_in : (d : ℕ) (b : Bool) → counted new d ≡ (if b then counted old dir + 1 else counted old d) → counted new d ≤ new.bound
    bound_in d true e = let most = are.bound dir in omega arith
    bound_in d false e = let most = are.bound d in omega arith

-- a number went
module _ (at : Standing) (old new : NameCounts) (dir : ℕ) (name : List ℕ) (number : ℕ) (stood : at dir name ≡ Some number) (apart : AreApart at) (are : AreCountsOf at old) where
  abbrev left : Standing
  left = removed at dir name

  -- it is none of those of its directory any more
  removed-numbers : (ns : List ℕ) → AreNumbersIn at dir ns → (ms : List ℕ) × AreNumbersIn left dir ms × (length ms ≡ length ns - 1)
  removed-numbers ns is =
      let k = at-in ns number (is.each number (name, stood)) in
      let shorter = length-remove ns k.0 k.1 in (
        remove ns k.0,
        record {
          rising = removed-rises ns is.rising number k.0 k.1 k.2;
          each = λ n w. removed-has ns is.rising number k.0 k.1 k.2 n ∙ each_in n w.0 (removed-was at dir name number dir w.0 n w.1) (n == number) refl;
          no_others = λ n t. others_in n (n == number) refl (sym (removed-has ns is.rising number k.0 k.1 k.2 n) ∙ t);
        },
        omega arith,
      ) where
        each_in : (n : ℕ) (q : List ℕ) → (at dir q ≡ Some n) × ((dir ≡ dir) → (q ≡ name) → ⊥) → (b : Bool) → (n == number) ≡ b → (not b && is_in n ns) ≡ true
        each_in n q w true t = let p = apart dir dir q name n w.0 (stood ∙ ap Some (sym (true-eq n number t))) in absurd (w.1 p.0 p.1)
        each_in n q w false t = is.each n (q, w.0)

        others_in : (n : ℕ) (b : Bool) → (n == number) ≡ b → (not b && is_in n ns) ≡ true → StandsIn left dir n
        others_in n true t e = let no : ⊥ = cc in absurd no
        others_in n false t e =
            let w = is.no_others n e in (
              w.0,
              removed-still at dir name number dir w.0 n (λ x y.
                  let same = eq-true n number (same-number n number (sym w.1 ∙ ap (at dir) y ∙ stood)) in
                  let no : ⊥ = cc in no) w.1,
            )

  pub counts-removed : ((d : ℕ) → counted new d ≡ (if d == dir then counted old dir - 1 else counted old d)) → new.bound ≡ old.bound → AreCountsOf left new
  counts-removed lowered bound = record { each = λ d. each_in d (eq-or d dir); bound = λ d. bound_in d (d == dir) (lowered d) } where
    counted_in : (d : ℕ) → (d ≡ dir → ⊥) → (b : Bool) → (d == dir) ≡ b → counted new d ≡ (if b then counted old dir - 1 else counted old d) → counted new d ≡ counted old d
    counted_in d other true t e = absurd (other (true-eq d dir t))
    counted_in d other false t e = e

    each_in : (d : ℕ) → (d ≡ dir) ⊎ (d ≡ dir → ⊥) → (ns : List ℕ) × AreNumbersIn left d ns × (counted new d ≡ length ns)
    each_in d (inl same) =
        let w = are.each dir in
        let less = removed-numbers w.0 w.1 in
        let t = eq-true dir dir refl in
        let one : counted new dir ≡ counted old dir - 1 = lowered dir ∙ (rw t refl) in
        subst (λ (x : ℕ). (ns : List ℕ) × AreNumbersIn left x ns × (counted new x ≡ length ns)) (sym same) (less.0, less.1, one ∙ ap (λ (k : ℕ). k - 1) w.2 ∙ sym less.2)
    each_in d (inr other) =
        let w = are.each d in (
          w.0,
          numbers-alike at left d w.0 (λ n s. (s.0, removed-still at dir name number d s.0 n (λ x y. other x) s.1)) (λ n s. (s.0, (removed-was at dir name number d s.0 n s.1).0)) w.1,
          counted_in d other (d == dir) refl (lowered d) ∙ w.2,
        )

    bound_in : (d : ℕ) (b : Bool) → counted new d ≡ (if b then counted old dir - 1 else counted old d) → counted new d ≤ new.bound
    bound_in d true e = let most = are.bound dir in omega arith
    bound_in d false e = let most = are.bound d in omega arith
