-- What is loaded or remembered of numbers, where entries change or leave.
use Rattle.std.proofs.Common.{◌≡◌, ℕ, Bool, true, false, cond, List, [], ◌∷◌, ◌++◌, Option, Some, None, IsSome, is_some, refl, sym, ap, ◌∙◌, subst, inl, inr, ◌⊎◌}
use Rattle.std.specs.Prelude.{not}
use Rattle.std.specs.List.{filter}
use Rattle.std.specs.Option.{option_map, option_map_or}
use Rattle.eden_base.proofs.FirstLemmas.{Each-kept, Each-without_where}
use Rattle.eden_base.proofs.NumberTests.{eq-true, eq-false, eq-or}
use Rattle.eden_base.specs.First.{first_where, changed_where, without_where}
use Rattle.entry_table.proofs.EntryLemmas.{changed-same, changed-other, append-other, without-other, without-same}
use Rattle.entry_table.specs.Entries.{has_number, entry_of, is_kept, AreNumbers}
use Rattle.inode_map.specs.InodeMap.{MapState, left_with, is_loaded_of, loaded_number, used}
use Rattle.entry_table.specs.Table.{AreOfKept, file_number, is_other}
use Rattle.inode_map.specs.Pruned.{of_kept}
use Rattle.entry_table.specs.declared.kept.Kept.{Kept}
use Rattle.inode_map.specs.declared.loaded.LoadedAttr.{LoadedAttr}

-- numbers that have entries
kept-map : (o : Option Kept) (change : Kept → Kept) → is_some (option_map change o) ≡ is_some o
kept-map None change = refl
kept-map (Some x) change = refl

pub kept-changed : (es : List Kept) (k m : ℕ) (change : Kept → Kept) → ((x : Kept) → (change x).number ≡ x.number) → is_kept (changed_where (has_number k) change es) m ≡ is_kept es m
kept-changed es k m change keeps = in_ (eq-or m k) where
  in_ : (m ≡ k) ⊎ (m ≡ k → ⊥) → is_kept (changed_where (has_number k) change es) m ≡ is_kept es m
  in_ (inl same) = subst (λ (j : ℕ). is_kept (changed_where (has_number k) change es) j ≡ is_kept es j) (sym same) (ap (λ (o : Option Kept). is_some o) (changed-same es k change keeps) ∙ kept-map (entry_of es k) change)
  in_ (inr other) = ap (λ (o : Option Kept). is_some o) (changed-other es k m change keeps other)

pub kept-added : (es : List Kept) (x : Kept) (m : ℕ) → entry_of es x.number.0 ≡ None → is_kept es m ≡ true → is_kept (es ++ x ∷ []) m ≡ true
kept-added es x m free t = in_ (eq-or x.number.0 m) where
  in_ : (x.number.0 ≡ m) ⊎ (x.number.0 ≡ m → ⊥) → is_kept (es ++ x ∷ []) m ≡ true
  in_ (inl same) = let none : is_kept es m ≡ false = ap (λ (o : Option Kept). is_some o) (subst (λ (j : ℕ). entry_of es j ≡ None) same free) in absurd (let no : ⊥ = cc in no)
  in_ (inr other) = ap (λ (o : Option Kept). is_some o) (append-other es m x other) ∙ t

module _ {X : Type 0} (number : X → ℕ) where
  pub of-changed : (es : List Kept) (k : ℕ) (change : Kept → Kept) (xs : List X) → ((x : Kept) → (change x).number ≡ x.number) → AreOfKept number es xs → AreOfKept number (changed_where (has_number k) change es) xs
  of-changed es k change xs keeps all = Each-kept (λ x. is_kept es (number x) ≡ true) (λ x. is_kept (changed_where (has_number k) change es) (number x) ≡ true) xs all (λ x t. kept-changed es k (number x) change keeps ∙ t)

  pub of-added : (es : List Kept) (y : Kept) (xs : List X) → entry_of es y.number.0 ≡ None → AreOfKept number es xs → AreOfKept number (es ++ y ∷ []) xs
  of-added es y xs free all = Each-kept (λ x. is_kept es (number x) ≡ true) (λ x. is_kept (es ++ y ∷ []) (number x) ≡ true) xs all (λ x t. kept-added es y (number x) free t)

  -- all of kept numbers stay
  pub of_kept-all : (es : List Kept) (xs : List X) → AreOfKept number es xs → of_kept number es xs ≡ xs
  of_kept-all es [] all = refl
  of_kept-all es (x ∷ xs) all = ap (λ b. cond b (x ∷ of_kept number es xs) (of_kept number es xs)) all.0 ∙ ap (λ (ys : List X). x ∷ ys) (of_kept-all es xs all.1)

  -- and what stays is of kept numbers
  pub of_kept-kept : (es : List Kept) (xs : List X) → AreOfKept number es (of_kept number es xs)
  of_kept-kept es [] = tt
  of_kept-kept es (x ∷ xs) = in_ (is_kept es (number x)) refl (of_kept-kept es xs) where
    in_ : (b : Bool) → is_kept es (number x) ≡ b → AreOfKept number es (of_kept number es xs) → AreOfKept number es (cond b (x ∷ of_kept number es xs) (of_kept number es xs))
    in_ true t rest = (t, rest)
    in_ false t rest = rest

  -- an entry leaves, and what was of it
  pub of_kept-without : (es : List Kept) (low next n : ℕ) (xs : List X) → AreNumbers low next es →
      filter (λ (x : X). is_other n (number x)) (of_kept number es xs) ≡ of_kept number (without_where (has_number n) es) xs
  of_kept-without es low next n [] are = refl
  of_kept-without es low next n (x ∷ xs) are = in_ (eq-or (number x) n) (is_kept es (number x)) refl (of_kept-without es low next n xs are) where
    old : List X
    old = of_kept number es xs

    left : List X
    left = of_kept number (without_where (has_number n) es) xs

    in_ : (number x ≡ n) ⊎ (number x ≡ n → ⊥) → (b : Bool) → is_kept es (number x) ≡ b → filter (λ (y : X). is_other n (number y)) old ≡ left →
        filter (λ (y : X). is_other n (number y)) (cond b (x ∷ old) old) ≡ cond (is_kept (without_where (has_number n) es) (number x)) (x ∷ left) left
    in_ (inl same) b t rest =
        let gone : is_kept (without_where (has_number n) es) (number x) ≡ false =
        ap (λ (o : Option Kept). is_some o) (ap (entry_of (without_where (has_number n) es)) same ∙ without-same es low next n are) in
        rw gone (both_in b) where
          both_in : (c : Bool) → filter (λ (y : X). is_other n (number y)) (cond c (x ∷ old) old) ≡ left
          both_in true = ap (λ d. cond (not d) (x ∷ filter (λ (y : X). is_other n (number y)) old) (filter (λ (y : X). is_other n (number y)) old)) (eq-true (number x) n same) ∙ rest
          both_in false = rest
    in_ (inr other) b t rest =
        let stays : is_kept (without_where (has_number n) es) (number x) ≡ b = ap (λ (o : Option Kept). is_some o) (without-other es n (number x) other) ∙ t in
        rw stays (both_in b) where
          both_in : (c : Bool) → filter (λ (y : X). is_other n (number y)) (cond c (x ∷ old) old) ≡ cond c (x ∷ left) left
          both_in true =
              ap (λ d. cond (not d) (x ∷ filter (λ (y : X). is_other n (number y)) old) (filter (λ (y : X). is_other n (number y)) old)) (eq-false (number x) n other) ∙ ap (λ (ys : List X). x ∷ ys) rest
          both_in false = rest

-- what is used is loaded
pub loaded-kept : (es : List Kept) (n : ℕ) (xs : List LoadedAttr) (x : LoadedAttr) → AreOfKept loaded_number es xs → first_where (is_loaded_of n) xs ≡ Some x → is_kept es (loaded_number x) ≡ true
loaded-kept es n [] x a e = absurd (let none : ⊥ = cc in none)
loaded-kept es n (y ∷ xs) x a e = in_ (is_loaded_of n y) e (λ there. loaded-kept es n xs x a.1 there) where
  in_ : (b : Bool) → cond b (Some y) (first_where (is_loaded_of n) xs) ≡ Some x → (first_where (is_loaded_of n) xs ≡ Some x → is_kept es (loaded_number x) ≡ true) → is_kept es (loaded_number x) ≡ true
  in_ true h rest = let is : y ≡ x = cc in ap (λ (l : LoadedAttr). is_kept es (loaded_number l)) (sym is) ∙ a.0
  in_ false h rest = rest h

some_in : (o : Option Kept) → is_some o ≡ true → IsSome o
some_in None e = absurd (let none : ⊥ = cc in none)
some_in (Some kept) e = refl

-- and so has an entry
pub loaded-entry : (es : List Kept) (n : ℕ) (xs : List LoadedAttr) (x : LoadedAttr) → AreOfKept loaded_number es xs → first_where (is_loaded_of n) xs ≡ Some x → IsSome (entry_of es (loaded_number x))
loaded-entry es n xs x all first = some_in (entry_of es (loaded_number x)) (loaded-kept es n xs x all first)

pub used-kept : (es : List Kept) (n : ℕ) (loaded : List LoadedAttr) → AreOfKept loaded_number es loaded → AreOfKept loaded_number es (used loaded n)
used-kept es n loaded all = in_ (first_where (is_loaded_of n) loaded) refl where
  in_ : (o : Option LoadedAttr) → first_where (is_loaded_of n) loaded ≡ o →
      AreOfKept loaded_number es (option_map_or (λ (l : LoadedAttr). l ∷ without_where (is_loaded_of n) loaded) o loaded)
  in_ None e = all
  in_ (Some x) e = (loaded-kept es n loaded x all e, Each-without_where (is_loaded_of n) (λ (l : LoadedAttr). is_kept es (loaded_number l) ≡ true) loaded all)

-- of what is left with these entries nothing goes
pub left_with-all : (es : List Kept) (map : MapState) → AreOfKept loaded_number es map.loaded → AreOfKept file_number es map.remembered → left_with es map ≡ record map { entries = es }
left_with-all es map loaded files = λ i. record map { entries = es; loaded = of_kept-all loaded_number es map.loaded loaded i; remembered = of_kept-all file_number es map.remembered files i }
