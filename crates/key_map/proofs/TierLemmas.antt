-- What is put below a tier is found there.
use Rattle.std.proofs.Common.{◌≡◌, ℕ, ◌==◌, ◌&&◌, Bool, true, false, Option, Some, None, Result, Ok, Err, OnOk, OnErr, if◌then◌else◌, refl, sym, ap, ◌∙◌, inl, inr, ◌⊎◌, arith}
use Rattle.std.specs.Option.{option_or}
use Rattle.std.proofs.lemmas.Bool.{and_parts}
use Rattle.std.proofs.lemmas.Bool.Decides.{nat_tests}
use Rattle.key_map.proofs.CellLemmas.{same-or}
use Rattle.key_map.specs.Cells.{is_number, AreApart}

-- of two options of which one is taken, neither is there
pub none_above : (a b : Option ℕ) → option_or a b ≡ None → a ≡ None
none_above None b none = refl
none_above (Some n) b none = none

-- a number at a key that had none comes below the tier, which stays
pub put_below : (kept rest : ℕ → Option ℕ) (key number k : ℕ) (kept_new rest_new : Option ℕ) → option_or (kept key) (rest key) ≡ None → kept_new ≡ kept k →
    rest_new ≡ (if k == key then Some number else rest k) → option_or kept_new rest_new ≡ (if k == key then Some number else option_or (kept k) (rest k))
put_below kept rest key number k kept_new rest_new free same put = by_key (same-or k key) where
  by_key : (k ≡ key) ⊎ ((k == key) ≡ false) → option_or kept_new rest_new ≡ (if k == key then Some number else option_or (kept k) (rest k))
  by_key (inl here) =
      let t : (k == key) ≡ true = grind (arith, nat_tests) in
      let none : kept_new ≡ None = same ∙ ap kept here ∙ none_above (kept key) (rest key) free in
      let some : rest_new ≡ Some number = put ∙ ap (λ (b : Bool). if b then Some number else rest k) t in
      rw t (ap (λ (o : Option ℕ). option_or o rest_new) none ∙ some)
  by_key (inr other) =
      let stays : rest_new ≡ rest k = put ∙ ap (λ (b : Bool). if b then Some number else rest k) other in
      rw other (ap (λ (o : Option ℕ). option_or o rest_new) same ∙ ap (option_or (kept k)) stays)

-- of two options of which none is taken, the other isn't there
pub none_behind : (a b : Option ℕ) → option_or a b ≡ None → b ≡ None
none_behind None b none = none
none_behind (Some n) b none = absurd (grind arith)

-- ---- a key has no number in two parts

-- nothing comes to either part
pub apart-less : (above below above_new below_new : ℕ → Option ℕ) → AreApart above below → ((k n : ℕ) → above_new k ≡ Some n → above k ≡ Some n) → ((k : ℕ) → below k ≡ None → below_new k ≡ None) → AreApart above_new below_new
apart-less above below above_new below_new apart fewer none k n e = none k (apart k n (fewer k n e))

-- the same in both parts
pub apart-same : (above below above_new below_new : ℕ → Option ℕ) → AreApart above below → ((k : ℕ) → above_new k ≡ above k) → ((k : ℕ) → below_new k ≡ below k) → AreApart above_new below_new
apart-same above below above_new below_new apart same same_below = apart-less above below above_new below_new apart (λ k n e. sym (same k) ∙ e) (λ k e. same_below k ∙ e)

-- what is left of a number at another key
pub left-of : (t : Bool) (n : ℕ) (a : Option ℕ) → (if t then None else a) ≡ Some n → a ≡ Some n
left-of true n a e = absurd (grind arith)
left-of false n a e = e

-- a number comes above, at a key that neither part has
pub apart-above : (above below above_new : ℕ → Option ℕ) (key number : ℕ) → AreApart above below → option_or (above key) (below key) ≡ None → ((k : ℕ) → above_new k ≡ (if k == key then Some number else above k)) → AreApart above_new below
apart-above above below above_new key number apart free put k n e = in_ (same-or k key) where
  in_ : (k ≡ key) ⊎ ((k == key) ≡ false) → below k ≡ None
  in_ (inl here_) = ap below here_ ∙ none_behind (above key) (below key) free
  in_ (inr other) = apart k n (sym (put k ∙ ap (λ (b : Bool). if b then Some number else above k) other) ∙ e)

-- a number comes below
pub apart-below : (above below above_new below_new : ℕ → Option ℕ) (key number : ℕ) → AreApart above below → option_or (above key) (below key) ≡ None → ((k : ℕ) → above_new k ≡ above k) →
    ((k : ℕ) → below_new k ≡ (if k == key then Some number else below k)) → AreApart above_new below_new
apart-below above below above_new below_new key number apart free same put k n e = in_ (same-or k key) where
  was : above k ≡ Some n
  was = sym (same k) ∙ e

  in_ : (k ≡ key) ⊎ ((k == key) ≡ false) → below_new k ≡ None
  in_ (inl here_) = let none = none_above (above key) (below key) free in let its = sym was ∙ ap above here_ ∙ none in absurd (let no : ⊥ = cc in no)
  in_ (inr other) = put k ∙ ap (λ (b : Bool). if b then Some number else below k) other ∙ apart k n was

-- a number goes from both parts
pub apart-removed : (above below above_new below_new : ℕ → Option ℕ) (key : ℕ) → AreApart above below → ((k : ℕ) → above_new k ≡ (if k == key then None else above k)) →
    ((k : ℕ) → below_new k ≡ (if k == key then None else below k)) → AreApart above_new below_new
apart-removed above below above_new below_new key apart went went_below =
    apart-less above below above_new below_new apart (λ k n e. left-of (k == key) n (above k) (sym (went k) ∙ e)) (λ k e. went_below k ∙ (rw e (still (k == key)))) where
      still : (t : Bool) → if◌then◌else◌ {A = Option ℕ} t None None ≡ None
      still true = refl
      still false = refl

-- both parts have what they had
pub same-both : (above below above_new below_new : Option ℕ) → above_new ≡ above → below_new ≡ below → option_or above_new below_new ≡ option_or above below
same-both above below above_new below_new e f = rw (e, f) refl

-- where it goes from above, it wasn't below
pub below-too : (above below : ℕ → Option ℕ) (key number : ℕ) → AreApart above below → true ≡ is_number number (above key) → (k : ℕ) → below k ≡ (if k == key then None else below k)
below-too above below key number apart had k = in_ (above key) refl had (same-or k key) where
  in_ : (o : Option ℕ) → above key ≡ o → true ≡ is_number number o → (k ≡ key) ⊎ ((k == key) ≡ false) → below k ≡ (if k == key then None else below k)
  in_ None e t w = absurd (let no : ⊥ = cc in no)
  in_ (Some n) e t (inl here_) = let yes : (k == key) ≡ true = grind (arith, nat_tests) in rw yes (ap below here_ ∙ apart key n e)
  in_ (Some n) e t (inr other) = rw other refl

-- where it is above, it is found
pub had-above : (number : ℕ) (above below : Option ℕ) → true ≡ is_number number above → true ≡ is_number number (option_or above below)
had-above number None below had = absurd (let no : ⊥ = cc in no)
had-above number (Some n) below had = had

-- where it isn't above, it is where it is below
pub had-below : (above below : ℕ → Option ℕ) (key number : ℕ) → AreApart above below → false ≡ is_number number (above key) → is_number number (below key) ≡ is_number number (option_or (above key) (below key))
had-below above below key number apart not_above = in_ (above key) refl not_above where
  in_ : (o : Option ℕ) → above key ≡ o → false ≡ is_number number o → is_number number (below key) ≡ is_number number (option_or o (below key))
  in_ None e t = refl
  in_ (Some n) e t = ap (is_number number) (apart key n e) ∙ t

-- where it goes from below, it wasn't above
pub removed-below : (above below above_new below_new : ℕ → Option ℕ) (key number : ℕ) (r : Bool) → AreApart above below → r ≡ is_number number (below key) → ((k : ℕ) → above_new k ≡ above k) →
    ((k : ℕ) → below_new k ≡ (if r && k == key then None else below k)) → (k : ℕ) → option_or (above_new k) (below_new k) ≡ (if r && k == key then None else option_or (above k) (below k))
removed-below above below above_new below_new key number r apart had same went k = in_ (r && k == key) refl where
  none-above : (o : Option ℕ) → below key ≡ o → true ≡ is_number number o → (a : Option ℕ) → above key ≡ a → above key ≡ None
  none-above None e t a f = absurd (let no : ⊥ = cc in no)
  none-above (Some n) e t None f = f
  none-above (Some n) e t (Some m) f = let gone = sym e ∙ apart key m f in absurd (let no : ⊥ = cc in no)

  in_ : (b : Bool) → (r && k == key) ≡ b → option_or (above_new k) (below_new k) ≡ (if b then None else option_or (above k) (below k))
  in_ true t =
      let both = and_parts r (k == key) t in
      let here_ : k ≡ key = let its = both.1 in grind (arith, nat_tests) in
      let none = none-above (below key) refl (sym both.0 ∙ had) (above key) refl in
      ap (λ (o : Option ℕ). option_or o (below_new k)) (same k ∙ ap above here_ ∙ none) ∙ went k ∙ (rw t refl)
  in_ false t = same-both (above k) (below k) (above_new k) (below_new k) (same k) (went k ∙ (rw t refl))

-- a number goes from below, or none
pub less-below : (above below above_new below_new : ℕ → Option ℕ) (key : ℕ) (r : Bool) → AreApart above below → ((k : ℕ) → above_new k ≡ above k) →
    ((k : ℕ) → below_new k ≡ (if r && k == key then None else below k)) → AreApart above_new below_new
less-below above below above_new below_new key r apart same went =
    apart-less above below above_new below_new apart (λ k n e. sym (same k) ∙ e) (λ k e. went k ∙ (rw e (still (r && k == key)))) where
      still : (t : Bool) → if◌then◌else◌ {A = Option ℕ} t None None ≡ None
      still true = refl
      still false = refl

-- what both parts have once a number went from each
pub both-removed : (above below above_new below_new : Option ℕ) (t : Bool) → above_new ≡ (if t then None else above) → below_new ≡ (if t then None else below) → option_or above_new below_new ≡ (if t then None else option_or above below)
both-removed above below above_new below_new true e f = rw (e, f) refl
both-removed above below above_new below_new false e f = rw (e, f) refl

-- a call ended in one way or the other
pub either-way : {T E : Type 0} {A B C : Type 0} (r : Result T E) → OnOk r A → OnErr r B → (A → C) → (B → C) → C
either-way (Ok v) a b f g = f a
either-way (Err e) a b f g = g b
