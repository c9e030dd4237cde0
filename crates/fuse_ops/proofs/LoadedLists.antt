-- What is loaded of a number in a list that changed.
use Rattle.std.proofs.Common.{◌≡◌, ℕ, suc, zero, Bool, true, false, List, [], ◌∷◌, Option, Some, None, cond, take, refl, sym, ap, ◌∙◌, inl, inr, ◌⊎◌}
use Rattle.std.specs.List.{filter}
use Rattle.std.specs.Option.{option_map, option_map_or}
use Rattle.std.specs.Prelude.{◌==◌, ◌-◌}
use Rattle.eden_base.proofs.FirstLemmas.{first_where-without_other}
use Rattle.eden_base.proofs.MemberLemmas.{first-passes}
use Rattle.eden_base.proofs.NumberTests.{eq-false, true-eq, false-ne}
use Rattle.eden_base.specs.First.{first_where, without_where}
use Rattle.eden_base.specs.declared.attr.Attr.{Attr}
use Rattle.eden_base.specs.declared.number.Number.{Number}
use Rattle.entry_table.specs.Entries.{is_kept}
use Rattle.inode_map.specs.InodeMap.{loaded_number, is_loaded_of, attr_in, attr_of, used, load}
use Rattle.entry_table.specs.declared.kept.Kept.{Kept}
use Rattle.inode_map.specs.declared.loaded.LoadedAttr.{LoadedAttr}

-- the attributes of a number: the first ones if they are its own, or else those found after them
abbrev first_or : Bool → LoadedAttr → List LoadedAttr → ℕ → Option Attr
first_or b x xs m = option_map attr_in (cond b (Some x) (first_where (is_loaded_of m) xs))

-- what is told of the first ones was told
pub taken-loaded : (k : ℕ) (xs : List LoadedAttr) (m : ℕ) (a : Attr) → attr_of (take k xs) m ≡ Some a → attr_of xs m ≡ Some a
taken-loaded zero xs m a e = absurd (let none : ⊥ = cc in none)
taken-loaded (suc k) [] m a e = e
taken-loaded (suc k) (x ∷ xs) m a e = in_ (x.number.0 == m) e (taken-loaded k xs m a) where
  in_ : (b : Bool) → first_or b x (take k xs) m ≡ Some a → (attr_of (take k xs) m ≡ Some a → attr_of xs m ≡ Some a) → first_or b x xs m ≡ Some a
  in_ true h rest = h
  in_ false h rest = rest h

-- attributes that are loaded after a load were loaded before, or are the new ones
pub load-loaded : (limit : ℕ) (xs : List LoadedAttr) (number : Number) (attr : Attr) (m : ℕ) (a : Attr) → attr_of (load limit xs number attr) m ≡ Some a → ((m ≡ number.0) × (a ≡ attr)) ⊎ (attr_of xs m ≡ Some a)
load-loaded limit xs number attr m a e = in_ (number.0 == m) refl e where
  in_ : (b : Bool) → (number.0 == m) ≡ b → first_or b (record { number = number; attr = attr }) (take (limit - 1) xs) m ≡ Some a → ((m ≡ number.0) × (a ≡ attr)) ⊎ (attr_of xs m ≡ Some a)
  in_ true t h = let same : attr ≡ a = cc in inl (sym (true-eq number.0 m t), sym same)
  in_ false t h = inr (taken-loaded (limit - 1) xs m a h)

-- what is used is told as before
pub used-loaded : (xs : List LoadedAttr) (n m : ℕ) (a : Attr) → attr_of (used xs n) m ≡ Some a → attr_of xs m ≡ Some a
used-loaded xs n m a e = in_ (first_where (is_loaded_of n) xs) refl e where
  others : (x : LoadedAttr) → (x.number.0 == n) ≡ true → (x.number.0 == m) ≡ false → (y : LoadedAttr) → is_loaded_of n y ≡ true → is_loaded_of m y ≡ false
  others x p q y t = eq-false y.number.0 m (λ s. false-ne x.number.0 m q (true-eq x.number.0 n p ∙ sym (true-eq y.number.0 n t) ∙ s))

  found : (x : LoadedAttr) → first_where (is_loaded_of n) xs ≡ Some x → (b : Bool) → (x.number.0 == m) ≡ b → first_or b x (without_where (is_loaded_of n) xs) m ≡ Some a → attr_of xs m ≡ Some a
  found x f true t h =
      let p : (x.number.0 == n) ≡ true = first-passes xs (is_loaded_of n) x f in
      let same : n ≡ m = sym (true-eq x.number.0 n p) ∙ true-eq x.number.0 m t in
      ap (λ (k : ℕ). attr_of xs k) (sym same) ∙ ap (option_map attr_in) f ∙ h
  found x f false t h =
      let p : (x.number.0 == n) ≡ true = first-passes xs (is_loaded_of n) x f in
      ap (option_map attr_in) (sym (first_where-without_other (is_loaded_of n) (is_loaded_of m) xs (others x p t))) ∙ h

  in_ : (o : Option LoadedAttr) → first_where (is_loaded_of n) xs ≡ o → attr_of (option_map_or (λ (x : LoadedAttr). x ∷ without_where (is_loaded_of n) xs) o xs) m ≡ Some a → attr_of xs m ≡ Some a
  in_ None f h = h
  in_ (Some x) f h = found x f (x.number.0 == m) refl h

-- what is left with some entries was told, and is of one of them
pub left-loaded : (es : List Kept) (xs : List LoadedAttr) (m : ℕ) (a : Attr) → attr_of (filter (λ (l : LoadedAttr). is_kept es (loaded_number l)) xs) m ≡ Some a → (attr_of xs m ≡ Some a) × (is_kept es m ≡ true)
left-loaded es [] m a e = absurd (let none : ⊥ = cc in none)
left-loaded es (x ∷ xs) m a e = in_ (is_kept es x.number.0) (x.number.0 == m) refl refl e (left-loaded es xs m a) where
  left : List LoadedAttr → List LoadedAttr
  left ys = filter (λ (l : LoadedAttr). is_kept es (loaded_number l)) ys

  in_ : (k b : Bool) → is_kept es x.number.0 ≡ k → (x.number.0 == m) ≡ b → attr_of (cond k (x ∷ left xs) (left xs)) m ≡ Some a → (attr_of (left xs) m ≡ Some a → (attr_of xs m ≡ Some a) × (is_kept es m ≡ true)) →
      (attr_of (x ∷ xs) m ≡ Some a) × (is_kept es m ≡ true)
  in_ true true k t h rest =
      let own : first_or true x (left xs) m ≡ Some a = ap (λ (c : Bool). first_or c x (left xs) m) (sym t) ∙ h in
      (ap (λ (c : Bool). first_or c x xs m) t ∙ own, ap (is_kept es) (sym (true-eq x.number.0 m t)) ∙ k)
  in_ true false k t h rest =
      let r = rest (ap (λ (c : Bool). first_or c x (left xs) m) (sym t) ∙ h) in
      (ap (λ (c : Bool). first_or c x xs m) t ∙ r.0, r.1)
  in_ false true k t h rest = absurd (let r = (rest h).1 in let c : false ≡ true = sym k ∙ ap (is_kept es) (true-eq x.number.0 m t) ∙ r in let none : ⊥ = cc in none)
  in_ false false k t h rest = (ap (λ (c : Bool). first_or c x xs m) t ∙ (rest h).0, (rest h).1)
