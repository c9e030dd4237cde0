-- The maps of names, as a number comes to a place or goes from it.
use Rattle.std.proofs.Common.{◌≡◌, ℕ, Bool, true, false, List, Option, Some, None, if◌then◌else◌, refl, sym, ap, subst, ◌∙◌, inl, inr, ◌⊎◌}
use Rattle.std.proofs.lemmas.Bool.{and_parts}
use Rattle.std.specs.Prelude.{◌==◌, ◌&&◌, not, is_some}
use Rattle.eden_base.proofs.NumberTests.{eq-true, true-eq}
use Rattle.directory_index.specs.Keys.{key_of}
use Rattle.directory_index.specs.PlaceIndex.{IsAdded}
use Rattle.key_map.specs.Cells.{is_number}
use Rattle.directory_index.specs.Names.{at_key, is_at_key, is_taken, written, AreNamesOf, IsNamed}
use Rattle.directory_index.specs.Standing.{inserted, is_place, nothing, removed, AreApart, Standing, StandsNowhere}
use Rattle.directory_index.specs.declared.link.Link.{Link}
use Rattle.directory_index.specs.declared.names.Names.{Names}
use Rattle.directory_index.proofs.Standings.{here, inserted-here, inserted-still, inserted-was, moved, removed-still, removed-was, same-number, same-place}

-- two places of one key
same-key : (d dir : ℕ) (q name : List ℕ) → d ≡ dir → q ≡ name → key_of d q ≡ key_of dir name
same-key d dir q name e f = ap (λ (x : ℕ). key_of x q) e ∙ ap (key_of dir) f

-- maps without numbers are those of nothing
pub names-of_nothing : (names : Names) → ((key : ℕ) → at_key names.keys key ≡ None) → ((dir : ℕ) (name : List ℕ) → written names.others dir name ≡ None) → AreNamesOf nothing names
names-of_nothing names keys others = record {
  each = λ dir name n e. let no : ⊥ = cc in absurd no;
  keyed = λ key n e. let none = keys key in let no : ⊥ = cc in absurd no;
  others = λ dir name n e. let none = others dir name in let no : ⊥ = cc in absurd no;
  once = λ dir name n e f. let none = others dir name in let no : ⊥ = cc in no;
}

-- a number came
module _ (at : Standing) (old new : Names) (link : Link) (name : List ℕ) (key : key_of link.dir name ≡ link.key) (free : at link.dir name ≡ None) (fresh : StandsNowhere at link.number) (added : IsAdded old new true link name) (names : AreNamesOf at old) where
  abbrev taken : Bool
  taken = is_taken old.keys link.key

  abbrev after : Standing
  after = inserted at link.dir name link.number

  key-stays : (k n : ℕ) → at_key old.keys k ≡ Some n → (b : Bool) → (k == link.key && not taken) ≡ b → at_key new.keys k ≡ Some n
  key-stays k n e false t = added.keys k ∙ (rw t e)
  key-stays k n e true t =
      let both = and_parts (k == link.key) (not taken) t in
      let there : taken ≡ true = ap (λ (j : ℕ). is_taken old.keys j) (sym (true-eq k link.key both.0)) ∙ ap is_some e in
      absurd (let no : ⊥ = cc in no)

  own : (b : Bool) → taken ≡ b → (d : ℕ) (q : List ℕ) → d ≡ link.dir → q ≡ name → IsNamed new d q link.number
  own true t d q e f = let p = here d link.dir q name e f in inr (added.others d q ∙ (rw (p, t) refl))
  own false t d q e f = let k = eq-true (key_of d q) link.key (same-key d link.dir q name e f ∙ key) in inl (added.keys (key_of d q) ∙ (rw (k, t) refl))

  other-stays : (d : ℕ) (q : List ℕ) (n : ℕ) → at d q ≡ Some n → written old.others d q ≡ Some n → (b : Bool) → (is_place d q link.dir name && taken) ≡ b → written new.others d q ≡ Some n
  other-stays d q n a e false t = added.others d q ∙ (rw t e)
  other-stays d q n a e true t =
      let p = same-place d link.dir q name (and_parts (is_place d q link.dir name) taken t).0 in
      let none : at d q ≡ None = moved at d link.dir q name p.0 p.1 ∙ free in absurd (let no : ⊥ = cc in no)

  stays : (d : ℕ) (q : List ℕ) (n : ℕ) → at d q ≡ Some n → IsNamed old d q n → IsNamed new d q n
  stays d q n a (inl e) = inl (key-stays (key_of d q) n e (key_of d q == link.key && not taken) refl)
  stays d q n a (inr e) = inr (other-stays d q n a e (is_place d q link.dir name && taken) refl)

  each-after : (d : ℕ) (q : List ℕ) (n : ℕ) → ((n ≡ link.number) × ((d ≡ link.dir) × (q ≡ name))) ⊎ (at d q ≡ Some n) → IsNamed new d q n
  each-after d q n (inl p) = subst (λ (m : ℕ). IsNamed new d q m) (sym p.0) (own taken refl d q p.1.0 p.1.1)
  each-after d q n (inr a) = stays d q n a (names.each d q n a)

  keyed-after : (k n : ℕ) → at_key new.keys k ≡ Some n → (b : Bool) → (k == link.key && not taken) ≡ b → (d : ℕ) × (q : List ℕ) × (after d q ≡ Some n) × (key_of d q ≡ k)
  keyed-after k n e true t =
      let is : at_key new.keys k ≡ Some link.number = added.keys k ∙ (rw t refl) in
      let same = same-number link.number n (sym is ∙ e) in
      (link.dir, name, inserted-here at link.dir name link.number ∙ ap Some same, key ∙ sym (true-eq k link.key (and_parts (k == link.key) (not taken) t).0))
  keyed-after k n e false t =
      let w = names.keyed k n (sym (added.keys k ∙ (rw t refl)) ∙ e) in
      (w.0, w.1, inserted-still at link.dir name link.number free w.0 w.1 n w.2, w.3)

  others-after : (d : ℕ) (q : List ℕ) (n : ℕ) → written new.others d q ≡ Some n → (b : Bool) → (is_place d q link.dir name && taken) ≡ b → after d q ≡ Some n
  others-after d q n e true t =
      let p = same-place d link.dir q name (and_parts (is_place d q link.dir name) taken t).0 in
      let is : written new.others d q ≡ Some link.number = added.others d q ∙ (rw t refl) in
      moved after d link.dir q name p.0 p.1 ∙ inserted-here at link.dir name link.number ∙ sym is ∙ e
  others-after d q n e false t = inserted-still at link.dir name link.number free d q n (names.others d q n (sym (added.others d q ∙ (rw t refl)) ∙ e))

  once-after : (d : ℕ) (q : List ℕ) (n : ℕ) → written new.others d q ≡ Some n → at_key new.keys (key_of d q) ≡ Some n →
      (b c : Bool) → (is_place d q link.dir name && taken) ≡ b → (key_of d q == link.key && not taken) ≡ c → ⊥
  once-after d q n e f false false s t = names.once d q n (sym (added.others d q ∙ (rw s refl)) ∙ e) (sym (added.keys (key_of d q) ∙ (rw t refl)) ∙ f)
  once-after d q n e f false true s t =
      let is : at_key new.keys (key_of d q) ≡ Some link.number = added.keys (key_of d q) ∙ (rw t refl) in
      fresh d q (names.others d q n (sym (added.others d q ∙ (rw s refl)) ∙ e) ∙ sym f ∙ is)
  once-after d q n e f true false s t =
      let is : written new.others d q ≡ Some link.number = added.others d q ∙ (rw s refl) in
      let w = names.keyed (key_of d q) n (sym (added.keys (key_of d q) ∙ (rw t refl)) ∙ f) in
      fresh w.0 w.1 (w.2 ∙ sym e ∙ is)
  once-after d q n e f true true s t =
      let yes = (and_parts (is_place d q link.dir name) taken s).1 in
      let other = (and_parts (key_of d q == link.key) (not taken) t).1 in
      let no : ⊥ = cc in no

  pub names-inserted : AreNamesOf after new
  names-inserted = record {
    each = λ d q n e. each-after d q n (inserted-was at link.dir name link.number d q n e);
    keyed = λ k n e. keyed-after k n e (k == link.key && not taken) refl;
    others = λ d q n e. others-after d q n e (is_place d q link.dir name && taken) refl;
    once = λ d q n e f. once-after d q n e f (is_place d q link.dir name && taken) (key_of d q == link.key && not taken) refl refl;
  }

-- a number that is at a key
at-key : (o : Option ℕ) (number : ℕ) → is_number number o ≡ true → o ≡ Some number
at-key None number t = absurd (let no : ⊥ = cc in no)
at-key (Some n) number t = ap Some (true-eq n number t)

key-at : (o : Option ℕ) (number : ℕ) → o ≡ Some number → is_number number o ≡ true
key-at o number e = ap (is_number number) e ∙ eq-true number number refl

-- a number went
module _ (at : Standing) (old new : Names) (dir : ℕ) (name : List ℕ) (number : ℕ) (stood : at dir name ≡ Some number) (apart : AreApart at)
    (keys : (k : ℕ) → at_key new.keys k ≡ (if k == key_of dir name && is_at_key old.keys (key_of dir name) number then None else at_key old.keys k))
    (others : (d : ℕ) (q : List ℕ) → written new.others d q ≡ (if is_place d q dir name && not (is_at_key old.keys (key_of dir name) number) then None else written old.others d q))
    (names : AreNamesOf at old) where
  abbrev own' : Bool
  own' = is_at_key old.keys (key_of dir name) number

  -- what is there was there
  was-key : (k n : ℕ) → at_key new.keys k ≡ Some n → (b : Bool) → (k == key_of dir name && own') ≡ b → (at_key old.keys k ≡ Some n) × (b ≡ false)
  was-key k n e true t = let none : at_key new.keys k ≡ None = keys k ∙ (rw t refl) in absurd (let no : ⊥ = cc in no)
  was-key k n e false t = (sym (keys k ∙ (rw t refl)) ∙ e, refl)

  was-other : (d : ℕ) (q : List ℕ) (n : ℕ) → written new.others d q ≡ Some n → (b : Bool) → (is_place d q dir name && not own') ≡ b → (written old.others d q ≡ Some n) × (b ≡ false)
  was-other d q n e true t = let none : written new.others d q ≡ None = others d q ∙ (rw t refl) in absurd (let no : ⊥ = cc in no)
  was-other d q n e false t = (sym (others d q ∙ (rw t refl)) ∙ e, refl)

  key-left : (d : ℕ) (q : List ℕ) (n : ℕ) → (n ≡ number → ⊥) → at_key old.keys (key_of d q) ≡ Some n → (b : Bool) → (key_of d q == key_of dir name && own') ≡ b → at_key new.keys (key_of d q) ≡ Some n
  key-left d q n other e false t = keys (key_of d q) ∙ (rw t e)
  key-left d q n other e true t =
      let both = and_parts (key_of d q == key_of dir name) own' t in
      absurd (other (same-number n number (sym e ∙ ap (at_key old.keys) (true-eq (key_of d q) (key_of dir name) both.0) ∙ at-key (at_key old.keys (key_of dir name)) number both.1)))

  left : (d : ℕ) (q : List ℕ) (n : ℕ) → at d q ≡ Some n → ((d ≡ dir) → (q ≡ name) → ⊥) → IsNamed old d q n → IsNamed new d q n
  left d q n a elsewhere (inl e) =
      inl (key-left d q n (λ same. let p = apart d dir q name n a (stood ∙ ap Some (sym same)) in elsewhere p.0 p.1) e (key_of d q == key_of dir name && own') refl)
  left d q n a elsewhere (inr e) = inr (other_ (is_place d q dir name) refl) where
    other_ : (b : Bool) → is_place d q dir name ≡ b → written new.others d q ≡ Some n
    other_ true t = let p = same-place d dir q name t in absurd (elsewhere p.0 p.1)
    other_ false t = others d q ∙ (rw t e)

  -- what is still at a key stands elsewhere
  keyed-left : (k n : ℕ) → at_key old.keys k ≡ Some n → (k == key_of dir name && own') ≡ false → (d : ℕ) × (q : List ℕ) × (removed at dir name d q ≡ Some n) × (key_of d q ≡ k)
  keyed-left k n e f =
      let w = names.keyed k n e in (
        w.0,
        w.1,
        removed-still at dir name number w.0 w.1 n (λ d q.
            let same = same-number n number (sym w.2 ∙ moved at w.0 dir w.1 name d q ∙ stood) in
            let its : key_of dir name ≡ k = sym (same-key w.0 dir w.1 name d q) ∙ w.3 in
            let t = eq-true k (key_of dir name) (sym its) in
            let s = key-at (at_key old.keys (key_of dir name)) number (ap (at_key old.keys) its ∙ e ∙ ap Some same) in
            let yes : (k == key_of dir name && own') ≡ true = rw t s in
            let no : ⊥ = cc in no) w.2,
        w.3,
      )

  other-left : (d : ℕ) (q : List ℕ) (n : ℕ) → written old.others d q ≡ Some n → (is_place d q dir name && not own') ≡ false → removed at dir name d q ≡ Some n
  other-left d q n e f =
      removed-still at dir name number d q n (λ x y.
      let same = same-number n number (sym (names.others d q n e) ∙ moved at d dir q name x y ∙ stood) in
      let p = here d dir q name x y in
      let yes : own' ≡ true = owned own' refl p in
      names.once d q n e (ap (at_key old.keys) (same-key d dir q name x y) ∙ at-key (at_key old.keys (key_of dir name)) number yes ∙ ap Some (sym same))) (names.others d q n e) where
        owned : (b : Bool) → own' ≡ b → is_place d q dir name ≡ true → own' ≡ true
        owned true t p = t
        owned false t p = let is : (is_place d q dir name && not own') ≡ true = rw (p, t) refl in absurd (let no : ⊥ = cc in no)

  pub names-removed : AreNamesOf (removed at dir name) new
  names-removed = record {
    each = λ d q n e. let w = removed-was at dir name number d q n e in left d q n w.0 w.1 (names.each d q n w.0);
    keyed = λ k n e. let w = was-key k n e (k == key_of dir name && own') refl in keyed-left k n w.0 w.1;
    others = λ d q n e. let w = was-other d q n e (is_place d q dir name && not own') refl in other-left d q n w.0 w.1;
    once = λ d q n e f. names.once d q n (was-other d q n e (is_place d q dir name && not own') refl).0 (was-key (key_of d q) n f (key_of d q == key_of dir name && own') refl).0;
  }

-- maps that have the same are maps of the same
pub names-alike_of : (at : Standing) (old new : Names) → ((k : ℕ) → at_key new.keys k ≡ at_key old.keys k) → ((d : ℕ) (q : List ℕ) → written new.others d q ≡ written old.others d q) → AreNamesOf at old → AreNamesOf at new
names-alike_of at old new keys others names = record {
  each = λ d q n e. in_ d q n (names.each d q n e);
  keyed = λ k n e. names.keyed k n (sym (keys k) ∙ e);
  others = λ d q n e. names.others d q n (sym (others d q) ∙ e);
  once = λ d q n e f. names.once d q n (sym (others d q) ∙ e) (sym (keys (key_of d q)) ∙ f);
} where
  in_ : (d : ℕ) (q : List ℕ) (n : ℕ) → IsNamed old d q n → IsNamed new d q n
  in_ d q n (inl e) = inl (keys (key_of d q) ∙ e)
  in_ d q n (inr e) = inr (others d q ∙ e)
