-- Where numbers stand, by their entries: after a change of one of them, and as an index of the places says it.
use Rattle.std.proofs.Common.{◌≡◌, ℕ, Bool, true, false, ◌||◌, List, [], ◌∷◌, ◌++◌, Option, Some, None, refl, sym, ap, ◌∙◌, inl, inr, ◌⊎◌}
use Rattle.std.specs.Prelude.{cond}
use Rattle.std.specs.Option.{option_and_then, option_map}
use Rattle.std.specs.List.{list_any}
use Rattle.directory_index.specs.Standing.{StandsIn}
use Rattle.directory_index.specs.declared.counted_index.CountedIndex.{CountedIndex}
use Rattle.eden_base.proofs.MemberLemmas.{any-first, first-none, first-passes}
use Rattle.eden_base.proofs.NumberTests.{eq-or, eq-true, true-eq}
use Rattle.eden_base.specs.First.{changed_where, first_where, without_where}
use Rattle.eden_base.specs.declared.number.Number.{Number}
use Rattle.eden_base.specs.declared.place.Place.{Place}
use Rattle.eden_base.specs.declared.place.Place.TheVariants.{Linked, Unlinked}
use Rattle.directory_index.proofs.Standings.{same-number}
use Rattle.entry_table.proofs.Changing.{KeepsPlace}
use Rattle.entry_table.proofs.EntryLemmas.{append-other, append-same, changed-other, changed-same, entry_of-first, without-other, without-same}
use Rattle.entry_table.proofs.Places.{place-stands, stands-place}
use Rattle.entry_table.proofs.Standing.{same-place, under}
use Rattle.entry_table.specs.Entries.{entry_at, entry_of, has_number, is_in, is_kid_of, number_of_kept, stands_at, AreApart, AreNumbers}
use Rattle.entry_table.specs.Standing.{place_of_number, place_under, IsIndexed}
use Rattle.entry_table.specs.declared.kept.Kept.{Kept}

-- where an entry stands that was found
abbrev pub place_found : Option Kept → Option (ℕ × List ℕ)
place_found o = option_and_then (λ (kept : Kept). place_under kept.place) o

-- a number, as the code has it
abbrev pub number_of : ℕ → Number
number_of n = record { 0 = n }

-- the entry of a number, and the place of the number
pub placed-entry : (es : List Kept) (n : ℕ) (x : Kept) → entry_of es n ≡ Some x → place_of_number es n ≡ place_under x.place
placed-entry es n x e = ap place_found e

pub placed-none : (es : List Kept) (n : ℕ) → entry_of es n ≡ None → place_of_number es n ≡ None
placed-none es n e = ap place_found e

pub placed-linked : (es : List Kept) (n : ℕ) (x : Kept) (dir : Number) (name : List ℕ) → entry_of es n ≡ Some x → x.place ≡ Linked dir name → place_of_number es n ≡ Some (dir.0, name)
placed-linked es n x dir name e l = placed-entry es n x e ∙ ap place_under l

-- a number that stands somewhere has an entry, which stands there
pub placed-some : (es : List Kept) (n dir : ℕ) (name : List ℕ) → place_of_number es n ≡ Some (dir, name) → (x : Kept) × (entry_of es n ≡ Some x) × (x.place ≡ Linked (number_of dir) name)
placed-some es n dir name e = in_ (entry_of es n) refl e where
  place_in : (x : Kept) → (p : Place) → x.place ≡ p → place_under p ≡ Some (dir, name) → x.place ≡ Linked (number_of dir) name
  place_in x (Linked d q) l s = let same = same-place (under d.0 q) d.0 dir q name refl s in l ∙ (λ i. Linked (record { 0 = same.0 i }) (same.1 i))
  place_in x (Unlinked file) l s = absurd (let no : ⊥ = cc in no)

  in_ : (o : Option Kept) → entry_of es n ≡ o → place_found o ≡ Some (dir, name) → (x : Kept) × (entry_of es n ≡ Some x) × (x.place ≡ Linked (number_of dir) name)
  in_ None f s = absurd (let no : ⊥ = cc in no)
  in_ (Some x) f s = (x, f, place_in x x.place refl s)

-- no number stands where no entry is found
pub placed-free : (es : List Kept) (dir : ℕ) (name : List ℕ) → entry_at es dir name ≡ None → (n : ℕ) → place_of_number es n ≡ Some (dir, name) → ⊥
placed-free es dir name none n e =
    let w = placed-some es n dir name e in
    let f = first-none es (has_number n) (stands_at dir name) w.0 none w.1 in
    let t = place-stands dir name w.0 w.2 in
    let no : ⊥ = cc in no

-- one entry was changed
module _ (es : List Kept) (n : ℕ) (change : Kept → Kept) (keeps : (x : Kept) → (change x).number ≡ x.number) where
  pub changed-elsewhere : (m : ℕ) → (m ≡ n → ⊥) → place_of_number (changed_where (has_number n) change es) m ≡ place_of_number es m
  changed-elsewhere m other = ap place_found (changed-other es n m change keeps other)

  pub changed-here : (x : Kept) → entry_of es n ≡ Some x → place_of_number (changed_where (has_number n) change es) n ≡ place_under (change x).place
  changed-here x e = ap place_found (changed-same es n change keeps ∙ ap (option_map change) e)

-- no number moves where an entry keeps its place
pub changed-nowhere : (es : List Kept) (k : ℕ) (change : Kept → Kept) → KeepsPlace change → (n : ℕ) → place_of_number (changed_where (has_number k) change es) n ≡ place_of_number es n
changed-nowhere es k change keeps n = in_ (eq-or n k) where
  found_in : (o : Option Kept) → place_found (option_map change o) ≡ place_found o
  found_in None = refl
  found_in (Some x) = ap place_under (keeps.place x)

  in_ : (n ≡ k) ⊎ (n ≡ k → ⊥) → place_of_number (changed_where (has_number k) change es) n ≡ place_of_number es n
  in_ (inl same) =
      let there = ap place_found (changed-same es k change keeps.number) ∙ found_in (entry_of es k) in
      ap (place_of_number (changed_where (has_number k) change es)) same ∙ there ∙ ap (place_of_number es) (sym same)
  in_ (inr other) = changed-elsewhere es k change keeps.number n other

-- one entry was taken out, or added
pub without-elsewhere : (es : List Kept) (n m : ℕ) → (m ≡ n → ⊥) → place_of_number (without_where (has_number n) es) m ≡ place_of_number es m
without-elsewhere es n m other = ap place_found (without-other es n m other)

pub without-here : (es : List Kept) (low next n : ℕ) → AreNumbers low next es → place_of_number (without_where (has_number n) es) n ≡ None
without-here es low next n are = ap place_found (without-same es low next n are)

pub added-elsewhere : (es : List Kept) (x : Kept) (m : ℕ) → (m ≡ x.number.0 → ⊥) → place_of_number (es ++ x ∷ []) m ≡ place_of_number es m
added-elsewhere es x m other = ap place_found (append-other es m x (λ e. other (sym e)))

pub added-here : (es : List Kept) (x : Kept) → entry_of es x.number.0 ≡ None → place_of_number (es ++ x ∷ []) x.number.0 ≡ place_under x.place
added-here es x none = ap place_found (append-same es x.number.0 x refl none)

-- a member that passes a test is found by it
first-any : (es : List Kept) (p : Kept → Bool) → list_any p es ≡ true → (x : Kept) × (first_where p es ≡ Some x)
first-any [] p t = absurd (let no : ⊥ = cc in no)
first-any (y ∷ es) p t = in_ (p y) t (first-any es p) where
  in_ : (b : Bool) → (b || list_any p es) ≡ true → (list_any p es ≡ true → (x : Kept) × (first_where p es ≡ Some x)) → (x : Kept) × (cond b (Some y) (first_where p es) ≡ Some x)
  in_ true s rest = (y, refl)
  in_ false s rest = rest s

-- what an index of the places says of the entries, whose numbers rise
module _ (es : List Kept) (low next : ℕ) (are : AreNumbers low next es) (index : CountedIndex) (is : IsIndexed (place_of_number es) index) where
  -- the number of an entry that is found
  indexed-found : (p : Kept → Bool) (x : Kept) (dir : Number) (name : List ℕ) → first_where p es ≡ Some x → x.place ≡ Linked dir name → is.at dir.0 name ≡ Some x.number.0
  indexed-found p x dir name e l = is.each dir.0 name x.number.0 (placed-linked es x.number.0 x dir name (entry_of-first es low next p x are e) l)

  entry-found : (dir : ℕ) (name : List ℕ) (x : Kept) → entry_at es dir name ≡ Some x → is.at dir name ≡ Some x.number.0
  entry-found dir name x e = indexed-found (stands_at dir name) x (number_of dir) name e (stands-place dir name x (first-passes es (stands_at dir name) x e))

  -- the number at a place is that of the entry there
  pub indexed-at : (dir : ℕ) (name : List ℕ) → option_map number_of (is.at dir name) ≡ option_map number_of_kept (entry_at es dir name)
  indexed-at dir name = in_ (entry_at es dir name) refl where
    in_ : (o : Option Kept) → entry_at es dir name ≡ o → option_map number_of (is.at dir name) ≡ option_map number_of_kept o
    in_ (Some x) e = ap (option_map number_of) (entry-found dir name x e)
    in_ None e = none_in (is.at dir name) refl where
      none_in : (o : Option ℕ) → is.at dir name ≡ o → option_map number_of o ≡ None
      none_in None f = refl
      none_in (Some n) f = absurd (placed-free es dir name e n (is.known dir name n f))

  -- each linked entry is the one at its place
  pub indexed-apart : AreApart es
  indexed-apart n x dir name e l = in_ (entry_at es dir.0 name) refl where
    there : place_of_number es n ≡ Some (dir.0, name)
    there = placed-linked es n x dir name e l

    in_ : (o : Option Kept) → entry_at es dir.0 name ≡ o → o ≡ Some x
    in_ None h = absurd (placed-free es dir.0 name h n there)
    in_ (Some other) h =
        let same = same-number other.number.0 n (sym (entry-found dir.0 name other h) ∙ is.each dir.0 name n there) in
        sym (entry_of-first es low next (stands_at dir.0 name) other are h) ∙ ap (entry_of es) same ∙ e

  -- an entry stands in a directory in which a number stands
  pub indexed-some : (dir n : ℕ) → StandsIn is.at dir n → list_any (is_kid_of dir) es ≡ true
  indexed-some dir n w =
      let x = placed-some es n dir w.0 (is.known dir w.0 n w.1) in
      any-first es (has_number n) (is_kid_of dir) x.0 x.1 (ap (is_in dir) x.2 ∙ eq-true dir dir refl)

  -- and in no other
  pub indexed-none : (dir : ℕ) → ((name : List ℕ) → is.at dir name ≡ None) → list_any (is_kid_of dir) es ≡ false
  indexed-none dir none = in_ (list_any (is_kid_of dir) es) refl where
    kid_in : (x : Kept) → first_where (is_kid_of dir) es ≡ Some x → (p : Place) → x.place ≡ p → is_in dir p ≡ true → ⊥
    kid_in x e (Linked d name) l t =
        let there = indexed-found (is_kid_of dir) x d name e l in
        let free = none name in
        let same : is.at d.0 name ≡ is.at dir name = ap (λ (k : ℕ). is.at k name) (true-eq d.0 dir t) in
        let no : ⊥ = cc in no
    kid_in x e (Unlinked file) l t = let no : ⊥ = cc in no

    in_ : (b : Bool) → list_any (is_kid_of dir) es ≡ b → list_any (is_kid_of dir) es ≡ false
    in_ false e = e
    in_ true e = let w = first-any es (is_kid_of dir) e in absurd (kid_in w.0 w.1 w.0.place refl (first-passes es (is_kid_of dir) w.0 w.1))
