-- What buckets have for each key once one of them was changed.
use Rattle.std.proofs.Common.{◌≡◌, ◌≢◌, ℕ, ◌<◌, ◌==◌, ◌&&◌, Bool, true, false, List, length, get_or, set, Option, Some, None, if◌then◌else◌, refl, sym, ap, ◌∙◌, inl, inr, ◌⊎◌, arith}
use Rattle.std.proofs.lemmas.List.{get_or-set_other, get_or-set_same, get_or_default, length-set}
use Rattle.std.specs.Option.{option_or}
use Rattle.std.proofs.lemmas.Bool.Decides.{nat_tests}
use Rattle.key_map.specs.Cells.{home, in_bucket, empty_bucket, kept}
use Rattle.key_map.specs.declared.bucket.Bucket.{Bucket}
use Rattle.key_map.proofs.CellLemmas.{same-or}

-- where a key's bucket is another for one key at most, the buckets are
pub changed_at : (buckets : List Bucket) (shift key k at : ℕ) (old new : Bucket) (is_it : Bool) (number : Option ℕ) → at ≡ home shift (length buckets) key → at < length buckets → old ≡ get_or buckets at old → (is_it ≡ true → k ≡ key) →
    in_bucket k new ≡ (if is_it then number else in_bucket k old) → kept (set buckets at new) shift k ≡ (if is_it then number else kept buckets shift k)
changed_at buckets shift key k at old new is_it number home_is less was only changed =
    ap (λ (n : ℕ). in_bucket k (get_or (set buckets at new) (home shift n k) empty_bucket)) (length-set buckets at new) ∙ by_home (same-or (home shift (length buckets) k) at) where
      is : old ≡ get_or buckets at empty_bucket
      is = was ∙ get_or_default buckets at old empty_bucket less

      by_home : (home shift (length buckets) k ≡ at) ⊎ ((home shift (length buckets) k == at) ≡ false) →
          in_bucket k (get_or (set buckets at new) (home shift (length buckets) k) empty_bucket) ≡ (if is_it then number else kept buckets shift k)
      by_home (inl same) =
          ap (λ (i : ℕ). in_bucket k (get_or (set buckets at new) i empty_bucket)) same
          ∙ ap (in_bucket k) (get_or-set_same buckets at new empty_bucket less) ∙ changed
          ∙ ap (λ (b : Bucket). if is_it then number else in_bucket k b) is
          ∙ ap (λ (i : ℕ). if is_it then number else in_bucket k (get_or buckets i empty_bucket)) (sym same)
      by_home (inr other) = in_ is_it refl where
        apart : home shift (length buckets) k ≢ at
        apart = λ e. grind (arith, nat_tests)

        in_ : (b : Bool) → is_it ≡ b → in_bucket k (get_or (set buckets at new) (home shift (length buckets) k) empty_bucket) ≡ (if b then number else kept buckets shift k)
        in_ true its = absurd (apart (ap (home shift (length buckets)) (only its) ∙ sym home_is))
        in_ false others = ap (in_bucket k) (get_or-set_other buckets at (home shift (length buckets) k) new empty_bucket apart)

-- a put is of the key alone
pub of_key : (done : Bool) (k key : ℕ) → (done && k == key) ≡ true → k ≡ key
of_key true k key is = grind (arith, nat_tests)
of_key false k key is = absurd (grind arith)

pub key_is : (k key : ℕ) → (k == key) ≡ true → k ≡ key
key_is k key is = grind (arith, nat_tests)

-- ---- the first of several cells that has a number

-- what is put first is found
pub put_first : (first rest first_new : Option ℕ) (is_it : Bool) (number : ℕ) → first_new ≡ (if is_it then Some number else first) → option_or first_new rest ≡ (if is_it then Some number else option_or first rest)
put_first first rest first_new true number put = ap (λ (o : Option ℕ). option_or o rest) put
put_first first rest first_new false number put = ap (λ (o : Option ℕ). option_or o rest) put

-- neither is there
pub none_below : (first rest : Option ℕ) → option_or first rest ≡ None → rest ≡ None
none_below None rest none = none
none_below (Some n) rest none = absurd (grind arith)

-- what is put at a key that had none is found behind what stays
pub put_behind : (first rest : ℕ → Option ℕ) (key k number : ℕ) (is_it : Bool) (first_new rest_new : Option ℕ) → (is_it ≡ true → k ≡ key) → first key ≡ None → first_new ≡ first k →
    rest_new ≡ (if is_it then Some number else rest k) → option_or first_new rest_new ≡ (if is_it then Some number else option_or (first k) (rest k))
put_behind first rest key k number true first_new rest_new only free same put =
    ap (λ (o : Option ℕ). option_or o rest_new) (same ∙ ap first (only refl) ∙ free) ∙ put
put_behind first rest key k number false first_new rest_new only free same put =
    ap (λ (o : Option ℕ). option_or o rest_new) same ∙ ap (option_or (first k)) put

-- four cells from which a key goes
pub cells-removed : (t : Bool) (a b c d : Option ℕ) {a' b' c' d' : Option ℕ} → a' ≡ (if t then None else a) → b' ≡ (if t then None else b) → c' ≡ (if t then None else c) → d' ≡ (if t then None else d) →
    option_or a' (option_or b' (option_or c' d')) ≡ (if t then None else option_or a (option_or b (option_or c d)))
cells-removed true a b c d e f g h = rw (e, f, g, h) refl
cells-removed false a b c d e f g h = rw (e, f, g, h) refl
