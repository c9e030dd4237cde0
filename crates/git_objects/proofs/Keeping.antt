-- How much the blobs of a list count for, and which of them fit.
use Rattle.std.proofs.Common.{◌≡◌, ℕ, suc, zero, ◌+◌, ◌-◌, ◌<◌, ◌≤◌, ◌^◌, Bool, true, false, nat_le, List, [], ◌∷◌, ◌++◌, length, take, slice_get, Option, Some, None, is_some, refl, sym, ap, subst, ◌∙◌, arith}
use Rattle.std.proofs.lemmas.Bool.Decides.{nat_tests}
use Rattle.std.proofs.lemmas.List.{take_all}
use Rattle.std.specs.Option.{option_map_or}
use Rattle.std.specs.Map.{lookup, lookup_entry, remove_entry}
use Rattle.lru.specs.LruCache.{promoted, put_entries, lru_cache}
use Rattle.git_objects.specs.BlobCache.{Entry, cost_of_entry, fitting, held_by, same_id}
use Rattle.git_objects.specs.declared.blob_cache.Kept.{Kept}

-- ---- a blob that was used goes first

module _ (test : List ℕ → Bool) where
  taken : (es : List Entry) (e : Entry) → lookup_entry test es ≡ Some e → e.1.cost + held_by (remove_entry test es) ≡ held_by es
  taken [] e is = cc
  taken (x ∷ es) e is = (elim (test x.0) as (λ b. test x.0 ≡ b → e.1.cost + held_by (remove_entry test (x ∷ es)) ≡ held_by (x ∷ es)) [
    | true ↦ λ t. let same : x ≡ e = (let is' = rw t at is in cc) in rw t (ap (λ (y : Entry). y.1.cost + held_by es) (sym same))
    | false ↦ λ t. let later = taken es e (rw t at is) in rw t (omega (arith, later))
  ]) refl

  promoted_by : (es : List Entry) (found : Option Entry) → lookup_entry test es ≡ found → held_by (option_map_or (λ e. e ∷ remove_entry test es) found es) ≡ held_by es
  promoted_by es None is = refl
  promoted_by es (Some e) is = taken es e is

  pub promoted_held : (es : List Entry) → held_by (promoted test es) ≡ held_by es
  promoted_held es = promoted_by es (lookup_entry test es) refl

  -- ---- a blob that is in no list is in no part of it

  pub absent : (es : List Entry) → is_some (lookup test es) ≡ false → lookup_entry test es ≡ None
  absent [] is = refl
  absent (x ∷ es) is = (elim (test x.0) as (λ b. test x.0 ≡ b → lookup_entry test (x ∷ es) ≡ None) [
    | true ↦ λ t. let is' = rw t at is in cc
    | false ↦ λ t. rw t (absent es (rw t at is))
  ]) refl

  pub absent_fitting : (room : ℕ) (es : List Entry) → lookup_entry test es ≡ None → lookup_entry test (fitting room es) ≡ None
  absent_fitting room [] is = refl
  absent_fitting room (x ∷ es) is = (elim (nat_le x.1.cost room) as (λ b. nat_le x.1.cost room ≡ b → lookup_entry test (fitting room (x ∷ es)) ≡ None) [
    | true ↦ λ t. rw t ((elim (test x.0) as (λ b. test x.0 ≡ b → lookup_entry test (x ∷ fitting (room - x.1.cost) es) ≡ None) [
      | true ↦ λ u. let is' = rw u at is in cc
      | false ↦ λ u. rw u (absent_fitting (room - x.1.cost) es (rw u at is))
    ]) refl)
    | false ↦ λ t. rw t refl
  ]) refl

-- ---- the last blob gives way

fits_step : (x : Entry) (es : List Entry) (room : ℕ) → x.1.cost ≤ room → fitting room (x ∷ es) ≡ x ∷ fitting (room - x.1.cost) es
fits_step x es room fits = let t : nat_le x.1.cost room ≡ true = grind (arith, nat_tests) in rw t refl

fits_not : (x : Entry) (es : List Entry) (room : ℕ) → room < x.1.cost → fitting room (x ∷ es) ≡ []
fits_not x es room fits = let t : nat_le x.1.cost room ≡ false = grind (arith, nat_tests) in rw t refl

pub fits_all : (room : ℕ) (es : List Entry) → held_by es ≤ room → fitting room es ≡ es
fits_all room [] fits = refl
fits_all room (x ∷ es) fits =
    fits_step x es room (omega (arith, fits))
    ∙ ap (λ (l : List Entry). x ∷ l) (fits_all (room - x.1.cost) es (omega (arith, fits)))

held_append : (es : List Entry) (e : Entry) → held_by (es ++ e ∷ []) ≡ held_by es + e.1.cost
held_append [] e = omega arith
held_append (x ∷ es) e = let later = held_append es e in omega (arith, later)

without_last : (room : ℕ) (es : List Entry) (e : Entry) → room < held_by (es ++ e ∷ []) → fitting room es ≡ fitting room (es ++ e ∷ [])
without_last room [] e over = sym (fits_not e [] room (omega (arith, over)))
without_last room (x ∷ es) e over = (elim (nat_le x.1.cost room) as (λ b. nat_le x.1.cost room ≡ b → fitting room (x ∷ es) ≡ fitting room (x ∷ (es ++ e ∷ []))) [
  | true ↦ λ t. rw t (ap (λ (l : List Entry). x ∷ l) (without_last (room - x.1.cost) es e (let fits : x.1.cost ≤ room = grind (arith, nat_tests, t) in omega (arith, over, fits))))
  | false ↦ λ t. rw t refl
]) refl

-- the last one, and those before it
last_at : (es : List Entry) (n : ℕ) (e : Entry) → length es ≡ suc n → slice_get es n ≡ Some e → take n es ++ e ∷ [] ≡ es
last_at [] n e long is = absurd (omega (arith, long))
last_at (x ∷ []) zero e long is = let same : x ≡ e = cc in ap (λ (y : Entry). y ∷ []) (sym same)
last_at (x ∷ y ∷ es) zero e long is = absurd (omega (arith, long))
last_at (x ∷ es) (suc n) e long is = ap (λ (l : List Entry). x ∷ l) (last_at es n e (omega (arith, long)) is)

pub last_split : (es : List Entry) (e : Entry) → slice_get es (length es - 1) ≡ Some e → take (length es - 1) es ++ e ∷ [] ≡ es
last_split [] e is = cc
last_split (x ∷ es) e is = last_at (x ∷ es) (length (x ∷ es) - 1) e (omega arith) is

pub fitting_front : (room : ℕ) (es : List Entry) (e : Entry) → slice_get es (length es - 1) ≡ Some e → room < held_by es → fitting room (take (length es - 1) es) ≡ fitting room es
fitting_front room es e is over =
    let split = last_split es e is in
    without_last room (take (length es - 1) es) e (subst (λ (l : List Entry). room < held_by l) (sym split) over)
    ∙ ap (fitting room) split

pub held_front : (es : List Entry) (e : Entry) → slice_get es (length es - 1) ≡ Some e → held_by (take (length es - 1) es) + e.1.cost ≡ held_by es
held_front es e is = sym (held_append (take (length es - 1) es) e) ∙ ap held_by (last_split es e is)

pub last_within : (es : List Entry) (e : Entry) → slice_get es (length es - 1) ≡ Some e → e.1.cost ≤ held_by es
last_within es e is = let split = held_front es e is in omega (arith, split)

some_at : (es : List Entry) (n : ℕ) → n < length es → slice_get es n ≡ None → ⊥
some_at [] n within is = omega (arith, within)
some_at (x ∷ es) zero within is = cc
some_at (x ∷ es) (suc n) within is = some_at es n (omega (arith, within)) is

pub front_held : (es : List Entry) (last : Option Entry) → slice_get es (length es - 1) ≡ last → held_by (take (length es - 1) es) ≡ held_by es - cost_of_entry last
front_held [] None is = refl
front_held (x ∷ es) None is = absurd (some_at (x ∷ es) (length (x ∷ es) - 1) (omega arith) is)
front_held es (Some e) is = let split = held_front es e is in omega (arith, split)

front_by : (room : ℕ) (es : List Entry) (last : Option Entry) → slice_get es (length es - 1) ≡ last → room < held_by es → fitting room (take (length es - 1) es) ≡ fitting room es
front_by room [] None is over = refl
front_by room (x ∷ es) None is over = absurd (some_at (x ∷ es) (length (x ∷ es) - 1) (omega arith) is)
front_by room es (Some e) is over = fitting_front room es e is over

pub front_fits : (room : ℕ) (es : List Entry) → room < held_by es → fitting room (take (length es - 1) es) ≡ fitting room es
front_fits room es over = front_by room es (slice_get es (length es - 1)) refl over

pub some_held : (es : List Entry) (room : ℕ) → room < held_by es → 0 < length es
some_held [] room over = absurd (omega (arith, over))
some_held (x ∷ es) room over = omega arith

pub none_held : (es : List Entry) → length es ≡ 0 → held_by es ≡ 0
none_held [] is = refl
none_held (x ∷ es) is = absurd (omega (arith, is))

-- ---- one more blob

pub shorter : (room : ℕ) (es : List Entry) → length (fitting room es) ≤ length es
shorter room [] = omega arith
shorter room (x ∷ es) = (elim (nat_le x.1.cost room) as (λ b. nat_le x.1.cost room ≡ b → length (fitting room (x ∷ es)) ≤ length (x ∷ es)) [
  | true ↦ λ t. let later = shorter (room - x.1.cost) es in rw t (omega (arith, later))
  | false ↦ λ t. rw t (omega arith)
]) refl

pub put_new : (eq : List ℕ → List ℕ → Bool) (es : List Entry) (cap : ℕ) (k : List ℕ) (v : Kept) → lookup_entry (eq k) es ≡ None → length es ≤ cap - 1 → put_entries eq (lru_cache es cap) k v ≡ (k, v) ∷ es
put_new eq es cap k v is fits = rw is (ap (λ (l : List Entry). (k, v) ∷ l) (take_all (cap - 1) es fits))

within_by : (es : List Entry) (last : Option Entry) → slice_get es (length es - 1) ≡ last → cost_of_entry last ≤ held_by es
within_by es None is = omega arith
within_by es (Some e) is = last_within es e is

-- the last one counts for no more than all
pub cost_within : (es : List Entry) (last : Option Entry) → slice_get es (length es - 1) ≡ last → cost_of_entry last ≤ held_by es
cost_within es last is = within_by es last is

-- one more blob stands first among those that leave room for it
pub put_kept : (room cap : ℕ) (es new : List Entry) (object : List ℕ) (kept : Kept) → is_some (lookup (same_id object) es) ≡ false → new ≡ fitting room es → length new < 2 ^ 63 → cap ≡ 2 ^ 64 - 1 → put_entries same_id (lru_cache new cap) object kept ≡ (object, kept) ∷ fitting room es
put_kept room cap es new object kept gone is few all =
    let none : lookup_entry (same_id object) new ≡ None = rw is (absent_fitting (same_id object) room es (absent (same_id object) es gone)) in
    put_new same_id new cap object kept none (omega (arith, few, all))
    ∙ ap (λ (l : List Entry). (object, kept) ∷ l) is
