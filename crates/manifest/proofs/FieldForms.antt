-- The fields of a line, and the texts that they have.
use Rattle.std.proofs.Common.{◌≡◌, ℕ, ◌+◌, ◌-◌, ◌*◌, ◌/◌, ◌%◌, ◌<◌, ◌≤◌, ◌==◌, ◌&&◌, Bool, true, false, not, nat_le, min, List, [], ◌∷◌, length, fold, get_or, Option, Some, None, refl, sym, ap, ◌∙◌, arith, rules, if◌then◌else◌}
use Rattle.std.proofs.lemmas.Bool.Decides.{nat_tests}
use Rattle.std.proofs.lemmas.Fmt.{digits_decimal, digits_value-decimal, decimal-digits_value, decimal_nonempty, decimal_digit, first_decimal}
use Rattle.std.proofs.lemmas.Str.Parse.{IsNumeralModel, numerals_by_fold}
use Rattle.std.specs.Fmt.{decimal as decimal_text}
use Rattle.std.specs.List.{list_all}
use Rattle.eden_base.proofs.PermLemmas.{same_perm}
use Rattle.eden_base.specs.Limits.{greatest_size}
use Rattle.eden_base.specs.declared.attr.Perm.{Perm}
use Rattle.std.proofs.lemmas.Bool.{and_parts}
use Rattle.manifest.specs.ManifestForm.{mode_text}
use Rattle.manifest.proofs.PartsLaws.{has}
use Rattle.manifest.specs.Text.{is_octal, is_decimal, perm_of, mode_of, decimal, has_leading_zero, size_of}

-- ---- modes

octal_bounds : (d : ℕ) → is_octal d ≡ true → (48 ≤ d) × (d ≤ 55)
octal_bounds d h = (grind (arith, nat_tests), grind (arith, nat_tests))

abbrev number : ℕ → ℕ → ℕ → ℕ → ℕ
number x y z w = 8 * (8 * (8 * (8 * 0 + (x - 48)) + (y - 48)) + (z - 48)) + (w - 48)

four_octals : (x y z w : ℕ) → (is_octal x && (is_octal y && (is_octal z && (is_octal w && true)))) ≡ true → x ∷ y ∷ z ∷ w ∷ [] ≡ mode_text (perm_of (number x y z w))
four_octals x y z w h =
    let bx = octal_bounds x (grind (arith, nat_tests)) in
    let by = octal_bounds y (grind (arith, nat_tests)) in
    let bz = octal_bounds z (grind (arith, nat_tests)) in
    let bw = octal_bounds w (grind (arith, nat_tests)) in
    let bits : min (number x y z w) 4095 ≡ number x y z w = omega arith in
    let ex : x ≡ 48 + min (number x y z w) 4095 / 512 = omega arith in
    let ey : y ≡ 48 + min (number x y z w) 4095 / 64 % 8 = omega arith in
    let ez : z ≡ 48 + min (number x y z w) 4095 / 8 % 8 = omega arith in
    let ew : w ≡ 48 + min (number x y z w) 4095 % 8 = omega arith in
    λ i. ex i ∷ ey i ∷ ez i ∷ ew i ∷ []

-- digits that are read are the text of what they say
pub mode_text-mode_of : (digits : List ℕ) (perm : Perm) → mode_of digits ≡ Some perm → digits ≡ mode_text perm
mode_text-mode_of [] perm h = absurd (cc)
mode_text-mode_of (x ∷ []) perm h = absurd (cc)
mode_text-mode_of (x ∷ y ∷ []) perm h = absurd (cc)
mode_text-mode_of (x ∷ y ∷ z ∷ []) perm h = absurd (cc)
mode_text-mode_of (x ∷ y ∷ z ∷ w ∷ v ∷ vs) perm h =
    let long : (length (x ∷ y ∷ z ∷ w ∷ v ∷ vs) == 4) ≡ false = grind (arith, nat_tests) in
    absurd (let none = ap (λ t. if t && list_all is_octal (x ∷ y ∷ z ∷ w ∷ v ∷ vs) then Some (perm_of (fold (λ n d. 8 * n + (d - 48)) 0 (x ∷ y ∷ z ∷ w ∷ v ∷ vs))) else None) long in cc (h, none))
mode_text-mode_of (x ∷ y ∷ z ∷ w ∷ []) perm h =
    elim (is_octal x && (is_octal y && (is_octal z && (is_octal w && true)))) as (λ t. (is_octal x && (is_octal y && (is_octal z && (is_octal w && true)))) ≡ t → (if t then Some (perm_of (number x y z w)) else None) ≡ Some perm → x ∷ y ∷ z ∷ w ∷ [] ≡ mode_text perm) [
      | true ↦ λ e g. let same : perm_of (number x y z w) ≡ perm = cc in four_octals x y z w e ∙ ap mode_text same
      | false ↦ λ e g. absurd (cc)
    ] refl h

-- the text of permissions is read as them
pub mode_of-mode_text : (perm : Perm) → mode_of (mode_text perm) ≡ Some perm
mode_of-mode_text perm =
    let low = perm.in_range in
    let a : is_octal (48 + perm.bits / 512) ≡ true = grind (arith, nat_tests) in
    let b : is_octal (48 + perm.bits / 64 % 8) ≡ true = grind (arith, nat_tests) in
    let c : is_octal (48 + perm.bits / 8 % 8) ≡ true = grind (arith, nat_tests) in
    let d : is_octal (48 + perm.bits % 8) ≡ true = grind (arith, nat_tests) in
    let n = number (48 + perm.bits / 512) (48 + perm.bits / 64 % 8) (48 + perm.bits / 8 % 8) (48 + perm.bits % 8) in
    let bits : min n 4095 ≡ perm.bits = omega arith in
    rw (a, b, c, d) (ap (λ (p : Perm). Some p) (same_perm (perm_of n) perm bits))

-- ---- sizes

own : IsNumeralModel (λ ds. list_all is_decimal ds ≡ true) decimal
own = numerals_by_fold _ (search rules) (λ n ds. fold (λ m d. 10 * m + (d - 48)) n ds) (search rules)

leading : (ds : List ℕ) → has_leading_zero ds ≡ false → 0 < length ds → get_or ds 0 0 ≡ 48 → length ds ≡ 1
leading [] h some zero = absurd (omega arith)
leading (d ∷ []) h some zero = refl
leading (d ∷ e ∷ more) h some zero = absurd (grind (arith, nat_tests))

-- the text of a size is no longer than its digits, of which the first is no zero
no_leading : (ds : List ℕ) → 48 < get_or ds 0 0 → has_leading_zero ds ≡ false
no_leading [] h = refl
no_leading (d ∷ []) h = refl
no_leading (d ∷ e ∷ more) h = grind (arith, nat_tests)

-- the number that such digits write, if it is a size
abbrev checked : Bool → Bool → Bool → Bool → ℕ → Option ℕ
checked empty leads digits small n =
    if empty then None else if leads then None else if not digits then None else if small then Some n else None

checked-some : (empty leads digits small : Bool) (n size : ℕ) → checked empty leads digits small n ≡ Some size → (empty ≡ false) × (leads ≡ false) × (digits ≡ true) × (small ≡ true) × (n ≡ size)
checked-some true leads digits small n size h = absurd (cc)
checked-some false true digits small n size h = absurd (cc)
checked-some false false false small n size h = absurd (cc)
checked-some false false true false n size h = absurd (cc)
checked-some false false true true n size h = (refl, refl, refl, refl, cc)

pub decimal_text-size_of : (digits : List ℕ) (size : ℕ) → size_of digits ≡ Some size → digits ≡ decimal_text size
decimal_text-size_of digits size h =
    let r = checked-some (length digits == 0) (has_leading_zero digits) (list_all is_decimal digits) (nat_le (decimal digits) greatest_size) (decimal digits) size h in
    let some : 0 < length digits = let e = r.0 in grind (arith, nat_tests) in
    let small : decimal digits ≤ greatest_size = let e = r.3 in grind (arith, nat_tests) in
    sym (decimal-digits_value own digits r.2 some (leading digits r.1 some) (omega (arith, small))) ∙ ap decimal_text r.4

first_of_size : (size : ℕ) → size ≤ greatest_size → has_leading_zero (decimal_text size) ≡ false
first_of_size size small =
    elim (nat_le 1 size) as (λ t. nat_le 1 size ≡ t → has_leading_zero (decimal_text size) ≡ false) [
      | true ↦ λ e. let some : 0 < size = grind (arith, nat_tests) in no_leading (decimal_text size) (first_decimal size some (omega (arith, small)))
      | false ↦ λ e. let zero : size < 10 = grind (arith, nat_tests) in ap has_leading_zero (decimal_digit size zero)
    ] refl

pub size_of-decimal_text : (size : ℕ) → size ≤ greatest_size → size_of (decimal_text size) ≡ Some size
size_of-decimal_text size small =
    let value : decimal (decimal_text size) ≡ size = digits_value-decimal own size (omega (arith, small)) in
    let digits : list_all is_decimal (decimal_text size) ≡ true = digits_decimal own size (omega (arith, small)) in
    let lead = first_of_size size small in
    let some : (length (decimal_text size) == 0) ≡ false = let l = decimal_nonempty size (omega (arith, small)) in grind (arith, nat_tests) in
    let fits : nat_le (decimal (decimal_text size)) greatest_size ≡ true = grind (arith, nat_tests) in
    ap (λ t. checked t (has_leading_zero (decimal_text size)) (list_all is_decimal (decimal_text size)) (nat_le (decimal (decimal_text size)) greatest_size) (decimal (decimal_text size))) some
    ∙ ap (λ t. checked false t (list_all is_decimal (decimal_text size)) (nat_le (decimal (decimal_text size)) greatest_size) (decimal (decimal_text size))) lead
    ∙ ap (λ t. checked false false t (nat_le (decimal (decimal_text size)) greatest_size) (decimal (decimal_text size))) digits
    ∙ ap (λ t. checked false false true t (decimal (decimal_text size))) fits
    ∙ ap (λ n. Some n) value

-- ---- neither has a space

no_space : (ds : List ℕ) → list_all is_decimal ds ≡ true → has 32 ds ≡ false
no_space [] h = refl
no_space (d ∷ ds) h =
    let p = and_parts (is_decimal d) (list_all is_decimal ds) h in
    let first : is_decimal d ≡ true = p.0 in
    let other : (d == 32) ≡ false = grind (arith, nat_tests) in
    rw other (no_space ds p.1)

pub size-without : (size : ℕ) → size ≤ greatest_size → has 32 (decimal_text size) ≡ false
size-without size small = no_space (decimal_text size) (digits_decimal own size (omega (arith, small)))

pub mode-without : (perm : Perm) → has 32 (mode_text perm) ≡ false
mode-without perm =
    let a : (48 + perm.bits / 512 == 32) ≡ false = grind (arith, nat_tests) in
    let b : (48 + perm.bits / 64 % 8 == 32) ≡ false = grind (arith, nat_tests) in
    let c : (48 + perm.bits / 8 % 8 == 32) ≡ false = grind (arith, nat_tests) in
    let d : (48 + perm.bits % 8 == 32) ≡ false = grind (arith, nat_tests) in
    rw (a, b, c, d) refl
