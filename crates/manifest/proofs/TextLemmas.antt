-- Parts of texts, and the numbers of digits.
use Rattle.std.proofs.Common.{◌≡◌, ℕ, zero, suc, ◌+◌, ◌-◌, ◌*◌, ◌<◌, ◌≤◌, ◌==◌, true, false, not, cond, nat_lt, List, [], ◌∷◌, length, take, drop, fold, Option, Some, None, if◌then◌else◌, refl, ap, ◌∙◌, arith, min, get_or, IfSome, IsSome}
use Rattle.std.specs.Option.{option_map}
use Rattle.std.specs.List.{position_or_len}
use Rattle.std.proofs.lemmas.Bool.Decides.{nat_tests}
use Rattle.eden_base.proofs.PermLemmas.{same_perm}
use Rattle.eden_base.specs.declared.attr.Perm.{Perm}
use Rattle.eden_base.specs.Text.{cut}
use Rattle.manifest.specs.Text.{parts, in_first, front, last, decimal, is_octal, mode_of, perm_of}

abbrev at : ℕ → List ℕ → ℕ
at byte xs = position_or_len (λ b. b == byte) xs

parts_at : (byte : ℕ) (xs : List ℕ) → nat_lt (at byte xs) (length xs) ≡ true → parts byte xs ≡ take (at byte xs) xs ∷ parts byte (drop (at byte xs + 1) xs)
parts_at byte [] h = cc
parts_at byte (b ∷ bs) h =
    elim (b == byte) as (λ t. nat_lt (cond (not t) (1 + at byte bs) 0) (length (b ∷ bs)) ≡ true → (if t then [] ∷ parts byte bs else in_first b (parts byte bs)) ≡ take (cond (not t) (1 + at byte bs) 0) (b ∷ bs) ∷ parts byte (drop (cond (not t) (1 + at byte bs) 0 + 1) (b ∷ bs))) [
      | true ↦ λ g. refl
      | false ↦ λ g.
          let here : suc (at byte bs) ≡ 1 + at byte bs = omega arith in
          let next : suc (at byte bs + 1) ≡ 1 + at byte bs + 1 = omega arith in
          ap (in_first b) (parts_at byte bs (grind (arith, nat_tests))) ∙ (λ i. take (here i) (b ∷ bs) ∷ parts byte (drop (next i) (b ∷ bs)))
    ] h

parts_none : (byte : ℕ) (xs : List ℕ) → nat_lt (at byte xs) (length xs) ≡ false → parts byte xs ≡ xs ∷ []
parts_none byte [] h = refl
parts_none byte (b ∷ bs) h =
    elim (b == byte) as (λ t. nat_lt (cond (not t) (1 + at byte bs) 0) (length (b ∷ bs)) ≡ false → (if t then [] ∷ parts byte bs else in_first b (parts byte bs)) ≡ (b ∷ bs) ∷ []) [
      | true ↦ λ g. absurd (grind (arith, nat_tests))
      | false ↦ λ g. ap (in_first b) (parts_none byte bs (grind (arith, nat_tests)))
    ] h

-- a text with the byte is its first part, and then the parts of what follows
pub parts-cut : (byte : ℕ) (xs before rest : List ℕ) → cut byte xs ≡ Some (before, rest) → parts byte xs ≡ before ∷ parts byte rest
parts-cut byte xs before rest h =
    elim (nat_lt (at byte xs) (length xs)) as (λ b. nat_lt (at byte xs) (length xs) ≡ b → option_map {U = List ℕ × List ℕ} (λ (i : ℕ). (take i xs, drop (i + 1) xs)) (cond b (Some (at byte xs)) None) ≡ Some (before, rest) → parts byte xs ≡ before ∷ parts byte rest) [
      | true ↦ λ e g.
          let p : ◌≡◌ {A = List ℕ × List ℕ} (take (at byte xs) xs, drop (at byte xs + 1) xs) (before, rest) = cc in
          parts_at byte xs e ∙ ap (λ (q : List ℕ × List ℕ). q.0 ∷ parts byte q.1) p
      | false ↦ λ e g. cc
    ] refl h

-- a text without it is its only part
pub parts-no_cut : (byte : ℕ) (xs : List ℕ) → cut byte xs ≡ None → parts byte xs ≡ xs ∷ []
parts-no_cut byte xs h =
    elim (nat_lt (at byte xs) (length xs)) as (λ b. nat_lt (at byte xs) (length xs) ≡ b → option_map {U = List ℕ × List ℕ} (λ (i : ℕ). (take i xs, drop (i + 1) xs)) (cond b (Some (at byte xs)) None) ≡ None → parts byte xs ≡ xs ∷ []) [
      | true ↦ λ e g. cc
      | false ↦ λ e g. parts_none byte xs e
    ] refl h

-- there is always a part
pub some_part : (byte : ℕ) (xs : List ℕ) → (part : List ℕ) × (more : List (List ℕ)) × (parts byte xs ≡ part ∷ more)
some_part byte [] = ([], [], refl)
some_part byte (b ∷ bs) =
    let r = some_part byte bs in
    elim (b == byte) as (λ t. (part : List ℕ) × (more : List (List ℕ)) × ((if t then [] ∷ parts byte bs else in_first b (parts byte bs)) ≡ part ∷ more)) [
      | true ↦ ([], parts byte bs, refl)
      | false ↦ (b ∷ r.0, r.1, ap (in_first b) r.2)
    ]

pub front-more : (byte : ℕ) (part : List ℕ) (xs : List ℕ) → front (part ∷ parts byte xs) ≡ part ∷ front (parts byte xs)
front-more byte part xs = let r = some_part byte xs in rw r.2 refl

pub last-more : (byte : ℕ) (part : List ℕ) (xs : List ℕ) → last (part ∷ parts byte xs) ≡ last (parts byte xs)
last-more byte part xs = let r = some_part byte xs in rw r.2 refl

abbrev digit_after : ℕ → ℕ → ℕ
digit_after n d = 10 * n + (d - 48)

grows : (ds : List ℕ) (n : ℕ) → n ≤ fold digit_after n ds
grows [] n = omega arith
grows (d ∷ ds) n = omega (arith, grows ds (digit_after n d))

grows_tenfold : (ds : List ℕ) (i n : ℕ) → i < length ds → 10 * fold digit_after n (take i ds) ≤ fold digit_after n ds
grows_tenfold [] i n h = absurd (omega arith)
grows_tenfold (d ∷ ds) zero n h = omega (arith, grows ds (digit_after n d))
grows_tenfold (d ∷ ds) (suc i) n h = grows_tenfold ds i (digit_after n d) (omega arith)

-- a digit more makes the number at least ten times as large
pub decimal-tenfold : (ds : List ℕ) (i : ℕ) → i < length ds → 10 * decimal (take i ds) ≤ decimal ds
decimal-tenfold ds i h = grows_tenfold ds i 0 h

octal_bounds : (d : ℕ) → is_octal d ≡ true → (48 ≤ d) × (d ≤ 55)
octal_bounds d h = (grind (arith, nat_tests), grind (arith, nat_tests))

-- what `Perm::of` makes of four digits
pub mode_from_digits : (xs : List ℕ) (a b c d : ℕ) (r : Option Perm) → 4 ≤ length xs → length xs < 5 →
    is_octal (get_or xs 0 0) ≡ true → a ≡ get_or xs 0 0 - 48 → is_octal (get_or xs 1 0) ≡ true → b ≡ get_or xs 1 0 - 48 →
    is_octal (get_or xs 2 0) ≡ true → c ≡ get_or xs 2 0 - 48 → is_octal (get_or xs 3 0) ≡ true → d ≡ get_or xs 3 0 - 48 →
    IfSome r (λ p. p.bits ≡ a * 512 + b * 64 + c * 8 + d) → (a * 512 + b * 64 + c * 8 + d ≤ 4095 → IsSome r) → r ≡ mode_of xs
mode_from_digits [] a b c d r low high ta ea tb eb tc ec td ed is some = absurd (omega arith)
mode_from_digits (x ∷ []) a b c d r low high ta ea tb eb tc ec td ed is some = absurd (omega arith)
mode_from_digits (x ∷ y ∷ []) a b c d r low high ta ea tb eb tc ec td ed is some = absurd (omega arith)
mode_from_digits (x ∷ y ∷ z ∷ []) a b c d r low high ta ea tb eb tc ec td ed is some = absurd (omega arith)
mode_from_digits (x ∷ y ∷ z ∷ w ∷ v ∷ vs) a b c d r low high ta ea tb eb tc ec td ed is some = absurd (omega arith)
mode_from_digits (x ∷ y ∷ z ∷ w ∷ []) a b c d None low high ta ea tb eb tc ec td ed is some =
    let bx = octal_bounds x ta in let by = octal_bounds y tb in let bz = octal_bounds z tc in let bw = octal_bounds w td in
    absurd (let no = some (omega arith) in cc)
mode_from_digits (x ∷ y ∷ z ∷ w ∷ []) a b c d (Some p) low high ta ea tb eb tc ec td ed is some =
    let bx = octal_bounds x ta in let by = octal_bounds y tb in let bz = octal_bounds z tc in let bw = octal_bounds w td in
    let n = 8 * (8 * (8 * (8 * 0 + (x - 48)) + (y - 48)) + (z - 48)) + (w - 48) in
    let bits : p.bits ≡ min n 4095 = omega arith in
    ap (λ (q : Perm). Some q) (same_perm p (perm_of n) bits) ∙ rw (ta, tb, tc, td) refl
