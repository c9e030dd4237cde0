-- Permissions in octal digits: what the formatter writes is the four digits of the number in base eight.
use Rattle.std.proofs.Common.{◌≡◌, ℕ, suc, ◌+◌, ◌-◌, ◌/◌, ◌%◌, ◌^◌, ◌≤◌, Bool, true, false, ◌==◌, nat_lt, List, [], ◌∷◌, Option, Result, refl, ap, subst, ◌∙◌, arith, if◌then◌else◌}
use Rattle.std.proofs.lemmas.Bool.Decides.{nat_tests}
use Rattle.std.specs.Fmt.{digits, digits_onto, digit_glyph, padded_integral, char_count, format_spec}
use Rattle.std.specs.Prelude.{OnOk}
use Rattle.std.specs.Io.KnownBytes.{Appends}
use Rattle.script_lines.specs.Printed.{octal}

-- digits as `{:04o}` writes them
abbrev padded : List ℕ → List ℕ
padded numeral = padded_integral (format_spec 32 0 4 4 (2 ^ 64 - 1)) false [] numeral

-- the glyph of a number's last octal digit
abbrev glyph : ℕ → ℕ
glyph n = digit_glyph false (n % 8)

glyph-is : (n : ℕ) → glyph n ≡ 48 + n % 8
glyph-is n =
    let low : nat_lt (n % 8) 10 ≡ true = grind (arith, nat_tests) in
    ap (λ (b : Bool). if b then 48 + n % 8 else 87 + n % 8) low

onto-last : (k n : ℕ) (acc : List ℕ) → (n / 8 == 0) ≡ true → digits_onto (suc k) 8 false n acc ≡ glyph n ∷ acc
onto-last k n acc e = ap (λ (b : Bool). if b then glyph n ∷ acc else digits_onto k 8 false (n / 8) (glyph n ∷ acc)) e

onto-more : (k n : ℕ) (acc : List ℕ) → (n / 8 == 0) ≡ false → digits_onto (suc k) 8 false n acc ≡ digits_onto k 8 false (n / 8) (glyph n ∷ acc)
onto-more k n acc e = ap (λ (b : Bool). if b then glyph n ∷ acc else digits_onto k 8 false (n / 8) (glyph n ∷ acc)) e

pad-1 : (a : ℕ) → padded (a ∷ []) ≡ 48 ∷ 48 ∷ 48 ∷ a ∷ []
unfolding padded_integral char_count
pad-1 a = refl

pad-2 : (a b : ℕ) → padded (a ∷ b ∷ []) ≡ 48 ∷ 48 ∷ a ∷ b ∷ []
unfolding padded_integral char_count
pad-2 a b = refl

pad-3 : (a b c : ℕ) → padded (a ∷ b ∷ c ∷ []) ≡ 48 ∷ a ∷ b ∷ c ∷ []
unfolding padded_integral char_count
pad-3 a b c = refl

pad-4 : (a b c d : ℕ) → padded (a ∷ b ∷ c ∷ d ∷ []) ≡ a ∷ b ∷ c ∷ d ∷ []
unfolding padded_integral char_count
pad-4 a b c d = refl

digits-onto : (n : ℕ) → digits 8 false n ≡ digits_onto 64 8 false n []
unfolding digits
digits-onto n = refl

four : (a b c d e f g h : ℕ) → a ≡ e → b ≡ f → c ≡ g → d ≡ h → a ∷ b ∷ c ∷ d ∷ [] ≡ e ∷ f ∷ g ∷ h ∷ []
four a b c d e f g h p q r s = cc

octal-by : (n : ℕ) (b c d : Bool) → n ≤ 4095 → (n / 8 == 0) ≡ b → (n / 8 / 8 == 0) ≡ c → (n / 8 / 8 / 8 == 0) ≡ d → padded (digits 8 false n) ≡ octal n
octal-by n true c d small e f g =
    ap padded (digits-onto n ∙ onto-last 63 n [] e) ∙ pad-1 (glyph n)
    ∙ four 48 48 48 (glyph n) _ _ _ _ (grind (arith, nat_tests)) (grind (arith, nat_tests)) (grind (arith, nat_tests)) (glyph-is n)
octal-by n false true d small e f g =
    ap padded (digits-onto n ∙ onto-more 63 n [] e ∙ onto-last 62 (n / 8) (glyph n ∷ []) f) ∙ pad-2 (glyph (n / 8)) (glyph n)
    ∙ four 48 48 (glyph (n / 8)) (glyph n) _ _ _ _ (grind (arith, nat_tests)) (grind (arith, nat_tests)) (glyph-is (n / 8)) (glyph-is n)
octal-by n false false true small e f g =
    ap padded (digits-onto n ∙ onto-more 63 n [] e ∙ onto-more 62 (n / 8) (glyph n ∷ []) f ∙ onto-last 61 (n / 8 / 8) (glyph (n / 8) ∷ glyph n ∷ []) g)
    ∙ pad-3 (glyph (n / 8 / 8)) (glyph (n / 8)) (glyph n)
    ∙ four 48 (glyph (n / 8 / 8)) (glyph (n / 8)) (glyph n) _ _ _ _ (grind (arith, nat_tests)) (glyph-is (n / 8 / 8)) (glyph-is (n / 8)) (glyph-is n)
octal-by n false false false small e f g =
    let last : (n / 8 / 8 / 8 / 8 == 0) ≡ true = grind (arith, nat_tests) in
    ap padded (digits-onto n ∙ onto-more 63 n [] e ∙ onto-more 62 (n / 8) (glyph n ∷ []) f ∙ onto-more 61 (n / 8 / 8) (glyph (n / 8) ∷ glyph n ∷ []) g
    ∙ onto-last 60 (n / 8 / 8 / 8) (glyph (n / 8 / 8) ∷ glyph (n / 8) ∷ glyph n ∷ []) last)
    ∙ pad-4 (glyph (n / 8 / 8 / 8)) (glyph (n / 8 / 8)) (glyph (n / 8)) (glyph n)
    ∙ four (glyph (n / 8 / 8 / 8)) (glyph (n / 8 / 8)) (glyph (n / 8)) (glyph n) _ _ _ _ (glyph-is (n / 8 / 8 / 8)) (glyph-is (n / 8 / 8)) (glyph-is (n / 8)) (glyph-is n)

-- `{:04o}` writes the four octal digits of a number that has no more than four
pub octal-formatted : (n : ℕ) → n ≤ 4095 → padded_integral (format_spec 32 0 4 4 (2 ^ 64 - 1)) false [] (digits 8 false n) ≡ octal n
octal-formatted n small = octal-by n (n / 8 == 0) (n / 8 / 8 == 0) (n / 8 / 8 / 8 == 0) small refl refl refl

-- what was written by `{:04o}` is the four octal digits
pub octal-written : {E : Type 0} (r : Result (Unit {0}) E) (a b : Option (List ℕ)) (n : ℕ) → n ≤ 4095 → OnOk r (Appends a b (padded_integral (format_spec 32 0 4 4 (2 ^ 64 - 1)) false [] (digits 8 false n))) → OnOk r (Appends a b (octal n))
octal-written r a b n small written = subst (λ (text : List ℕ). OnOk r (Appends a b text)) (octal-formatted n small) written
