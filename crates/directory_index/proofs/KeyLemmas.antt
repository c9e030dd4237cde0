-- The key of bytes, eight after eight.
use Rattle.std.proofs.Common.{◌≡◌, ◌<◌, ◌≤◌, ℕ, ◌+◌, ◌-◌, List, [], ◌∷◌, ◌++◌, length, take, drop, true, false, cond, refl, sym, ap, ◌∙◌, arith}
use Rattle.std.specs.Prelude.{nat_lt}
use Rattle.std.proofs.lemmas.Bool.Decides.{nat_tests}
use Rattle.std.specs.Int.{w64, from_le_bytes}
use Rattle.directory_index.specs.Keys.{eights, last_eight, parts_of, key_with, key_with_all}

-- the first eight bytes are a number, in front of those of the others
first-eight : (bytes : List ℕ) → 8 ≤ length bytes → eights bytes ≡ from_le_bytes w64 (take 8 bytes) ∷ eights (drop 8 bytes)
first-eight (a ∷ b ∷ c ∷ d ∷ e ∷ f ∷ g ∷ h ∷ more) long = refl
first-eight [] long = absurd (omega arith)
first-eight (a ∷ []) long = absurd (omega arith)
first-eight (a ∷ b ∷ []) long = absurd (omega arith)
first-eight (a ∷ b ∷ c ∷ []) long = absurd (omega arith)
first-eight (a ∷ b ∷ c ∷ d ∷ []) long = absurd (omega arith)
first-eight (a ∷ b ∷ c ∷ d ∷ e ∷ []) long = absurd (omega arith)
first-eight (a ∷ b ∷ c ∷ d ∷ e ∷ f ∷ []) long = absurd (omega arith)
first-eight (a ∷ b ∷ c ∷ d ∷ e ∷ f ∷ g ∷ []) long = absurd (omega arith)

-- fewer bytes have no such number
none-left : (bytes : List ℕ) → length bytes < 8 → eights bytes ≡ []
none-left [] few = refl
none-left (a ∷ []) few = refl
none-left (a ∷ b ∷ []) few = refl
none-left (a ∷ b ∷ c ∷ []) few = refl
none-left (a ∷ b ∷ c ∷ d ∷ []) few = refl
none-left (a ∷ b ∷ c ∷ d ∷ e ∷ []) few = refl
none-left (a ∷ b ∷ c ∷ d ∷ e ∷ f ∷ []) few = refl
none-left (a ∷ b ∷ c ∷ d ∷ e ∷ f ∷ g ∷ []) few = refl
none-left (a ∷ b ∷ c ∷ d ∷ e ∷ f ∷ g ∷ h ∷ more) few = absurd (omega arith)

-- a key takes parts after parts
with-both : (key : ℕ) (xs ys : List ℕ) → key_with_all key (xs ++ ys) ≡ key_with_all (key_with_all key xs) ys
with-both key [] ys = refl
with-both key (x ∷ xs) ys = with-both (key_with key x) xs ys

-- the key goes on by eight bytes
pub goes_on : (key word next : ℕ) (bytes front rest : List ℕ) → front ≡ take 8 bytes → rest ≡ drop 8 bytes → length rest + 8 ≡ length bytes →
    word ≡ from_le_bytes w64 front → next ≡ key_with key word → key_with_all next (eights rest) ≡ key_with_all key (eights bytes)
goes_on key word next bytes front rest front_is rest_is len read with =
    ap (λ (k : ℕ). key_with_all k (eights rest)) (with ∙ ap (key_with key) (read ∙ ap (from_le_bytes w64) front_is))
    ∙ ap (λ (xs : List ℕ). key_with_all (key_with key (from_le_bytes w64 (take 8 bytes))) (eights xs)) rest_is
    ∙ sym (ap (key_with_all key) (first-eight bytes (omega arith)))

-- and ends by the last eight and how many there are
pub ends : (start key last : ℕ) (bytes rest : List ℕ) → length rest < 8 → key_with_all key (eights rest) ≡ key_with_all start (eights bytes) →
    last ≡ key_with_all key (last_eight bytes) → key_with last (length bytes) ≡ key_with_all start (parts_of bytes)
ends start key last bytes rest few so_far took =
    let was : key ≡ key_with_all start (eights bytes) = sym (ap (key_with_all key) (none-left rest few)) ∙ so_far in
    ap (λ (k : ℕ). key_with k (length bytes))
    (took ∙ ap (λ (k : ℕ). key_with_all k (last_eight bytes)) was ∙ sym (with-both start (eights bytes) (last_eight bytes)))
    ∙ sym (with-both start (eights bytes ++ last_eight bytes) (length bytes ∷ []))

-- the last eight bytes are one part
pub by-eight : (key word next : ℕ) (bytes last : List ℕ) → 8 ≤ length bytes → last ≡ drop (length bytes - 8) bytes → word ≡ from_le_bytes w64 last → next ≡ key_with key word →
    next ≡ key_with_all key (last_eight bytes)
by-eight key word next bytes last long last_is read with =
    with ∙ ap (key_with key) (read ∙ ap (from_le_bytes w64) last_is)
    ∙ sym (ap (λ b. key_with_all key (cond b bytes (from_le_bytes w64 (drop (length bytes - 8) bytes) ∷ []))) (let more : nat_lt (length bytes) 8 ≡ false = grind (arith, nat_tests) in more))

-- fewer bytes are a part each
pub by-each : (key next : ℕ) (bytes : List ℕ) → length bytes < 8 → next ≡ key_with_all key bytes → next ≡ key_with_all key (last_eight bytes)
by-each key next bytes few with =
    with ∙ sym (ap (λ b. key_with_all key (cond b bytes (from_le_bytes w64 (drop (length bytes - 8) bytes) ∷ []))) (let less : nat_lt (length bytes) 8 ≡ true = grind (arith, nat_tests) in less))
