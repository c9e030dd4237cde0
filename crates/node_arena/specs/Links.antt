-- Lists of nodes by their indexes, and the links that make them.
use Rattle.std.specs.Prelude.{◌≡◌, ℕ, Bool, true, false, ◌==◌, if◌then◌else◌, List, [], ◌∷◌}

-- the function f, but with v at i
abbrev pub updated : {X : Type 0} → (ℕ → X) → ℕ → X → ℕ → X
updated f i v k = if i == k then v else f k

-- k is in the list
abbrev pub has : ℕ → List ℕ → Bool
has k [] = false
has k (x ∷ xs) = if k == x then true else has k xs

-- no index is in the list twice
abbrev pub IsApart : List ℕ → Type 0
IsApart [] = Unit {0}
IsApart (x ∷ xs) = (has x xs ≡ false) × IsApart xs

-- the list without the first x
abbrev pub strike : ℕ → List ℕ → List ℕ
strike x [] = []
strike x (y ∷ ys) = if x == y then ys else y ∷ strike x ys

-- the links lead from a through the list to z, and back
abbrev pub IsChain : (ℕ → ℕ) → (ℕ → ℕ) → ℕ → List ℕ → ℕ → Type 0
IsChain next prev a [] z = (next a ≡ z) × (prev z ≡ a)
IsChain next prev a (x ∷ xs) z = (next a ≡ x) × (prev x ≡ a) × IsChain next prev x xs z

-- the next links lead from k on through the list
abbrev pub IsRun : (ℕ → ℕ) → ℕ → List ℕ → Type 0
IsRun next k [] = Unit {0}
IsRun next k (x ∷ xs) = (k ≡ x) × IsRun next (next x) xs

-- the next links after x was taken out of its list
abbrev pub next_without : (ℕ → ℕ) → (ℕ → ℕ) → ℕ → ℕ → ℕ
next_without next prev x = updated next (prev x) (next x)

-- the previous links after x was taken out of its list
abbrev pub prev_without : (ℕ → ℕ) → (ℕ → ℕ) → ℕ → ℕ → ℕ
prev_without next prev x = updated prev (next x) (prev x)

-- the next links after x was put right after a
abbrev pub next_with : (ℕ → ℕ) → ℕ → ℕ → ℕ → ℕ
next_with next a x = updated (updated next x (next a)) a x

-- the previous links after x was put right after a
abbrev pub prev_with : (ℕ → ℕ) → (ℕ → ℕ) → ℕ → ℕ → ℕ → ℕ
prev_with next prev a x = updated (updated prev x a) (next a) x
