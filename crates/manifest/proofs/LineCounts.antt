-- How many lines stand in a directory.
use Rattle.std.proofs.Common.{◌≡◌, ℕ, ◌+◌, ◌≤◌, ◌==◌, true, false, suc, if◌then◌else◌, List, [], ◌∷◌, ◌++◌, length, refl, arith}
use Rattle.std.proofs.lemmas.Bool.Decides.{nat_tests}
use Rattle.manifest.specs.Manifest.{Line, kids_in}

pub kids-le-length : (dir : ℕ) (ls : List Line) → kids_in dir ls ≤ length ls
kids-le-length dir [] = omega arith
kids-le-length dir (l ∷ ls) =
    let rest = kids-le-length dir ls in
    elim (l.dir.0 == dir) as (λ b. (if b then 1 else 0) + kids_in dir ls ≤ suc (length ls)) [ true ↦ omega (arith, rest) | false ↦ omega (arith, rest) ]

-- one more line
pub kids_in-push : (dir : ℕ) (ls : List Line) (l : Line) → kids_in dir (ls ++ l ∷ []) ≡ (if dir == l.dir.0 then kids_in dir ls + 1 else kids_in dir ls)
kids_in-push dir [] l =
    elim (dir == l.dir.0) as (λ b. (dir == l.dir.0) ≡ b → (if l.dir.0 == dir then 1 else 0) + 0 ≡ (if b then 0 + 1 else 0)) [
      | true ↦ λ e. let same : (l.dir.0 == dir) ≡ true = grind (arith, nat_tests) in rw same refl
      | false ↦ λ e. let other : (l.dir.0 == dir) ≡ false = grind (arith, nat_tests) in rw other refl
    ] refl
kids_in-push dir (x ∷ xs) l =
    let rest = kids_in-push dir xs l in
    rw rest (elim (dir == l.dir.0) as (λ b. (if x.dir.0 == dir then 1 else 0) + (if b then kids_in dir xs + 1 else kids_in dir xs) ≡ (if b then (if x.dir.0 == dir then 1 else 0) + kids_in dir xs + 1 else (if x.dir.0 == dir then 1 else 0) + kids_in dir xs)) [ true ↦ omega arith | false ↦ refl ])
