-- A chain of entries, of any length, of which a map can be made.
use Rattle.std.specs.Prelude.{◌≡◌, ℕ, ◌+◌, List, [], ◌∷◌, ⊤}
use Rattle.eden_base.specs.declared.number.Number.{Number}
use Rattle.eden_base.specs.declared.place.Place.{Place}
use Rattle.eden_base.specs.declared.place.Place.TheVariants.{Linked}
use Rattle.entry_table.specs.declared.kept.Kept.{Kept}

-- the place is a name in the directory whose number is `n` - 1
abbrev pub IsBelow : ℕ → Place → Type 0
IsBelow n place = (dir : Number) × (name : List ℕ) × (place ≡ Linked dir name) × (dir.0 + 1 ≡ n)

-- the entries have the numbers from `n` on, each in the directory of the number before it, and each is counted once
abbrev pub IsChain : ℕ → List Kept → Type 0
IsChain n [] = ⊤
IsChain n (kept ∷ entries) = (kept.number.0 ≡ n) × (kept.count ≡ 1) × IsBelow n kept.place × IsChain (n + 1) entries
