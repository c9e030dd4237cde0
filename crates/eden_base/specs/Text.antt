-- A text split at a byte.
use Rattle.std.specs.Prelude.{ℕ, ◌+◌, ◌==◌, List, take, drop, position, Option}
use Rattle.std.specs.Option.{option_map}

-- what is before and what is after the first such byte, if there is one
abbrev pub cut : ℕ → List ℕ → Option (List ℕ × List ℕ)
cut byte bytes = option_map (λ (i : ℕ). (take i bytes, drop (i + 1) bytes)) (position (λ b. b == byte) bytes)
