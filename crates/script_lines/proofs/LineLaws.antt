-- The first line of a text, and the others.
use Rattle.std.proofs.Common.{◌≡◌, ℕ, ◌+◌, ◌<◌, Bool, true, false, cond, not, List, [], ◌∷◌, length, take, drop, refl, ap, sym, ◌∙◌, arith}
use Rattle.std.specs.List.{onto_first, before_first, after_first, position_or_len}
use Rattle.std.proofs.lemmas.Grind.{common_steps}
use Rattle.script_lines.specs.Lines.{is_lf, lines_of}

take_one_more : (byte m : ℕ) (rest : List ℕ) → take (1 + m) (byte ∷ rest) ≡ byte ∷ take m rest
take_one_more byte m rest = grind (arith, common_steps)

drop_one_more : (byte m : ℕ) (rest : List ℕ) → drop (1 + m + 1) (byte ∷ rest) ≡ drop (m + 1) rest
drop_one_more byte m rest = grind (arith, common_steps)

lines_of_one : (byte : ℕ) (b : Bool) → cond b ([] ∷ []) ((byte ∷ []) ∷ []) ≡ take (cond (not b) (1 + 0) 0) (byte ∷ []) ∷ lines_of (drop (cond (not b) (1 + 0) 0 + 1) (byte ∷ []))
lines_of_one byte true = refl
lines_of_one byte false = refl

lines_of_more : (byte m : ℕ) (rest : List ℕ) (b : Bool) → lines_of rest ≡ take m rest ∷ lines_of (drop (m + 1) rest) → cond b ([] ∷ lines_of rest) (onto_first byte (lines_of rest)) ≡ take (cond (not b) (1 + m) 0) (byte ∷ rest) ∷ lines_of (drop (cond (not b) (1 + m) 0 + 1) (byte ∷ rest))
lines_of_more byte m rest true e = refl
lines_of_more byte m rest false e = rw (take_one_more, drop_one_more) (ap (onto_first byte) e)

-- a text that is not empty is its first line and the lines of the rest
pub lines_of-first : (text : List ℕ) → 0 < length text → lines_of text ≡ before_first is_lf text ∷ lines_of (after_first is_lf text)
lines_of-first [] h = absurd (omega arith)
lines_of-first (byte ∷ []) h = lines_of_one byte (is_lf byte)
lines_of-first (byte ∷ next ∷ more) h =
    lines_of_more byte (position_or_len is_lf (next ∷ more)) (next ∷ more) (is_lf byte) (lines_of-first (next ∷ more) (omega arith))

-- the lines of a text, if its first line and the rest are known
pub lines_of_parts : (text line after : List ℕ) → 0 < length text → line ≡ before_first is_lf text → after ≡ after_first is_lf text → lines_of text ≡ line ∷ lines_of after
lines_of_parts text line after some first others =
    lines_of-first text some ∙ ap (λ (l : List ℕ). l ∷ lines_of (after_first is_lf text)) (sym first) ∙ ap (λ (t : List ℕ). line ∷ lines_of t) (sym others)
