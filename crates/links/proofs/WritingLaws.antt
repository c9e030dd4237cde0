-- What was written in parts was written.
use Rattle.std.proofs.Common.{◌≡◌, ℕ, ◌+◌, ◌-◌, ◌<◌, ◌≤◌, List, [], length, take, drop, Option, ap, sym, subst, ◌∙◌, append-nil, length-drop, take_all, arith}
use Rattle.links.specs.Writing.{Cuts}
use Rattle.std.proofs.KnownBytes.{Appends-nil, Appends-kept, Appends-trans}
use Rattle.std.proofs.Math.Seq.{take-add}
use Rattle.std.specs.Io.KnownBytes.{Appends, Keeps}

-- a write after what was written
pub text_grown : (old mid new : Option (List ℕ)) (written count : ℕ) (text : List ℕ) → Appends old mid (take written text) → Appends mid new (take count (drop written text)) → Appends old new (take (written + count) text)
text_grown old mid new written count text first then =
    subst (Appends old new) (sym (take-add written count text)) (Appends-trans old mid new (take written text) (take count (drop written text)) first then)

-- what is left of a text is all that stands after what was written
left_whole : (written : ℕ) (text : List ℕ) → take (length text - written) (drop written text) ≡ drop written text
left_whole written text = take_all (length text - written) (drop written text) (omega (arith, length-drop written text))

pub left_grown : (old mid new : Option (List ℕ)) (written count : ℕ) (text : List ℕ) → Appends old mid (take written text) → Appends mid new (take count (take (length text - written) (drop written text))) → Appends old new (take (written + count) text)
left_grown old mid new written count text first then =
    text_grown old mid new written count text first (subst (λ (left : List ℕ). Appends mid new (take count left)) (left_whole written text) then)

pub within_left : (written count : ℕ) (text : List ℕ) → count ≤ length (take (length text - written) (drop written text)) → count ≤ length text - written
within_left written count text fits = subst (λ (n : ℕ). count ≤ n) (ap length (left_whole written text) ∙ length-drop written text) fits

-- a write that put nothing out
pub nothing_written : (old new : Option (List ℕ)) → Keeps old new → Appends old new []
nothing_written old new kept = Appends-kept old old new [] (Appends-nil old) kept

-- a write that failed after what was written
pub text_cut : (old mid new : Option (List ℕ)) (written : ℕ) (text : List ℕ) → written < length text → Appends old mid (take written text) → Appends mid new [] → Cuts old new text
text_cut old mid new written text fewer first then = record {
  count = written;
  fewer = fewer;
  written = subst (Appends old new) (append-nil (take written text)) (Appends-trans old mid new (take written text) [] first then);
}

-- the whole of it
pub text_whole : (old new : Option (List ℕ)) (written : ℕ) (text : List ℕ) → written ≡ length text → Appends old new (take written text) → Appends old new text
text_whole old new written text all first = subst (Appends old new) (take_all written text (omega (arith, all))) first
