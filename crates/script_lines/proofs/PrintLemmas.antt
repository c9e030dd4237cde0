-- Lemmas on the lines of the numbers that a daemon keeps: what was written so far.
use Rattle.std.proofs.Common.{◌≡◌, ℕ, List, [], ◌∷◌, Option, Result, Ok, Err, subst, sym}
use Rattle.std.specs.Prelude.{OnOk, codes}
use Rattle.std.specs.Fmt.{decimal}
use Rattle.std.specs.Io.KnownBytes.{Appends}
use Rattle.std.proofs.KnownBytes.{Appends-nil, Appends-trans}
use Rattle.eden_base.specs.declared.number.DaemonId.{DaemonId}
use Rattle.eden_base.specs.declared.number.Number.{Number}
use Rattle.eden_base.specs.declared.place.Place.{Place}
use Rattle.world.specs.State.{State}
use Rattle.entry_table.specs.declared.kept.Kept.{Kept}
use Rattle.script_lines.specs.Printed.{spaced, count_words, place_line, kept_line, kept_lines}

-- a number's line is written if its three parts are
pub kept_line_written : {E : Type 0} (r : Result (Unit {0}) E) (state : State) (daemon : DaemonId) (kept : Kept) (number : Number) (place : Place) (count : ℕ) (a b c d : Option (List ℕ)) →
    kept ≡ record { number = number; place = place; count = count } → Appends a b (spaced (codes "number" ∷ decimal number.0 ∷ [])) →
    Appends b c (spaced (count_words state daemon number.0 count)) → OnOk r (Appends c d (place_line place)) → OnOk r (Appends a d (kept_line state daemon kept))
kept_line_written (Ok done) state daemon kept number place count a b c d is first second third =
    subst (λ (kept : Kept). Appends a d (kept_line state daemon kept)) (sym is) (Appends-trans a c d _ _ (Appends-trans a b c _ _ first second) third)
kept_line_written (Err error) state daemon kept number place count a b c d is first second third = tt

-- the lines of entries are those of the same entries
pub kept_lines_same : (state : State) (daemon : DaemonId) (rest same : List Kept) (a b : Option (List ℕ)) → rest ≡ same → Appends a b (kept_lines state daemon rest) → Appends a b (kept_lines state daemon same)
kept_lines_same state daemon rest same a b is written = subst (λ (entries : List Kept). Appends a b (kept_lines state daemon entries)) is written

-- without entries there are no lines
pub kept_lines_none : (state : State) (daemon : DaemonId) (rest : List Kept) (a : Option (List ℕ)) → rest ≡ [] → Appends a a (kept_lines state daemon rest)
kept_lines_none state daemon rest a none = subst (λ (entries : List Kept). Appends a a (kept_lines state daemon entries)) (sym none) (Appends-nil a)

-- one more line, and the lines that follow it
pub kept_lines_more : (state : State) (daemon : DaemonId) (kept : Kept) (rest after : List Kept) (a b c : Option (List ℕ)) → rest ≡ kept ∷ after → Appends a b (kept_line state daemon kept) → Appends b c (kept_lines state daemon after) → Appends a c (kept_lines state daemon rest)
kept_lines_more state daemon kept rest after a b c is one more =
    subst (λ (entries : List Kept). Appends a c (kept_lines state daemon entries)) (sym is) (Appends-trans a b c _ _ one more)
