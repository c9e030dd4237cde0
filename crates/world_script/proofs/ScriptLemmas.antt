-- Lemmas on the parts of a script, and on the events of its lines.
use Rattle.std.proofs.Common.{◌≡◌, ℕ, ◌+◌, ◌-◌, ◌<◌, ◌≤◌, Bool, true, false, cond, nat_lt, suc, List, [], ◌∷◌, ◌++◌, length, map, take, drop, Option, Some, None, is_none, zero, length-drop, refl, ap, subst, sym, ◌∙◌, append_assoc, arith}
use Rattle.std.specs.List.{before_first, after_first, position_or_len, position}
use Rattle.std.proofs.Math.Seq.{drop-nil}
use Rattle.std.proofs.lemmas.List.{length-take-le, map-append, drop-drop}
use Rattle.std.proofs.lemmas.Bool.Decides.{nat_tests}
use Rattle.world.specs.declared.event.Event.{Event}
use Rattle.script_lines.specs.EventLine.{event_of}
use Rattle.script_lines.specs.Lines.{is_lf, lines_of}
use Rattle.script_lines.proofs.LineLaws.{lines_of_parts}
use Rattle.world_script.specs.Parts.{lines_behind, is_marker, first_bad, IsSplit}

-- what is left of a list is its end
pub drop-end : (xs : List ℕ) (n : ℕ) → drop n xs ≡ drop (length xs - length (drop n xs)) xs
drop-end [] n = drop-nil n ∙ sym (drop-nil _)
drop-end (x ∷ xs) zero = let e : length (x ∷ xs) - length (x ∷ xs) ≡ 0 = omega arith in ap (λ (k : ℕ). drop k (x ∷ xs)) (sym e)
drop-end (x ∷ xs) (suc n) =
    let e : length (x ∷ xs) - length (drop n xs) ≡ suc (length xs - length (drop n xs)) = omega (arith, length-drop n xs) in
    drop-end xs n ∙ ap (λ (k : ℕ). drop k (x ∷ xs)) (sym e)

-- the rest is an end of the script, before which no line is a marker
pub record IsRest (script rest : List ℕ) (number : ℕ) : Type 0 where
  pub within : length rest ≤ length script
  pub is_end : rest ≡ drop (length script - length rest) script
  pub behind : lines_behind (lines_of rest) ≡ lines_behind (lines_of script)
  pub number_is : number + length (lines_of rest) ≡ length (lines_of script) + 1
  pub room : number + length rest ≤ length script + 1

lines_behind-marker : (line : List ℕ) (lines : List (List ℕ)) → is_marker line ≡ true → lines_behind (line ∷ lines) ≡ Some lines
lines_behind-marker line lines e = ap (λ (b : Bool). cond b (Some lines) (lines_behind lines)) e

lines_behind-other : (line : List ℕ) (lines : List (List ℕ)) → is_marker line ≡ false → lines_behind (line ∷ lines) ≡ lines_behind lines
lines_behind-other line lines e = ap (λ (b : Bool). cond b (Some lines) (lines_behind lines)) e

-- the first line of a rest is the line that ends the manifest
pub IsSplit-at : (script rest line after : List ℕ) (number : ℕ) → IsRest script rest number → 0 < length rest → line ≡ before_first is_lf rest → after ≡ after_first is_lf rest → is_marker line ≡ true → IsSplit script (take (length script - length rest) script) after (number + 1)
IsSplit-at script rest line after number is some first others marker =
    let n : ℕ = length script - length rest in
    let len : length (take n script) ≡ n = length-take-le n script (omega arith) in
    let whole : drop (length (take n script)) script ≡ rest = ap (λ (k : ℕ). drop k script) len ∙ sym is.is_end in
    let lines : lines_of rest ≡ line ∷ lines_of after = lines_of_parts rest line after some first others in
    let lens : length (lines_of rest) ≡ suc (length (lines_of after)) = ap length lines in
    record {
      manifest_is = ap (λ (k : ℕ). take k script) (sym len);
      marker_is = subst (λ (t : List ℕ). is_marker (before_first is_lf t) ≡ true) (sym whole) (subst (λ (l : List ℕ). is_marker l ≡ true) first marker);
      events_are = others ∙ ap (after_first is_lf) (sym whole);
      behind = sym is.behind ∙ ap lines_behind lines ∙ lines_behind-marker line (lines_of after) marker;
      first_is = omega (arith, is.number_is, lens);
    }

-- the first line of a rest is one more of the manifest
pub IsRest-more : (script rest line after : List ℕ) (number : ℕ) → IsRest script rest number → 0 < length rest → line ≡ before_first is_lf rest → after ≡ after_first is_lf rest → length after < length rest → is_marker line ≡ false → IsRest script after (number + 1)
IsRest-more script rest line after number is some first others shorter marker =
    let m : ℕ = length script - length rest in
    let k : ℕ = position_or_len is_lf rest + 1 in
    let lines : lines_of rest ≡ line ∷ lines_of after = lines_of_parts rest line after some first others in
    let lens : length (lines_of rest) ≡ suc (length (lines_of after)) = ap length lines in
    let left : after ≡ drop (m + k) script = others ∙ ap (drop k) is.is_end ∙ drop-drop k m script in
    record {
      within = omega (arith, is.within, shorter);
      is_end = subst (λ (t : List ℕ). t ≡ drop (length script - length t) script) (sym left) (drop-end script (m + k));
      behind = sym (ap lines_behind lines ∙ lines_behind-other line (lines_of after) marker) ∙ is.behind;
      number_is = omega (arith, is.number_is, lens);
      room = omega (arith, is.room, shorter);
    }

-- one more line says one more event
events_more_by : (says : List ℕ → Option Event) (events : List Event) (event : Event) (rest line after : List ℕ) (all : List (Option Event)) → map Some events ++ map says (lines_of rest) ≡ all → lines_of rest ≡ line ∷ lines_of after → says line ≡ Some event → map Some (events ++ event ∷ []) ++ map says (lines_of after) ≡ all
events_more_by says events event rest line after all e lines is =
    let cut : map Some events ++ (says line ∷ map says (lines_of after)) ≡ all = sym (ap (λ (ls : List (List ℕ)). map Some events ++ map says ls) lines) ∙ e in
    let put : map Some events ++ (Some event ∷ map says (lines_of after)) ≡ all = subst (λ (o : Option Event). map Some events ++ (o ∷ map says (lines_of after)) ≡ all) is cut in
    let front : map Some (events ++ event ∷ []) ≡ map Some events ++ Some event ∷ [] = map-append Some events (event ∷ []) in
    ap (λ (xs : List (Option Event)). xs ++ map says (lines_of after)) front ∙ append_assoc (map Some events) (Some event ∷ []) (map says (lines_of after)) ∙ put

pub events_more : (events : List Event) (event : Event) (rest line after : List ℕ) (all : List (Option Event)) → map Some events ++ map event_of (lines_of rest) ≡ all → 0 < length rest → line ≡ before_first is_lf rest → after ≡ after_first is_lf rest → event_of line ≡ Some event → map Some (events ++ event ∷ []) ++ map event_of (lines_of after) ≡ all
events_more events event rest line after all e some first others is =
    events_more_by event_of events event rest line after all e (lines_of_parts rest line after some first others) is

position_or_len-some : (events : List Event) (more : List (Option Event)) → position_or_len is_none (map Some events ++ None ∷ more) ≡ length events
position_or_len-some [] more = refl
position_or_len-some (event ∷ events) more = omega (arith, position_or_len-some events more)

length-some : (events : List Event) (more : List (Option Event)) → length events < length (map Some events ++ None ∷ more)
length-some [] more = omega arith
length-some (event ∷ events) more = omega (arith, length-some events more)

position_within : (n len : ℕ) → n < len → cond (nat_lt n len) (Some n) None ≡ Some n
position_within n len h = grind (arith, nat_tests)

-- the first that is none stands behind all that are some
position-some : (events : List Event) (more : List (Option Event)) → position is_none (map Some events ++ None ∷ more) ≡ Some (length events)
position-some events more =
    let all : List (Option Event) = map Some events ++ None ∷ more in
    let at : position_or_len is_none all ≡ length events = position_or_len-some events more in
    let fits : position_or_len is_none all < length all = omega (arith, at, length-some events more) in
    position_within (position_or_len is_none all) (length all) fits ∙ ap Some at

first_bad_by : (says : List ℕ → Option Event) (events : List Event) (rest line after : List ℕ) (all : List (Option Event)) → map Some events ++ map says (lines_of rest) ≡ all → lines_of rest ≡ line ∷ lines_of after → says line ≡ None → position is_none all ≡ Some (length events)
first_bad_by says events rest line after all e lines is =
    let cut : map Some events ++ (says line ∷ map says (lines_of after)) ≡ all = sym (ap (λ (ls : List (List ℕ)). map Some events ++ map says ls) lines) ∙ e in
    let put : map Some events ++ (None ∷ map says (lines_of after)) ≡ all = subst (λ (o : Option Event). map Some events ++ (o ∷ map says (lines_of after)) ≡ all) is cut in
    ap (position is_none) (sym put) ∙ position-some events (map says (lines_of after))

-- the next line is the first that says no event
pub first_bad_is : (events : List Event) (rest line after text : List ℕ) → map Some events ++ map event_of (lines_of rest) ≡ map event_of (lines_of text) → 0 < length rest → line ≡ before_first is_lf rest → after ≡ after_first is_lf rest → event_of line ≡ None → first_bad (lines_of text) ≡ Some (length events)
first_bad_is events rest line after text e some first others is =
    first_bad_by event_of events rest line after (map event_of (lines_of text)) e (lines_of_parts rest line after some first others) is
