-- Lemmas on events that happen one after another, and on what they printed so far.
use Rattle.std.proofs.Common.{◌≡◌, ℕ, List, [], ◌∷◌, ◌++◌, Option, Result, Ok, Err, refl, subst, sym, append_assoc, append-nil}
use Rattle.std.specs.Prelude.{OnOk}
use Rattle.std.specs.Io.KnownBytes.{Appends, Keeps}
use Rattle.std.proofs.KnownBytes.{Appends-nil, Appends-trans, Appends-kept}
use Rattle.world.specs.State.{State}
use Rattle.world.specs.Step.{Step}
use Rattle.world.specs.declared.event.Event.{Event}
use Rattle.daemon.specs.declared.happened.Happened.{Happened}
use Rattle.script_lines.specs.Printed.{printed}
use Rattle.world_script.specs.Script.{Prints, RunsEvents}

-- some events happened, and what they printed is written
pub record IsPlayed (start : State) (events left : List Event) (before : Option (List ℕ)) (now : State) (after : Option (List ℕ)) : Type 0 where
  pub outcomes : List (List Happened)
  pub text : List ℕ
  pub written : Appends before after text
  pub goes_on : (more : List (List Happened)) (rest : List ℕ) (last : State) → Prints now left more rest last → Prints start events (outcomes ++ more) (text ++ rest) last

pub IsPlayed-none : (start : State) (events : List Event) (before : Option (List ℕ)) → IsPlayed start events events before start before
IsPlayed-none start events before = record {
  outcomes = [];
  text = [];
  written = Appends-nil before;
  goes_on = λ more rest last prints. prints;
}

-- one more event happened, and what it printed is written
pub IsPlayed-more : (start now between : State) (events left after : List Event) (event : Event) (outcome : List Happened) (a b c : Option (List ℕ)) → IsPlayed start events left a now b → left ≡ event ∷ after → Step now event outcome between → Appends b c (printed between event outcome) → IsPlayed start events after a between c
IsPlayed-more start now between events left after event outcome a b c played is step one = record {
  outcomes = played.outcomes ++ outcome ∷ [];
  text = played.text ++ printed between event outcome;
  written = Appends-trans a b c _ _ played.written one;
  goes_on = λ more rest last prints.
      let longer : Prints now left (outcome ∷ more) (printed between event outcome ++ rest) last = subst (λ (es : List Event). Prints now es (outcome ∷ more) (printed between event outcome ++ rest) last) (sym is) (between, rest, step, refl, prints) in
      subst (λ (outcomes : List (List Happened)). Prints start events outcomes ((played.text ++ printed between event outcome) ++ rest) last) (sym (append_assoc played.outcomes (outcome ∷ []) more))
      (subst (λ (text : List ℕ). Prints start events (played.outcomes ++ outcome ∷ more) text last) (sym (append_assoc played.text (printed between event outcome) rest)) (played.goes_on (outcome ∷ more) (printed between event outcome ++ rest) last longer));
}

-- all events happened, and what they printed is written
pub RunsEvents-of : (start now : State) (events left : List Event) (a b c : Option (List ℕ)) → IsPlayed start events left a now b → left ≡ [] → Keeps b c → RunsEvents start events a c
RunsEvents-of start now events left a b c played none kept = record {
  outcomes = played.outcomes;
  text = played.text;
  last = now;
  prints = subst (λ (outcomes : List (List Happened)). Prints start events outcomes played.text now) (append-nil played.outcomes)
      (subst (λ (text : List ℕ). Prints start events (played.outcomes ++ []) text now) (append-nil played.text) (played.goes_on [] [] now (subst (λ (es : List Event). Prints now es [] [] now) (sym none) (refl, refl))));
  written = Appends-kept a b c played.text played.written kept;
}

-- all events happened, if the last write was not refused
pub RunsEvents-on_ok : {E : Type 0} (r : Result (Unit {0}) E) (start now : State) (events left : List Event) (a b c : Option (List ℕ)) → IsPlayed start events left a now b → left ≡ [] → Keeps b c → OnOk r (RunsEvents start events a c)
RunsEvents-on_ok (Ok done) start now events left a b c played none kept = RunsEvents-of start now events left a b c played none kept
RunsEvents-on_ok (Err error) start now events left a b c played none kept = tt
