-- Lemmas on a script that was read and run.
use Rattle.std.proofs.Common.{◌≡◌, ℕ, ◌≤◌, List, [], ◌∷◌, length, Option, Ok, subst}
use Rattle.std.specs.Prelude.{IfSome}
use Rattle.std.specs.Io.KnownBytes.{Keeps}
use Rattle.std.proofs.KnownBytes.{Appends-kept}
use Rattle.manifest.specs.Manifest.{Manifest}
use Rattle.world.specs.State.{State, started}
use Rattle.world.specs.Step.{Steps}
use Rattle.world.specs.World.{first_world}
use Rattle.world.specs.Agreement.{Matches, all_moves, world_after}
use Rattle.daemon.specs.declared.happened.Happened.{Happened}
use Rattle.world.proofs.Listings.{listings-whole}
use Rattle.world.proofs.ReadAnswers.{run-reads}
use Rattle.world.proofs.WholeRun.{match-agrees, match-counts, match-names, match-current, steps-matched, posters-answered}
use Rattle.world.specs.declared.event.Event.{Event}
use Rattle.world_script.specs.declared.program_fault.ProgramFault.{ProgramFault}
use Rattle.world_script.specs.declared.program_fault.ProgramFault.TheVariants.{CannotWrite}
use Rattle.world_script.specs.Parts.{SaysEvents}
use Rattle.world_script.specs.Refusal.{IsRunRefusal}
use Rattle.world_script.specs.Script.{SaysManifest, IsGood, Prints, IsPromised, RunsEvents, Runs}
use Rattle.world_script.specs.Source.{OfRead}

-- events that printed happened
steps-of : (old : State) (events : List Event) (outcomes : List (List Happened)) (text : List ℕ) (new : State) → Prints old events outcomes text new → Steps old events outcomes new
steps-of old [] [] text new prints = prints.1
steps-of old (event ∷ events) (outcome ∷ outcomes) text new (between, rest, step, is, prints) = (between, step, steps-of between events outcomes rest new prints)
steps-of old [] (outcome ∷ outcomes) text new none = absurd none
steps-of old (event ∷ events) [] text new none = absurd none

-- a start that matches the first world keeps what is promised
promised : (manifest : Manifest) (limit : ℕ) (events : List Event) (outcomes : List (List Happened)) (last : State) → Matches (first_world manifest) (started manifest limit) → Steps (started manifest limit) events outcomes last → IsPromised manifest limit events outcomes last
promised manifest limit events outcomes last matches steps =
    let ran = steps-matched (first_world manifest) (started manifest limit) events outcomes last matches steps in
    record {
      run = ran.run;
      matches = ran.matches;
      events_are_a_run_of_moves = record { run = ran.run; agrees = match-agrees (world_after manifest events outcomes) last ran.matches.follows };
      counts_are_what_is_owed = match-counts (world_after manifest events outcomes) last ran.matches.follows;
      numbers_name_their_first_file = match-names (world_after manifest events outcomes) last ran.matches.follows;
      one_daemon_for_each_generation = ran.matches.follows.answered.one_daemon;
      handed_data_is_current = match-current (world_after manifest events outcomes) last ran.matches;
      replies_are_answered = λ way. posters-answered (first_world manifest) (started manifest limit) events outcomes last matches way;
      no_bad_forget = ran.forgets;
      listings_are_whole = listings-whole (first_world manifest) (all_moves (first_world manifest) events outcomes) ran.run;
      reads_are_of_their_files = run-reads (first_world manifest) (all_moves (first_world manifest) events outcomes) ran.run;
      refusals_may_come = ran.refusals;
    }

runs-good : (script : List ℕ) (good : IsGood script) (limit : ℕ) (before after : Option (List ℕ)) → Matches (first_world good.manifest) (started good.manifest limit) → RunsEvents (started good.manifest limit) good.events before after → Runs script limit before after
runs-good script good limit before after matches ran = record {
  good = good;
  runs = ran;
  promised = promised good.manifest limit good.events ran.outcomes ran.last matches (steps-of (started good.manifest limit) good.events ran.outcomes ran.text ran.last ran.prints);
}

-- a script that was read is good
good_as_said : (script text : List ℕ) (manifest : Manifest) (events : List Event) → length script ≤ 1048576 → text ≡ script → SaysManifest text (Ok manifest) → SaysEvents text events → IsGood script
good_as_said script text manifest events len same said says = record {
  manifest = manifest;
  events = events;
  says_manifest = subst (λ (s : List ℕ). SaysManifest s (Ok manifest)) same said;
  says_events = subst (λ (s : List ℕ). SaysEvents s events) same says;
  len = len;
}

-- a script that was read may be refused because its lines cannot be written
pub refused_late : (known : Option (List ℕ)) (script text : List ℕ) (manifest : Manifest) (events : List Event) (fault : ProgramFault) →
    IfSome known (λ all. script ≡ all) → length script ≤ 1048576 → text ≡ script → SaysManifest text (Ok manifest) → SaysEvents text events → fault ≡ CannotWrite → OfRead known (λ all. IsRunRefusal all fault)
refused_late known script text manifest events fault is len same said says late = record {
  script = script;
  is = is;
  holds = rw late (good_as_said script text manifest events len same said says);
}

-- a script whose events were run is run
pub runs_as_said : (script text : List ℕ) (manifest : Manifest) (events listed : List Event) (limit : ℕ) (start : State) (before after : Option (List ℕ)) →
    length script ≤ 1048576 → text ≡ script → listed ≡ events → SaysManifest text (Ok manifest) → SaysEvents text events → start ≡ started manifest limit → Matches (first_world manifest) start → RunsEvents start listed before after → Runs script limit before after
unfolding good_as_said
runs_as_said script text manifest events listed limit start before after len same all said says is matches ran =
    let good = good_as_said script text manifest events len same said says in
    runs-good script good limit before after (subst (λ (s : State). Matches (first_world manifest) s) is matches)
    (subst (λ (s : State). RunsEvents s events before after) is (subst (λ (es : List Event). RunsEvents start es before after) all ran))

-- a script that was read whole from a reader is run
pub runs_whole : (known : Option (List ℕ)) (script : List ℕ) (limit : ℕ) (before after : Option (List ℕ)) →
    IfSome known (λ all. script ≡ all) → Runs script limit before after → OfRead known (λ all. Runs all limit before after)
runs_whole known script limit before after is runs = record { script = script; is = is; holds = runs }

-- what was written stays written
pub Runs-kept : (script : List ℕ) (limit : ℕ) (before between after : Option (List ℕ)) → Runs script limit before between → Keeps between after → Runs script limit before after
Runs-kept script limit before between after runs kept = record {
  good = runs.good;
  runs = record {
    outcomes = runs.runs.outcomes;
    text = runs.runs.text;
    last = runs.runs.last;
    prints = runs.runs.prints;
    written = Appends-kept before between after runs.runs.text runs.runs.written kept;
  };
  promised = runs.promised;
}
