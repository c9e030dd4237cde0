-- Lemmas on commands that were noted, and are run over sockets.
use Rattle.std.proofs.Common.{◌≡◌, ◌⊎◌, ℕ, Bool, true, false, List, Option, Some, None, Result, Ok, Err, refl, ap, subst, sym, ◌∙◌, inl, inr}
use Rattle.std.specs.Io.KnownBytes.{Keeps}
use Rattle.std.specs.declared.io.Error.{Error as IoError}
use Rattle.command_line.specs.Asked.{IsServer}
use Rattle.command_line.specs.declared.server_command.ServerCommand.{ServerCommand}
use Rattle.world_script.specs.Process.{EndsWith, RunsIn}
use Rattle.world_script.specs.ProgramEnd.{EndsAfter, EndsBy, Had, RunsCommand, Tells, asks_server, command_had, known_of, plain}
use Rattle.world_script.specs.declared.failure.Failure.{Failure}
use Rattle.world_script.specs.declared.program_fault.ProgramFault.TheVariants.{NoMemory}
use Rattle.world_script.specs.declared.program_end.ProgramEnd.{ProgramEnd}
use Rattle.world_script.proofs.ProcessLemmas.{ends_with, ends_with-map}
use Rattle.edend.proofs.NotedCommands.{runs_to-noted}
use Rattle.edend.proofs.FailedCommands.{fails-no_memory}
use Rattle.edend.specs.Commands.{Fails, RunsOver, RunsTo, over_sockets}
use Rattle.edend.specs.Note.{IsNoted, Notes}
use Rattle.edend.specs.declared.note.Note.{Note}
use Rattle.edend.specs.declared.note.Noted.{Noted}

-- a command was run, and the process ended after it
pub runs_over : (e : ServerCommand) (input : Option (List ℕ)) (file : List ℕ → Option (List ℕ)) (ran : Result (Unit {0}) Failure) (output begun ended output_after errors opened errors_after : Option (List ℕ)) (status : ℕ) (said : Result (Unit {0}) IoError) →
    RunsTo input file e ran begun ended → Keeps output begun → Keeps errors opened →
    EndsWith (EndsAfter ran ended output_after) opened errors_after status said → RunsOver input file e output output_after errors errors_after status said
runs_over e input file ran output begun ended output_after errors opened errors_after status said runs first kept ends =
    ends_with {W = Option (List ℕ)} (λ w. w) (λ w ending. RunsCommand e (over_sockets input file) output output_after ending ⊎ Tells (plain NoMemory) output output_after ending)
    None None ends.ending errors opened errors_after status said
    (inl (record { result = ran; begun = begun; ended = ended; first = first; ran = runs; ends = ends.is }))
    refl kept ends.status_is ends.says

-- two commands that were noted so are run alike
command-noted : (noted : Noted) (a b : ServerCommand) (input : Option (List ℕ)) (file : List ℕ → Option (List ℕ)) (output output_after : Option (List ℕ)) (ending : ProgramEnd) →
    IsNoted noted a → IsNoted noted b → RunsCommand a (over_sockets input file) output output_after ending → RunsCommand b (over_sockets input file) output output_after ending
command-noted noted a b input file output output_after ending of_a of_b runs = record {
  result = runs.result;
  begun = runs.begun;
  ended = runs.ended;
  first = runs.first;
  ran = runs_to-noted noted a b input file runs.result runs.begun runs.ended of_a of_b runs.ran;
  ends = runs.ends;
}

pub runs_over-noted : (noted : Noted) (a b : ServerCommand) (input : Option (List ℕ)) (file : List ℕ → Option (List ℕ)) (output output_after errors errors_after : Option (List ℕ)) (status : ℕ) (said : Result (Unit {0}) IoError) →
    IsNoted noted a → IsNoted noted b → RunsOver input file a output output_after errors errors_after status said → RunsOver input file b output output_after errors errors_after status said
runs_over-noted noted a b input file output output_after errors errors_after status said of_a of_b over =
    ends_with-map (λ ending either. elim either [
      | inl runs ↦ inl (command-noted noted a b input file output output_after ending of_a of_b runs)
      | inr told ↦ inr told
    ]) over

notes-less : (input : Option (List ℕ)) (file : List ℕ → Option (List ℕ)) (old new : Note) (e : ServerCommand) (ran : Result (Unit {0}) Failure) (before after : Option (List ℕ)) →
    new.command ≡ None → Notes old new e ran before after → RunsTo input file e ran before after
notes-less input file old new e (Ok done) before after none (noted, kept) =
    let bad : Some noted.0 ≡ None = sym noted.1 ∙ none in cc
notes-less input file old new e (Err failure) before after none (is, same, kept) =
    subst (λ (f : Failure). Fails input file e f before after) (sym is) (fails-no_memory input file e before after kept)

runs_command-less : (input : Option (List ℕ)) (file : List ℕ → Option (List ℕ)) (old new : Note) (e : ServerCommand) (before after : Option (List ℕ)) (ending : ProgramEnd) →
    new.command ≡ None → RunsCommand e (known_of Notes old new) before after ending → RunsCommand e (over_sockets input file) before after ending
runs_command-less input file old new e before after ending none runs = record {
  result = runs.result;
  begun = runs.begun;
  ended = runs.ended;
  first = runs.first;
  ran = notes-less input file old new e runs.result runs.begun runs.ended none runs.ran;
  ends = runs.ends;
}

ends_by-less : (old new : Note) (had : Had) (input : Option (List ℕ)) (file : List ℕ → Option (List ℕ)) (before after : Option (List ℕ)) (ending : ProgramEnd) →
    new.command ≡ None → EndsBy had input file (known_of Notes old new) before after ending → EndsBy had input file (over_sockets input file) before after ending
ends_by-less old new had input file before after ending none ends = record {
  script = ends.script;
  idle = λ none. tt;
  server = λ asks. elim (ends.server asks) [
    | inl named ↦ inl (record { server = named.server; named = named.named; runs = runs_command-less input file old new named.server before after ending none named.runs })
    | inr told ↦ inr (told.0, tt)
  ];
}

-- nothing was noted: what is known of notes is known of commands over sockets
pub runs_in-less : (old new : Note) (words : Option (List (List ℕ))) (input : Option (List ℕ)) (file : List ℕ → Option (List ℕ)) (output output_after errors errors_after : Option (List ℕ)) (status : ℕ) (said : Result (Unit {0}) IoError) →
    new.command ≡ None → RunsIn words input file (known_of Notes old new) output output_after errors errors_after status said →
    RunsIn words input file (over_sockets input file) output output_after errors errors_after status said
runs_in-less old new words input file output output_after errors errors_after status said none runs = record {
  had = runs.had;
  are = runs.are;
  ends = ends_with-map (λ ending by. ends_by-less old new runs.had input file output output_after ending none by) runs.ends;
}

-- what was noted was named
is_named : (old new : Note) (noted : Noted) (e : ServerCommand) (ran : Result (Unit {0}) Failure) (before after : Option (List ℕ)) →
    old.command ≡ None → new.command ≡ Some noted → Notes old new e ran before after → IsNoted noted e
is_named old new noted e (Ok done) before after none some (notes, kept) =
    let same : Some notes.0 ≡ Some noted = sym notes.1 ∙ some in
    let is : notes.0 ≡ noted = cc in
    subst (λ (n : Noted). IsNoted n e) is notes.2
is_named old new noted e (Err failure) before after none some (is, same, kept) =
    let bad : Some noted ≡ None = sym some ∙ (ap (λ (n : Note). n.command) same ∙ none) in cc

is_busy : (old new : Note) (noted : Noted) → old.command ≡ None → new.command ≡ Some noted → new ≡ old → ⊥
is_busy old new noted none some same =
    let bad : Some noted ≡ None = sym some ∙ (ap (λ (n : Note). n.command) same ∙ none) in cc

noted_by : (had : Had) (input : Option (List ℕ)) (file : List ℕ → Option (List ℕ)) (old new : Note) (noted : Noted) (before after : Option (List ℕ)) (ending : ProgramEnd) (asks : Bool) →
    asks_server had ≡ asks → old.command ≡ None → new.command ≡ Some noted → EndsBy had input file (known_of Notes old new) before after ending →
    (asks_server had ≡ true) × (e : ServerCommand) × IsServer (command_had had) e × IsNoted noted e
noted_by had input file old new noted before after ending false is none some ends = absurd (is_busy old new noted none some (ends.idle is))
noted_by had input file old new noted before after ending true is none some ends = elim (ends.server is) [
  | inl named ↦ (is, named.server, named.named, is_named old new noted named.server named.runs.result named.runs.begun named.runs.ended none some named.runs.ran)
  | inr told ↦ absurd (is_busy old new noted none some told.1)
]

ends_by-over : (had : Had) (input : Option (List ℕ)) (file : List ℕ → Option (List ℕ)) (before after : Option (List ℕ)) (ending : ProgramEnd) (e : ServerCommand) →
    asks_server had ≡ true → IsServer (command_had had) e → RunsCommand e (over_sockets input file) before after ending ⊎ Tells (plain NoMemory) before after ending →
    EndsBy had input file (over_sockets input file) before after ending
ends_by-over had input file before after ending e asked named either = record {
  script = λ none. let bad : true ≡ false = sym asked ∙ none in cc;
  idle = λ none. tt;
  server = λ asks. elim either [
    | inl runs ↦ inl (record { server = e; named = named; runs = runs })
    | inr told ↦ inr (told, tt)
  ];
}

-- what was noted is run: that is the command that the words name
pub runs_in-noted : (old new : Note) (noted : Noted) (words : Option (List (List ℕ))) (input : Option (List ℕ)) (file : List ℕ → Option (List ℕ))
    (output first_output errors first_errors : Option (List ℕ)) (first_status : ℕ) (first_said : Result (Unit {0}) IoError)
    (output_after errors_after : Option (List ℕ)) (status : ℕ) (said : Result (Unit {0}) IoError) →
    RunsIn words input file (known_of Notes old new) output first_output errors first_errors first_status first_said →
    old.command ≡ None → new.command ≡ Some noted →
    ((e : ServerCommand) → IsNoted noted e → RunsOver input file e output output_after errors errors_after status said) →
    RunsIn words input file (over_sockets input file) output output_after errors errors_after status said
runs_in-noted old new noted words input file output first_output errors first_errors first_status first_said output_after errors_after status said runs none some over =
    let by = noted_by runs.had input file old new noted output first_output runs.ends.ending (asks_server runs.had) refl none some runs.ends.is in
    record {
      had = runs.had;
      are = runs.are;
      ends = ends_with-map (λ ending either. ends_by-over runs.had input file output output_after ending by.1 by.0 by.2 either) (over by.1 by.3);
    }
