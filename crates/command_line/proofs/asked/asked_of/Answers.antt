-- What `clap` says of the words, for the program's command.
use Rattle.std.proofs.Common.{◌≡◌, List, [], Option, Result, Err, map, true, refl, ap, subst, sym, ◌∙◌, string_bytes}
use Rattle.std.specs.Prelude.{IfOk}
use Rattle.std.proofs.lemmas.Result.{err_from_is_err_and}
use Rattle.clap.specs.Words.{App, FailsBy, HasKind, Kinds, Row, Text, fault_of, is_simple, is_simple_and_free, subcommand_of, subcommand_rows_of}
use Rattle.clap.specs.Kinds.{or_else}
use Rattle.clap.specs.declared.error.Error.{Error}
use Rattle.command_line.specs.Asked.{IsAsked, IsScript}
use Rattle.command_line.specs.CommandLine.{command_of, edend_app, words_fault_in}
use Rattle.command_line.specs.declared.asked.Asked.{Asked}
use Rattle.command_line.proofs.AskedLemmas.{fails_first, only_memory, plain_asked}
use Rattle.command_line.proofs.PlainWords.{plainly}
use Rattle.command_line.proofs.asked.asked_of.Goals as goal

edend_is_simple : is_simple edend_app ≡ true
edend_is_simple = refl

edend_is_free : is_simple_and_free edend_app ≡ true
edend_is_free = refl

fails_in_err : (c : goal.After-from_residual-in_err-matches) → FailsBy (fault_of edend_app (map string_bytes c.args.words.now)) c.from_residual-in_err-matches.result
fails_in_err c =
    let texts : List Text = map string_bytes c.args.words.now in
    let app_is = c.in_ok-command.ensures in
    let fails = c.in_err-matches.ensures.kinds (ap is_simple_and_free app_is ∙ edend_is_free) in
    let gives = err_from_is_err_and c.from_residual-in_err-matches.result c.from_residual-in_err-matches.ensures.1 in
    subst (λ (r : Result Asked Error). FailsBy (fault_of edend_app texts) r) (sym (gives.1 ∙ ap (λ e. Err e) gives.2))
    (subst (λ (a : App). HasKind (fault_of a texts) c.in_err-matches.field-0.0) app_is fails)

pub returns-in_err-matches-clause-plain : goal.returns-in_err-matches-clause-plain
returns-in_err-matches-clause-plain c = λ script named.
    only_memory (IsScript script) c.from_residual-in_err-matches.result _ (plainly _ script named).1 c.from_residual-in_err-matches.ensures.0 (fails_in_err c)

pub returns-in_err-matches-clause-refused : goal.returns-in_err-matches-clause-refused
returns-in_err-matches-clause-refused c =
    fails_first c.from_residual-in_err-matches.result _ _ c.from_residual-in_err-matches.ensures.0 (fails_in_err c)

sub_is : (c : goal.Joined-matches) → subcommand_rows_of c.in_ok-matches.matches ≡ command_of (map string_bytes c.args.words.now)
sub_is c =
    let texts : List Text = map string_bytes c.args.words.now in
    let app_is = c.in_ok-command.ensures in
    (c.in_ok-matches.ensures.matches (ap is_simple app_is ∙ edend_is_simple)).1 ∙ ap (λ (a : App). subcommand_of a texts) app_is

asked_is : (c : goal.Joined-matches) → IfOk c.asked_in.result (IsAsked (command_of (map string_bytes c.args.words.now)))
asked_is c = subst (λ (sub : Option (Text × List Row)). IfOk c.asked_in.result (IsAsked sub)) (sub_is c) c.asked_in.ensures.asked

fails_as : (c : goal.Joined-matches) → FailsBy (words_fault_in (command_of (map string_bytes c.args.words.now))) c.asked_in.result
fails_as c = subst (λ (sub : Option (Text × List Row)). FailsBy (words_fault_in sub) c.asked_in.result) (sub_is c) c.asked_in.ensures.refused

pub returns-clause-asked : goal.returns-clause-asked
returns-clause-asked c = asked_is c

pub returns-clause-plain : goal.returns-clause-plain
returns-clause-plain c = λ script named.
    let read = plainly _ script named in plain_asked c.asked_in.result (command_of (map string_bytes c.args.words.now)) script read.0 read.2 (asked_is c) (fails_as c)

pub returns-clause-refused : goal.returns-clause-refused
returns-clause-refused c =
    let texts : List Text = map string_bytes c.args.words.now in
    let app_is = c.in_ok-command.ensures in
    let none : fault_of edend_app texts ≡ [] = ap (λ (a : App). fault_of a texts) (sym app_is) ∙ c.in_ok-matches.ensures.kinds (ap is_simple_and_free app_is ∙ edend_is_free) in
    subst (λ (kinds : Kinds). FailsBy (or_else kinds (words_fault_in (command_of texts))) c.asked_in.result) (sym none) (fails_as c)
