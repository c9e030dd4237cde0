-- What is wrong with the words of a daemon is what is wrong with those of the command.
use Rattle.std.proofs.Common.{rules, refl, ◌∙◌, ◌≡◌, List, sym, subst}
use Rattle.clap.specs.Words.{FailsBy, Kinds}
use Rattle.command_line.proofs.CommandLemmas.{option_map_twice, words_fault-daemon}
use Rattle.command_line.proofs.asked.asked_in.Goals as goal

pub returns-in_err-daemon_in-in-None-Some-default-clause-refused :
    goal.returns-in_err-daemon_in-in-None-Some-default-clause-refused
returns-in_err-daemon_in-in-None-Some-default-clause-refused c =
    let here = c.in-None-Some-default.ensures' in
    let same = words_fault-daemon _ _ (option_map_twice _ _ _ ∙ (here.found).0 refl) here.rows in
    subst (λ (kinds : Kinds). FailsBy kinds c.from_residual.result) (sym same) (search rules)

pub returns-in_ok-daemon_in-in-None-Some-default-clause-refused :
    goal.returns-in_ok-daemon_in-in-None-Some-default-clause-refused
returns-in_ok-daemon_in-in-None-Some-default-clause-refused c =
    let here = c.in-None-Some-default.ensures' in
    let same = words_fault-daemon _ _ (option_map_twice _ _ _ ∙ (here.found).0 refl) here.rows in
    same ∙ c.in_ok-daemon_in-in-None-Some-default.ensures.refused
