-- The theorem, from the steps of the whole list.
use Rattle.std.proofs.Common.{subst}
use Rattle.world.specs.Agreement.{Matches}
use Rattle.world.specs.State.{State, started}
use Rattle.world.specs.World.{first_world}
use Rattle.world.proofs.Listings.{listings-whole}
use Rattle.world.proofs.ReadAnswers.{run-reads}
use Rattle.world.proofs.WholeRun.{Ran, match-agrees, match-counts, match-names, match-current, steps-matched, posters-answered}
use Rattle.world.proofs.history.run.Goals as goal

whole : (c : goal.In_ok-outcomes) → Ran (first_world c.args.manifest.now) c.args.events.now c.in_ok-outcomes.outcomes.items c.outcomes_of.new.world
whole c = steps-matched (first_world c.args.manifest.now) c.in_ok-world.world c.args.events.now c.in_ok-outcomes.outcomes.items c.outcomes_of.new.world c.in_ok-world.ensures.matches c.in_ok-outcomes.ensures.steps

pub returns-clause-events_are_a_run_of_moves : goal.returns-clause-events_are_a_run_of_moves
returns-clause-events_are_a_run_of_moves c = record { run = (whole c).run; agrees = match-agrees _ _ (whole c).matches.follows }

pub returns-clause-listings_are_whole : goal.returns-clause-listings_are_whole
returns-clause-listings_are_whole c = listings-whole (first_world c.args.manifest.now) _ (whole c).run

pub returns-clause-reads_are_of_their_files : goal.returns-clause-reads_are_of_their_files
returns-clause-reads_are_of_their_files c = run-reads (first_world c.args.manifest.now) _ (whole c).run

pub returns-clause-matches : goal.returns-clause-matches
returns-clause-matches c = (whole c).matches

pub returns-clause-refusals_may_come : goal.returns-clause-refusals_may_come
returns-clause-refusals_may_come c = (whole c).refusals

pub returns-clause-counts_are_what_is_owed : goal.returns-clause-counts_are_what_is_owed
returns-clause-counts_are_what_is_owed c = match-counts _ _ (whole c).matches.follows

pub returns-clause-numbers_name_their_first_file : goal.returns-clause-numbers_name_their_first_file
returns-clause-numbers_name_their_first_file c = match-names _ _ (whole c).matches.follows

pub returns-clause-one_daemon_for_each_generation : goal.returns-clause-one_daemon_for_each_generation
returns-clause-one_daemon_for_each_generation c = (whole c).matches.follows.answered.one_daemon

pub returns-clause-handed_data_is_current : goal.returns-clause-handed_data_is_current
returns-clause-handed_data_is_current c = match-current _ _ (whole c).matches

pub returns-clause-replies_are_answered : goal.returns-clause-replies_are_answered
returns-clause-replies_are_answered c = λ steps.
    posters-answered (first_world c.args.manifest.now) (started c.args.manifest.now c.args.limit) _ _ _ (subst (λ (s : State). Matches (first_world c.args.manifest.now) s) c.in_ok-world.ensures.new c.in_ok-world.ensures.matches) steps

pub returns-clause-no_bad_forget : goal.returns-clause-no_bad_forget
returns-clause-no_bad_forget c = (whole c).forgets
