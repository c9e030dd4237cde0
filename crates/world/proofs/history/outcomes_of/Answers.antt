use Rattle.std.proofs.Common.{List, ◌≡◌, ◌+◌, ◌<◌, ◌++◌, length, take, subst, sym, ap, ◌∙◌, arith, []}
use Rattle.std.specs.Prelude.{◌∷◌}
use Rattle.std.proofs.lemmas.List.{take_more}
use Rattle.world.specs.declared.event.Event.{Event}
use Rattle.daemon.specs.declared.happened.Happened.{Happened}
use Rattle.world.specs.State.{State}
use Rattle.world.specs.Step.{Steps}
use Rattle.world.proofs.StepLemmas.{Steps-more}
use Rattle.world.proofs.history.outcomes_of.Goals as goal

pub loop-event-preserved : goal.loop-event-preserved
loop-event-preserved c =
    let events = c.args.events.now in
    let i = c.loop-event.event-index in
    let event = c.event-item.result in
    let within : i < length events = c.loop-event-test.true in
    let first : State = c.args.world.now in
    let outcome = c.step-outcome.result in
    let outcomes = c.loop-event.outcomes.items in
    let world = c.step-outcome.new.self in
    let taken : take i events ++ event ∷ [] ≡ take (i + 1) events = ap (λ (e : Event). take i events ++ e ∷ []) c.event-item.is ∙ sym (take_more events i event within) in
    let pushed : outcomes ++ outcome ∷ [] ≡ c.push_reserved.new.self.items = sym c.push_reserved.ensures.items in
    record {
      steps = subst (λ (es : List Event). Steps first es c.push_reserved.new.self.items world) taken
          (subst (λ (os : List (List Happened)). Steps first (take i events ++ event ∷ []) os world) pushed
          (Steps-more first (take i events) outcomes c.loop-event.world event outcome world c.loop-event.invariant.steps c.step-outcome.ensures.step));
      len = omega arith;
      room = omega arith;
    }
