use Rattle.std.proofs.Common.{◌+◌, ◌∷◌, drop, ap, sym, ◌∙◌, arith}
use Rattle.std.proofs.Math.ListN.{drop_of_length-le}
use Rattle.std.proofs.lemmas.List.{drop_more}
use Rattle.world.specs.declared.event.Event.{Event}
use Rattle.world_script.proofs.PlayLemmas.{IsPlayed-none, IsPlayed-more, RunsEvents-on_ok}
use Rattle.world_script.proofs.run.play.Goals as goal

pub loop-event-init : goal.loop-event-init
loop-event-init g c = IsPlayed-none _ _ _

pub loop-event-preserved : goal.loop-event-preserved
loop-event-preserved g c =
    let i = c.loop-event.event-index in
    let rest = drop_more c.args.events.now i c.event-item.result (omega arith) ∙ ap (λ (event : Event). event ∷ drop (i + 1) c.args.events.now) (sym c.event-item.is) in
    IsPlayed-more _ _ _ _ _ _ _ _ _ _ _ c.loop-event.invariant rest c.step_into.ensures.step c.in_ok-print_event.ensures.printed

pub returns : goal.returns
returns g c = RunsEvents-on_ok c.flush.result _ _ _ _ _ _ _ c.loop-event.invariant (drop_of_length-le c.args.events.now (omega arith)) c.flush.ensures.bytes
