use Rattle.std.proofs.Common.{drop}
use Rattle.world_script.proofs.PlayLemmas.{IsPlayed}
use Rattle.world_script.proofs.run.play.Given as goal

abbrev pub invariant-loop-event : goal.invariant-loop-event
invariant-loop-event g l =
    IsPlayed l.initial.world l.events (drop l.event-index l.events) (g.W.Write.contents l.initial.out) l.world (g.W.Write.contents l.out)
