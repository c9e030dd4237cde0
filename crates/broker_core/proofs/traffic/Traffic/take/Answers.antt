use Rattle.std.proofs.Common.{◌++◌, map, take, sym, ap, ◌∙◌}
use Rattle.broker_core.specs.Traffic.{asked_of}
use Rattle.broker_core.specs.Roomy.{taken_among}
use Rattle.broker_core.proofs.Moves.{taken-first, parted}
use Rattle.broker_core.proofs.traffic.Traffic.take.Goals as goal

pub invariant_of-self-2 : goal.invariant_of-self-2
invariant_of-self-2 c =
    let inside = c.self.inside in
    let es = inside.unanswered in
    let asks = inside.untaken.items in
    let ts = taken_among es asks in
    let first = taken-first es ts asks c.self.invariant.parts ∙ ap (λ xs. ts ++ map asked_of (take 1 asks) ++ map asked_of xs) (sym c.pop_front.ensures.rest) in
    record {
      rising = c.self.invariant.rising;
      parts = parted es (ts ++ map asked_of (take 1 asks)) c.pop_front.new.self.items first;
      room = c.self.invariant.room;
    }
