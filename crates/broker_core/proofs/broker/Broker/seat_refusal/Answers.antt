-- What a wrong body of must-fail/ breaks; an answer makes its refusal cheap.
use Rattle.std.proofs.Common.{rules}
use Rattle.broker_core.proofs.broker.Broker.seat_refusal.Goals as goal

pub returns-then-seat-generation : goal.returns-then-seat-generation
returns-then-seat-generation c = search rules
