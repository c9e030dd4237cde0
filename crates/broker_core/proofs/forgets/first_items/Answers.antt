use Rattle.std.proofs.Common.{◌≡◌, length, sym, ◌∙◌, arith}
use Rattle.broker_core.proofs.Queues.{no_more}
use Rattle.broker_core.proofs.forgets.first_items.Goals as goal

pub returns-in_default-clause-first : goal.returns-in_default-clause-first
returns-in_default-clause-first c =
    let none : length c.loop.items.items ≡ 0 = omega (arith, c.loop.items.ok.0, c.in_default.ensures.cases.0) in
    let ended = no_more c.args.items.now.items c.loop.counter 256 (omega arith) (rw c.loop.invariant.left at none) in
    c.loop.invariant.first ∙ ended.0

pub returns-in_default-clause-left : goal.returns-in_default-clause-left
returns-in_default-clause-left c =
    let none : length c.loop.items.items ≡ 0 = omega (arith, c.loop.items.ok.0, c.in_default.ensures.cases.0) in
    let ended = no_more c.args.items.now.items c.loop.counter 256 (omega arith) (rw c.loop.invariant.left at none) in
    sym c.in_default.ensures.items ∙ c.loop.invariant.left ∙ ended.1
