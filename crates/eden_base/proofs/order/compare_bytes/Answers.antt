-- Eight bytes after eight.
use Rattle.std.proofs.Common.{refl, sym, ◌∙◌, arith}
use Rattle.eden_base.proofs.OrderLemmas.{differs, goes_on}
use Rattle.eden_base.proofs.order.compare_bytes.Goals as goal

pub loop-front-init : goal.loop-front-init
loop-front-init c = (refl, (λ i. omega (arith, c.type_inv.left i)), λ i. omega (arith, c.type_inv.right i))

pub returns-then-ne : goal.returns-then-ne
returns-then-ne c =
    let one = c.in-Some.ensures.cases in
    let other = c.in-Some-split_first_chunk.ensures.cases in
    record {
      order = differs c.args.left.now c.args.right.now c.loop-front.left_rest.now c.loop-front.right_rest.now c.in-Some.front.now c.in-Some-split_first_chunk.other.now c.in-Some.behind.now c.in-Some-split_first_chunk.behind_other.now
          c.from_be_bytes.result c.from_be_bytes-in-Some.result c.cmp-order.result c.loop-front.invariant
          (record { front_is = one.0; behind_is = one.1; len = one.2 }) (record { front_is = other.0; behind_is = other.1; len = other.2 })
          c.from_be_bytes.ensures c.from_be_bytes-in-Some.ensures c.cmp-order.ensures (sym c.ne.ensures ∙ c.if-ne.true);
    }

pub loop-front-preserved : goal.loop-front-preserved
loop-front-preserved c =
    let one = c.in-Some.ensures.cases in
    let other = c.in-Some-split_first_chunk.ensures.cases in
    goes_on c.args.left.now c.args.right.now c.loop-front.left_rest.now c.loop-front.right_rest.now c.in-Some.front.now c.in-Some-split_first_chunk.other.now c.in-Some.behind.now c.in-Some-split_first_chunk.behind_other.now
    c.from_be_bytes.result c.from_be_bytes-in-Some.result c.cmp-order.result c.loop-front.invariant
    (record { front_is = one.0; behind_is = one.1; len = one.2 }) (record { front_is = other.0; behind_is = other.1; len = other.2 })
    c.from_be_bytes.ensures c.from_be_bytes-in-Some.ensures c.cmp-order.ensures (sym c.ne.ensures ∙ c.if-ne.false)
