use Rattle.std.proofs.Common.{◌≡◌, true, refl, sym, ◌∙◌, subst, arith}
use Rattle.std.specs.Prelude.{◌&&◌}
use Rattle.eden_base.specs.First.{first_where, without_where}
use Rattle.fuse_wire.specs.Form.{belongs}
use Rattle.broker_core.specs.Traffic.{TrafficState, is_of, is_asked, may_be_given}
use Rattle.broker_core.specs.Roomy.{taken_among}
use Rattle.broker_core.proofs.AskedLaws.{taken-before}
use Rattle.broker_core.proofs.Moves.{answered, has-ask, one-state, parted}
use Rattle.broker_core.proofs.traffic.Traffic.post.Goals as goal

pub invariant_of-self : goal.invariant_of-self
invariant_of-self c =
    let inside = c.self.inside in
    let es = inside.unanswered in
    let asks = inside.untaken.items in
    let ts = taken_among es asks in
    let k = c.args.reply.unique in
    let asked = subst (λ (t : TrafficState). is_asked t c.args.reply ≡ true) (sym c.self.view_is) (sym c.is_asked.ensures.asked ∙ c.if-not-is_asked.false) in
    let found = has-ask (λ form. belongs form c.args.reply.answer && may_be_given c.args.reply.answer) (first_where (is_of k) ts) asked in
    let after = answered es c.remove.new.self ts asks k c.self.invariant.parts c.self.invariant.rising found c.remove.ensures.removed in
    record {
      rising = c.remove.ensures.rising;
      parts = parted c.remove.new.self (without_where (is_of k) ts) asks after.parts;
      room = omega (arith, after.fewer, c.self.invariant.room, c.push_back_reserved.ensures.len, c.push_back_reserved.ensures.capacity);
    }

pub returns-clause-posted : goal.returns-clause-posted
returns-clause-posted c =
    let inside = c.self.inside in
    let es = inside.unanswered in
    let asks = inside.untaken.items in
    let ts = taken_among es asks in
    let k = c.args.reply.unique in
    let asked = subst (λ (t : TrafficState). is_asked t c.args.reply ≡ true) (sym c.self.view_is) (sym c.is_asked.ensures.asked ∙ c.if-not-is_asked.false) in
    let found = has-ask (λ form. belongs form c.args.reply.answer && may_be_given c.args.reply.answer) (first_where (is_of k) ts) asked in
    let after = answered es c.remove.new.self ts asks k c.self.invariant.parts c.self.invariant.rising found c.remove.ensures.removed in
    rw (← c.self.view_is) (one-state asks asks _ (without_where (is_of k) ts) inside.forgets _ _ refl (taken-before c.remove.new.self (without_where (is_of k) ts) asks after.parts) c.push_back_reserved.ensures.items)
