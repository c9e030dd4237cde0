use Rattle.std.proofs.Common.{◌++◌, ◌∷◌, [], sym, ap, ◌∙◌, subst, arith}
use Rattle.fuse_wire.specs.declared.request.Ask.{Ask}
use Rattle.fuse_wire.specs.declared.request.Request.{Request}
use Rattle.broker_core.specs.Traffic.{TrafficState, IsLater}
use Rattle.broker_core.specs.Roomy.{taken_among}
use Rattle.broker_core.proofs.AskedLaws.{taken-before}
use Rattle.broker_core.proofs.Moves.{all-below, asked-last, one-state, parted}
use Rattle.broker_core.proofs.traffic.Traffic.push_ask.Goals as goal

pub push-requires : goal.push-requires
push-requires c =
    let inside = c.self.inside in
    let later : IsLater _ c.args.unique = subst (λ (t : TrafficState). IsLater t c.args.unique) (sym c.self.view_is) c.requires.later in
    record { later = all-below inside.unanswered (taken_among inside.unanswered inside.untaken.items) inside.untaken.items c.args.unique c.self.invariant.parts later.taken later.untaken }

pub invariant_of-self-2 : goal.invariant_of-self-2
invariant_of-self-2 c =
    let inside = c.self.inside in
    let es = inside.unanswered in
    let asks = inside.untaken.items in
    let ts = taken_among es asks in
    let ask : Ask = record { unique = c.args.unique; what = c.args.request.now } in
    let same = ap (λ (what : Request). asks ++ record { unique = c.args.unique; what = what } ∷ []) c.in_ok-what.ensures.copy in
    let pushed = c.push_back_reserved.ensures.items ∙ ap (λ xs. xs ++ record { unique = c.args.unique; what = c.in_ok-what.what } ∷ []) c.in_ok-reserve.ensures.items ∙ same in
    let put = c.in-Ok.ensures.pushed ∙ ap (λ form. es ++ (c.args.unique, form) ∷ []) c.form.ensures.form in
    let after = asked-last es c.push.new.self ts asks c.push_back_reserved.new.self.items ask c.self.invariant.parts pushed put in
    record {
      rising = c.push.ensures.rising;
      parts = parted c.push.new.self ts c.push_back_reserved.new.self.items after.parts;
      room = omega (arith, after.more, c.in_ok-reserve-2.ensures.ok, c.in_ok-reserve-2.ensures.len, c.len.ensures.len);
    }

pub returns-clause-issued : goal.returns-clause-issued
returns-clause-issued c =
    let inside = c.self.inside in
    let es = inside.unanswered in
    let asks = inside.untaken.items in
    let ts = taken_among es asks in
    let ask : Ask = record { unique = c.args.unique; what = c.args.request.now } in
    let same = ap (λ (what : Request). asks ++ record { unique = c.args.unique; what = what } ∷ []) c.in_ok-what.ensures.copy in
    let pushed = c.push_back_reserved.ensures.items ∙ ap (λ xs. xs ++ record { unique = c.args.unique; what = c.in_ok-what.what } ∷ []) c.in_ok-reserve.ensures.items ∙ same in
    let put = c.in-Ok.ensures.pushed ∙ ap (λ form. es ++ (c.args.unique, form) ∷ []) c.form.ensures.form in
    let after = asked-last es c.push.new.self ts asks c.push_back_reserved.new.self.items ask c.self.invariant.parts pushed put in
    rw (← c.self.view_is) (one-state _ _ _ ts inside.forgets _ _ pushed (taken-before c.push.new.self ts c.push_back_reserved.new.self.items after.parts) c.in_ok-reserve-2.ensures.items)
