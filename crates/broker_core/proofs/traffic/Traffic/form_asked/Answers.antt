use Rattle.std.proofs.Common.{sym, ap, ◌∙◌, subst}
use Rattle.std.specs.Option.{option_map}
use Rattle.broker_core.specs.Rising.{IsRising}
use Rattle.broker_core.specs.Roomy.{taken_among}
use Rattle.broker_core.proofs.AskedLaws.{Asked}
use Rattle.broker_core.proofs.Moves.{none-taken, looked-up-before}
use Rattle.broker_core.proofs.traffic.Traffic.form_asked.Goals as goal

pub returns-then-is_not_before : goal.returns-then-is_not_before
returns-then-is_not_before c =
    let inside = c.self.inside in
    let ts = taken_among inside.unanswered inside.untaken.items in
    let rise = subst IsRising c.self.invariant.parts c.self.invariant.rising in
    let none = none-taken ts inside.untaken.items c.args.unique rise (sym c.if-is_not_before.ensures) in
    rw (← c.self.view_is) (sym (ap (option_map (λ (e : Asked). e.1)) none))

pub returns : goal.returns
returns c =
    let inside = c.self.inside in
    let ts = taken_among inside.unanswered inside.untaken.items in
    let found = looked-up-before inside.unanswered ts inside.untaken.items c.args.unique c.self.invariant.parts c.self.invariant.rising (sym c.is_not_before.ensures ∙ c.if-is_not_before.false) in
    rw (← c.self.view_is) (c.form_of.ensures.form ∙ found)
