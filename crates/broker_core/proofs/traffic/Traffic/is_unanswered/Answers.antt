use Rattle.std.proofs.Common.{is_some, ap, ◌∙◌}
use Rattle.broker_core.specs.Roomy.{taken_among}
use Rattle.broker_core.proofs.AskedLaws.{found-either}
use Rattle.broker_core.proofs.traffic.Traffic.is_unanswered.Goals as goal

pub returns : goal.returns
returns c =
    let inside = c.self.inside in
    let ts = taken_among inside.unanswered inside.untaken.items in
    let either = found-either c.args.unique inside.unanswered ts inside.untaken.items c.self.invariant.parts in
    rw (← c.self.view_is) (c.is_some.ensures ∙ ap is_some c.form_of.ensures.form ∙ either)
