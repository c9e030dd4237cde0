-- The place has the form of its ask.
use Rattle.std.proofs.Common.{rules, ◌≡◌, List, None, sym, ap, ◌∙◌, subst}
use Rattle.std.specs.Option.{option_map}
use Rattle.eden_base.specs.First.{first_where}
use Rattle.broker_core.specs.Traffic.{is_of}
use Rattle.broker_core.specs.declared.unanswered.QueuePlace.{QueuePlace}
use Rattle.broker_core.proofs.AskedLaws.{Asked}
use Rattle.broker_core.proofs.PlaceLaws.{form-at, none-asked}
use Rattle.broker_core.proofs.unanswered.Unanswered.form_of.Goals as goal

pub returns-in_err-index : goal.returns-in_err-index
returns-in_err-index c =
    let none : first_where (is_of c.args.unique) c.args.self.now ≡ None =
    subst (λ (es : List Asked). first_where (is_of c.args.unique) es ≡ None) c.self.view_is
    (none-asked c.args.unique c.self.inside.places.items c.self.invariant.rising c.in_err-index.ensures) in
    record { form = rw none (search rules) }

pub returns : goal.returns
returns c =
    let ps = c.self.inside.places.items in
    let form = form-at c.args.unique ps c.in_ok-index.index c.index.result.now c.self.invariant.rising c.in_ok-index.ensures in
    record { form = ap (λ (p : QueuePlace). p.form) c.index.ensures ∙ sym form ∙ ap (λ (es : List Asked). option_map (λ asked. asked.1) (first_where (is_of c.args.unique) es)) c.self.view_is }
