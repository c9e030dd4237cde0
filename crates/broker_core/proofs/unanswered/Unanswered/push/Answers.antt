-- The places rise on with that of an ask above all others.
use Rattle.std.proofs.Common.{◌≡◌, ◌+◌, List, ◌∷◌, [], ◌++◌, length, sym, ap, ◌∙◌, subst, arith}
use Rattle.std.specs.Prelude.{All}
use Rattle.std.proofs.lemmas.List.{length_push}
use Rattle.broker_core.specs.Rising.{IsRising}
use Rattle.broker_core.specs.Places.{asks_at, PlacesRise, StartsFilled, EndsFilled}
use Rattle.broker_core.specs.declared.unanswered.QueuePlace.{QueuePlace}
use Rattle.broker_core.proofs.AskedLaws.{Asked, Below}
use Rattle.broker_core.proofs.PlaceLaws.{asks-push, ends-push, rising-asks, starts-push}
use Rattle.broker_core.proofs.RisingLaws.{place_of, rising-push}
use Rattle.broker_core.proofs.unanswered.Unanswered.push.Goals as goal

pub invariant_of-self-2 : goal.invariant_of-self-2
invariant_of-self-2 c =
    let ps = c.self.inside.places.items in
    let k = c.args.unique in
    let f = c.args.form in
    let is = sym {A = List QueuePlace} c.in_ok-push_back.ensures.items in
    let later = subst (λ (es : List Asked). All (Below k) es) (sym c.self.view_is) c.requires.later in
    let asks = asks-push ps k f in
    let long = length_push (asks_at ps) (k, f) in
    let longer = length_push ps (place_of k f) in
    record {
      rising = subst PlacesRise is (rising-push k f ps c.self.invariant.rising c.self.invariant.last later);
      counted = subst (λ (qs : List QueuePlace). c.self.inside.gaps + length (asks_at qs) ≡ length qs) is (omega (arith, ap length asks, long, longer, c.self.invariant.counted));
      first = subst StartsFilled is (starts-push ps k f c.self.invariant.first);
      last = subst EndsFilled is (ends-push ps k f);
    }

pub returns-in_err-push_back-clause-rising : goal.returns-in_err-push_back-clause-rising
returns-in_err-push_back-clause-rising c =
    subst (λ (ps : List QueuePlace). IsRising (asks_at ps)) (sym {A = List QueuePlace} c.in_err-push_back.ensures.items) (rising-asks c.self.inside.places.items c.self.invariant.rising)

pub returns-clause-pushed : goal.returns-clause-pushed
returns-clause-pushed c =
    ap asks_at c.in_ok-push_back.ensures.items ∙ asks-push c.self.inside.places.items c.args.unique c.args.form ∙ ap (λ (es : List Asked). es ++ (c.args.unique, c.args.form) ∷ []) c.self.view_is

pub returns-clause-rising : goal.returns-clause-rising
returns-clause-rising c =
    let ps = c.self.inside.places.items in
    let later = subst (λ (es : List Asked). All (Below c.args.unique) es) (sym c.self.view_is) c.requires.later in
    subst (λ (qs : List QueuePlace). IsRising (asks_at qs)) (sym {A = List QueuePlace} c.in_ok-push_back.ensures.items)
    (rising-asks _ (rising-push c.args.unique c.args.form ps c.self.invariant.rising c.self.invariant.last later))
