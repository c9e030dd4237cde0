-- An ask that is found leaves a gap, and of the gaps some are dropped. No ask is found at a gap, nor where no place is.
use Rattle.std.proofs.Common.{rules, ◌≡◌, List, None, length, sym, ap, ◌∙◌, subst, arith}
use Rattle.eden_base.specs.First.{first_where, without_where}
use Rattle.eden_base.proofs.FirstLemmas.{without_where-none}
use Rattle.broker_core.specs.Rising.{IsRising}
use Rattle.broker_core.specs.Traffic.{is_of}
use Rattle.broker_core.specs.Places.{is_filled}
use Rattle.broker_core.specs.declared.unanswered.QueuePlace.{QueuePlace}
use Rattle.broker_core.proofs.AskedLaws.{Asked}
use Rattle.broker_core.proofs.PlaceLaws.{asks-fewer, emptied-at, gap-asked, none-asked, rising-asks}
use Rattle.broker_core.proofs.unanswered.Unanswered.remove.Goals as goal

pub returns-in_default-clause-removed : goal.returns-in_default-clause-removed
returns-in_default-clause-removed c =
    let none = subst (λ (es : List Asked). first_where (is_of c.args.unique) es ≡ None) c.self.view_is
    (none-asked c.args.unique c.self.inside.places.items c.self.invariant.rising c.in_default.ensures) in
    sym (without_where-none (is_of c.args.unique) c.args.self.now none)

pub returns-in_default-clause-rising : goal.returns-in_default-clause-rising
returns-in_default-clause-rising c = subst IsRising c.self.view_is (rising-asks c.self.inside.places.items c.self.invariant.rising)

pub returns-then-is_none-clause-removed : goal.returns-then-is_none-clause-removed
returns-then-is_none-clause-removed c =
    let ps = c.self.inside.places.items in
    let gap = ap (λ (p : QueuePlace). is_filled p) (sym c.index.ensures) ∙ c.if-is_none.ensures in
    let none = subst (λ (es : List Asked). first_where (is_of c.args.unique) es ≡ None) c.self.view_is
    (gap-asked c.args.unique ps c.in-Some.index c.index.result.now c.self.invariant.rising c.in-Some.ensures gap) in
    sym (without_where-none (is_of c.args.unique) c.args.self.now none)

pub returns-then-is_none-clause-rising : goal.returns-then-is_none-clause-rising
returns-then-is_none-clause-rising c = subst IsRising c.self.view_is (rising-asks c.self.inside.places.items c.self.invariant.rising)

pub drop_gaps-requires : goal.drop_gaps-requires
drop_gaps-requires c =
    let left = emptied-at c.args.unique c.self.inside.places.items c.in-Some.index c.index.result.now c.index_mut.result.now c.self.invariant.rising c.in-Some.ensures c.index.ensures (search rules) c.index_mut.ensures.value in
    let long = c.self.inside.places.ok.0 in
    record { counted = omega (arith, long, left.fewer, c.self.invariant.counted, c.len.ensures) }

pub overflow_sub-self : goal.overflow_sub-self
overflow_sub-self c =
    let left = emptied-at c.args.unique c.self.inside.places.items c.in-Some.index c.index.result.now c.index_mut.result.now c.self.invariant.rising c.in-Some.ensures c.index.ensures (search rules) c.index_mut.ensures.value in
    let long = c.self.inside.places.ok.0 in
    let kept = c.drop_gaps.new.places in
    let kept-long = kept.ok.0 in
    omega (arith, long, kept-long, left.fewer, c.self.invariant.counted, c.len.ensures, c.len-2.ensures, ap length c.drop_gaps.ensures.dropped.asks, asks-fewer kept.items)

pub invariant_of-self : goal.invariant_of-self
invariant_of-self c =
    let left = emptied-at c.args.unique c.self.inside.places.items c.in-Some.index c.index.result.now c.index_mut.result.now c.self.invariant.rising c.in-Some.ensures c.index.ensures (search rules) c.index_mut.ensures.value in
    let long = c.self.inside.places.ok.0 in
    let kept = c.drop_gaps.new.places in
    let kept-long = kept.ok.0 in
    record {
      rising = c.drop_gaps.ensures.dropped.rising left.rising;
      counted = omega (arith, long, kept-long, left.fewer, c.self.invariant.counted, c.len.ensures, c.len-2.ensures, ap length c.drop_gaps.ensures.dropped.asks, asks-fewer kept.items);
      first = c.drop_gaps.ensures.first;
      last = c.drop_gaps.ensures.last;
    }

pub returns-clause-removed : goal.returns-clause-removed
returns-clause-removed c =
    let left = emptied-at c.args.unique c.self.inside.places.items c.in-Some.index c.index.result.now c.index_mut.result.now c.self.invariant.rising c.in-Some.ensures c.index.ensures (search rules) c.index_mut.ensures.value in
    c.drop_gaps.ensures.dropped.asks ∙ left.asks ∙ ap (without_where (is_of c.args.unique)) c.self.view_is

pub returns-clause-rising : goal.returns-clause-rising
returns-clause-rising c =
    let left = emptied-at c.args.unique c.self.inside.places.items c.in-Some.index c.index.result.now c.index_mut.result.now c.self.invariant.rising c.in-Some.ensures c.index.ensures (search rules) c.index_mut.ensures.value in
    rising-asks c.drop_gaps.new.places.items (c.drop_gaps.ensures.dropped.rising left.rising)
