use Rattle.std.proofs.Common.{◌≡◌, ◌+◌, Some, None, sym, ap, ◌∙◌, cond, arith}
use Rattle.std.specs.Prelude.{OnErr, Ok, Err}
use Rattle.std.specs.BTreeMap.{BTreeMap, get, is_at}
use Rattle.std.specs.Ordering.{nat_cmp}
use Rattle.broker_core.specs.Held.{map_of, held_count}
use Rattle.broker_core.proofs.TreeLaws.{Sets, held_count-found, sets-written, raised-once}
use Rattle.broker_core.proofs.held.Held.raise.Goals as goal

pub overflow_add-count : goal.overflow_add-count
overflow_add-count c =
    let count = held_count-found c.self.inside.counts.entries c.args.number.0 (Some c.in-Some.count.now) (sym c.in-Some.ensures.value) in
    let fits = rw (← c.self.view_is, count) at c.requires.fits in
    omega arith

pub returns-in-Some-clause-raised : goal.returns-in-Some-clause-raised
returns-in-Some-clause-raised c =
    let old = c.self.inside.counts in
    let n = c.args.number.0 in
    let now = c.in-Some.count.now + 1 in
    let there = sym c.in-Some.ensures.value in
    let set = sets-written old (c.get_mut.follows.lender now) n c.in-Some.count.now now there (c.get_mut.follows.holds now) in
    rw (← c.self.view_is) (raised-once old.entries (c.get_mut.follows.lender now).entries n (rw (held_count-found old.entries n (Some c.in-Some.count.now) there) set))

pub returns-in_err-insert-clause-unheld : goal.returns-in_err-insert-clause-unheld
returns-in_err-insert-clause-unheld c =
    let none = held_count-found c.self.inside.counts.entries c.args.number.0 None (sym c.in_default.ensures.value) in
    rw (← c.self.view_is) (elim c.from_residual.result as (λ r. OnErr r (held_count (map_of c.self.inside.counts.entries) c.args.number.0 ≡ 0)) [ Ok x ↦ tt | Err fault ↦ none ])

pub returns-clause-raised : goal.returns-clause-raised
returns-clause-raised c =
    let old = c.self.inside.counts in
    let n = c.args.number.0 in
    let none = held_count-found old.entries n None (sym c.in_default.ensures.value) in
    let set : Sets old.entries c.insert.new.self.entries n (Some 1) = λ q. c.in_ok-insert.ensures.updates.0 q ∙ ap (λ (m : BTreeMap _ _). cond (is_at (nat_cmp n) q) (Some 1) (get nat_cmp m q)) c.get_mut.follows.holds-at-none in
    rw (← c.self.view_is) (raised-once old.entries c.insert.new.self.entries n (rw none set))
