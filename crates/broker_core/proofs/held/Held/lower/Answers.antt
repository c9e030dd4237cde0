-- A count is lowered where it stands, or taken out.
use Rattle.std.proofs.Common.{ℕ, ◌-◌, ◌<◌, ◌≤◌, Some, sym, ap, arith}
use Rattle.std.specs.BTreeMap.{BTreeMap}
use Rattle.broker_core.specs.Held.{map_of, held_count}
use Rattle.broker_core.proofs.TreeLaws.{count_in, held_count-found, sets-written, sets-out, lowered-all, lowered-none, lowered-some}
use Rattle.broker_core.proofs.held.Held.lower.Goals as goal

pub returns-in_default : goal.returns-in_default
returns-in_default c =
    let none = sym c.in_default.ensures.value in
    record { lowered = rw (← c.self.view_is) (lowered-none c.self.inside.counts.entries c.get_mut.follows.lender-at-none.entries c.args.number.0 c.args.k none (λ q. ap (λ (m : BTreeMap ℕ ℕ). count_in m.entries q) c.get_mut.follows.holds-at-none)) }

pub returns-then-count-k : goal.returns-then-count-k
returns-then-count-k c =
    let old = c.self.inside.counts in
    let n = c.args.number.0 in
    let now = c.in-Some.count.now - c.args.k in
    let there = sym c.in-Some.ensures.value in
    let set = sets-written old (c.get_mut.follows.lender now) n c.in-Some.count.now now there (c.get_mut.follows.holds now) in
    let found = held_count-found old.entries n (Some c.in-Some.count.now) there in
    let more : c.args.k < held_count (map_of old.entries) n = omega (arith, found, c.if-count-k.true) in
    record { lowered = rw (← c.self.view_is) (lowered-some old.entries (c.get_mut.follows.lender now).entries n c.args.k more (rw found set)) }

pub returns : goal.returns
returns c =
    let old = c.self.inside.counts in
    let n = c.args.number.0 in
    let now = c.in-Some.count.now in
    let there = sym c.in-Some.ensures.value in
    let same = sets-written old (c.get_mut.follows.lender now) n now now there (c.get_mut.follows.holds now) in
    let found = held_count-found old.entries n (Some now) there in
    let few : held_count (map_of old.entries) n ≤ c.args.k = omega (arith, found, c.if-count-k.false) in
    let out = sets-out old.entries (c.get_mut.follows.lender now).entries c.remove-count.new.self.entries n now same c.remove-count.ensures.updates.0 in
    record { lowered = rw (← c.self.view_is) (lowered-all old.entries c.remove-count.new.self.entries n c.args.k few out) }
