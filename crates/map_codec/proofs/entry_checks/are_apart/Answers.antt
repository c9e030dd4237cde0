-- What a sort leaves stands twice exactly where what it was given does.
use Rattle.std.proofs.Common.{◌≤◌, length, rules, arith}
use Rattle.std.proofs.lemmas.List.Sorted.{answers_always, IsNonDecreasingBy-from_sort}
use Rattle.eden_base.specs.declared.number.FileId.{FileId}
use Rattle.map_codec.proofs.TwiceLaws.{neighbours_twice, none_twice, twice_back, twice_in_any_order}
use Rattle.map_codec.proofs.entry_checks.are_apart.Goals as goal

pub returns-then-index : goal.returns-then-index
returns-then-index c =
    let files = c.sort_unstable_by_key.new.self.items in
    twice_in_any_order c.args.files.items files c.sort_unstable_by_key.ensures.permutation
    (neighbours_twice files c.loop-i.i c.index.result.now c.index-in-loop-i.result.now c.loop-i.auto.i (search rules) c.index.ensures c.index-in-loop-i.ensures c.if-index.true)

pub returns : goal.returns
returns c =
    let all : length c.sort_unstable_by_key.new.self.items ≤ c.loop-i.i = search rules in
    let rise = IsNonDecreasingBy-from_sort (λ (f : FileId). f.0) c.sort_unstable_by_key.new.self.items
    (c.sort_unstable_by_key.ensures.sorted (λ f. f.0) (answers_always _ _ _ (λ f a r g called. search rules))) in
    λ twice. none_twice c.sort_unstable_by_key.new.self.items rise (λ k d lt. c.loop-i.invariant k d (omega (arith, lt, all)))
    (twice_back c.args.files.items c.sort_unstable_by_key.new.self.items c.sort_unstable_by_key.ensures.permutation twice)
