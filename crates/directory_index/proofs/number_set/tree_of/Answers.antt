-- One more number comes into the tree.
use Rattle.std.proofs.Common.{◌∙◌, ◌<◌, ◌||◌, Bool, get_or, length, ap, sym, arith}
use Rattle.std.proofs.lemmas.Bool.Decides.{nat_tests}
use Rattle.std.proofs.lemmas.List.Folds.{list_any_more}
use Rattle.std.specs.BTreeMap.{is_at}
use Rattle.std.specs.Ordering.{nat_cmp}
use Rattle.directory_index.specs.Rising.{is_in}
use Rattle.directory_index.proofs.Gaps.{more-in}
use Rattle.directory_index.proofs.number_set.tree_of.Goals as goal

pub loop-number-preserved : goal.loop-number-preserved
loop-number-preserved c n =
    let xs = c.args.numbers.now in
    let i = c.loop-number.number-index in
    let number = get_or xs i 0 in
    let test = c.loop-number-test.true in
    let within : i < length xs = grind (arith, nat_tests) in
    more-in n number (is_in n c.loop-number.tree.keys) (is_in n c.insert.new.self.keys) (c.in_ok-insert.ensures.updates.0 n)
    ∙ ap (λ (b : Bool). b || is_at (nat_cmp n) number) (c.loop-number.invariant n)
    ∙ sym (list_any_more (is_at (nat_cmp n)) xs i 0 within)
