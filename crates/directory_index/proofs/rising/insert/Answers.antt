-- The number comes into its gap.
use Rattle.std.proofs.Common.{◌∙◌, ap, subst}
use Rattle.directory_index.specs.Rising.{is_in, IsGap}
use Rattle.directory_index.proofs.Gaps.{inserted-has}
use Rattle.directory_index.proofs.rising.insert.Goals as goal

pub returns-clause-inserted : goal.returns-clause-inserted
returns-clause-inserted c n =
    ap (is_in n) c.in_ok-insert.ensures.ok
    ∙ inserted-has c.args.numbers.now.items c.requires.rising c.args.number c.in-Some.index (subst (λ xs. IsGap xs c.args.number c.in-Some.index) c.as_slice.ensures c.in-Some.ensures.gap) n
