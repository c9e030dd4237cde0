-- A search that finds nothing ends at the gap.
use Rattle.std.proofs.Common.{MatchOption, sym, subst, true, ◌≡◌}
use Rattle.directory_index.specs.Rising.{is_in, IsGap}
use Rattle.directory_index.proofs.Gaps.{gap-of}
use Rattle.directory_index.proofs.rising.gap_for.Goals as goal

pub returns-in-Some : goal.returns-in-Some
returns-in-Some c = record {
  gap = subst (λ o. MatchOption o (is_in c.args.number c.args.numbers.now ≡ true) (IsGap c.args.numbers.now c.args.number)) (sym c.err.ensures.value)
      (gap-of c.args.numbers.now c.requires.rising c.args.number c.binary_search.result c.binary_search.ensures.position);
}
