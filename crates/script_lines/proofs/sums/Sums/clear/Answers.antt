use Rattle.script_lines.proofs.GatherLemmas.{no_sum}
use Rattle.script_lines.proofs.sums.Sums.clear.Goals as goal

pub returns-clause-zero : goal.returns-clause-zero
returns-clause-zero c = no_sum
