-- No line stands anywhere.
use Rattle.std.proofs.Common.{rules, subst, sym}
use Rattle.directory_index.specs.Index.{IsIndexOf}
use Rattle.directory_index.specs.Standing.{Standing}
use Rattle.manifest.proofs.PlaceLaws.{standing-none}
use Rattle.manifest.proofs.lines.Lines.new.Goals as goal

pub invariant_of-result : goal.invariant_of-result
invariant_of-result c =
    rw c.new.ensures.items (
      search rules,
      subst (λ (at : Standing). IsIndexOf at c.new-2.result) (sym standing-none) c.new-2.ensures.empty,
      search rules,
    )
