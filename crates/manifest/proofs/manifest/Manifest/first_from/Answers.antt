-- The manifest's lines are those that it shares.
use Rattle.std.proofs.Common.{List, ap, subst, ◌∙◌}
use Rattle.manifest.specs.Manifest.{Line, Manifest}
use Rattle.manifest.specs.Tree.{links_from, IsFirstFrom}
use Rattle.manifest.proofs.manifest.Manifest.first_from.Goals as goal

pub returns-clause-first : goal.returns-clause-first
returns-clause-first c = subst (λ (lines : List Line). IsFirstFrom (links_from 2 lines) c.args.dir c.args.least.0 c.first_from.result) (c.deref.ensures ∙ ap (λ (m : Manifest). m.lines) c.self.view_is) c.first_from.ensures.first
