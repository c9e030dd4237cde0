-- The first of the maps' numbers and the one beside them.
use Rattle.std.proofs.Common.{subst, sym, ◌∙◌}
use Rattle.directory_index.specs.Children.{IsFirstChild}
use Rattle.directory_index.specs.Standing.{IsFirstFrom}
use Rattle.directory_index.proofs.Looking.{first-both, first-child, first-latest}
use Rattle.directory_index.proofs.directory_index.DirectoryIndex.first_from.Goals as goal

pub returns-in-Some-Some : goal.returns-in-Some-Some
returns-in-Some-Some c = record {
  first = λ at is.
      first-both at c.args.self.now is c.args.dir c.args.least c.in-Some-Some.child c.in-Some-Some.number c.min.result
      (subst (IsFirstChild c.args.self.now.children c.args.dir c.args.least) c.in-Some-Some.is-0 c.first_from.ensures.first)
      (sym c.latest_from-latest.ensures ∙ c.in-Some-Some.is-1) c.min.ensures;
}

pub returns-in-Some-None : goal.returns-in-Some-None
returns-in-Some-None c = record {
  first = λ at is.
      first-child at c.args.self.now is c.args.dir c.args.least c.in-Some-None.child
      (subst (IsFirstChild c.args.self.now.children c.args.dir c.args.least) c.in-Some-None.is-0 c.first_from.ensures.first)
      (sym c.latest_from-latest.ensures ∙ c.in-Some-None.is-1);
}

pub returns-in-None-default : goal.returns-in-None-default
returns-in-None-default c = record {
  first = λ at is.
      subst (IsFirstFrom at c.args.dir c.args.least) (sym c.latest_from-latest.ensures)
      (first-latest at c.args.self.now is c.args.dir c.args.least
      (subst (IsFirstChild c.args.self.now.children c.args.dir c.args.least) c.in-None-default.is-0 c.first_from.ensures.first));
}
