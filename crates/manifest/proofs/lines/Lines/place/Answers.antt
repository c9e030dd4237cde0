-- What is a directory of the lines stands before the next.
use Rattle.std.proofs.Common.{◌≡◌, Some, rules, sym, ◌∙◌}
use Rattle.std.specs.Option.{option_map}
use Rattle.std.specs.FinMap.{get}
use Rattle.eden_base.specs.declared.attr.Kind.TheVariants.{Dir}
use Rattle.manifest.specs.Manifest.{File}
use Rattle.manifest.specs.Tree.{files_from}
use Rattle.manifest.proofs.ManifestTree.{dir_before}
use Rattle.manifest.proofs.lines.Lines.place.Goals as goal

pub returns-clause-before : goal.returns-clause-before
returns-clause-before c =
    let kind : option_map (λ (f : File). f.kind) (get (files_from 2 c.as_slice.result.now) c.in-Some.dir.0) ≡ Some Dir = sym c.kind_of.ensures ∙ (search rules) in
    rw (← c.self.view_is, ← c.as_slice.ensures.value) (dir_before c.as_slice.result.now c.in-Some.dir kind)
