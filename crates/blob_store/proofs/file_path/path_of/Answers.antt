-- one directory more stands in front of the path
use Rattle.std.proofs.Common.{◌++◌, ◌∷◌, ◌∙◌, ℕ, List, Some, ap, sym, subst}
use Rattle.std.specs.Option.{option_copied}
use Rattle.manifest.specs.Manifest.{Line}
use Rattle.blob_store.specs.FilePath.{IsPathFrom}
use Rattle.blob_store.proofs.Paths.{path_step}
use Rattle.blob_store.proofs.file_path.path_of.Goals as goal

pub loop-up-preserved : goal.loop-up-preserved
loop-up-preserved c =
    let line = c.line-in-loop-up.inside in
    let longer = c.in_ok-path-2.ensures.joined in
    let name = c.bytes-in-loop-up.ensures.bytes in
    let rest = c.as_slice.ensures.value in
    subst (IsPathFrom c.args.lines.now line.dir c.args.file)
    (sym (longer ∙ ap (λ (n : List ℕ). n ++ 47 ∷ c.as_slice.result.now) name ∙ ap (λ (r : List ℕ). line.name ++ 47 ∷ r) rest))
    (path_step c.args.lines.now c.loop-up.dir c.args.file _ _ c.loop-up.invariant
    (sym c.line_of-in-loop-up.ensures ∙ ap option_copied c.in-Some-line_of.is
    ∙ ap (λ (l : Line). Some l) (sym c.line-in-loop-up.view_is)))
