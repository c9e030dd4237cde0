use Rattle.std.proofs.Common.{subst, sym}
use Rattle.std.proofs.lemmas.Result.{err_from_is_err_and}
use Rattle.world_script.specs.Refusal.{IsRunRefusal}
use Rattle.world_script.specs.Source.{OfRead}
use Rattle.world_script.specs.declared.run_error.RunError.{RunError}
use Rattle.world_script.proofs.ReadLemmas.{refused_early}
use Rattle.world_script.proofs.RunLemmas.{refused_late, runs_as_said, runs_whole}
use Rattle.world_script.proofs.run.run_script.Goals as goal

pub returns-in-Ok-clause-runs : goal.returns-in-Ok-clause-runs
returns-in-Ok-clause-runs g c =
    runs_whole _ _ c.args.limit _ _ c.in_ok-bytes.ensures.whole
    (runs_as_said _ _ _ _ _ c.args.limit _ _ _ c.in_ok-bytes.ensures.len c.as_slice.ensures.value c.as_slice-2.ensures.value
    c.in_ok-script.ensures.manifest c.in_ok-script.ensures.events c.in_ok-world.ensures.new c.in_ok-world.ensures.matches c.in-Ok.ensures)

pub returns-in-Err-clause-refused : goal.returns-in-Err-clause-refused
returns-in-Err-clause-refused g c =
    refused_late _ _ _ _ _ _ c.in_ok-bytes.ensures.whole c.in_ok-bytes.ensures.len c.as_slice.ensures.value c.in_ok-script.ensures.manifest c.in_ok-script.ensures.events c.with_cause.ensures.fault

pub returns-in_err-bytes-clause-refused : goal.returns-in_err-bytes-clause-refused
returns-in_err-bytes-clause-refused g c =
    let p = err_from_is_err_and c.from_residual.result c.from_residual.ensures.1 in
    rw p.1 (subst (λ (error : RunError). OfRead (g.R.Read.remaining c.args.reader.now) (λ script. IsRunRefusal script error.fault)) (sym p.2)
    (refused_early _ _ c.in_err-bytes.ensures.refused c.in_err-bytes.ensures.too_long))
