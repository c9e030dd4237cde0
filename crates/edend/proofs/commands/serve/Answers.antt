-- The daemon ran, and its streams held what they held before.
use Rattle.std.proofs.Common.{ℕ, List, Option, subst, sym}
use Rattle.std.specs.Io.KnownBytes.{Keeps}
use Rattle.edend.proofs.CommandLemmas.{runs_over}
use Rattle.edend.proofs.commands.serve.Goals as goal

pub returns : goal.returns
returns g c =
    let kept = subst (λ (known : Option (List ℕ)). Keeps (g.P.Process.errors_bytes c.args.process.now) known) (sym c.write_behind-refused.ensures.same) c.errors-errors.ensures.bytes in
    runs_over _ _ _ c.daemon-out.result.ended _ _ _ _ _ _ _ _ _ c.daemon-out.ensures c.output-out.ensures.bytes kept c.end_ungathered.ensures.ends
