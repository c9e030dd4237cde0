-- The script at a path is that of the file that was opened.
use Rattle.std.proofs.Common.{subst, sym}
use Rattle.world_script.specs.Refusal.{IsRunRefusal}
use Rattle.world_script.specs.Script.{Runs}
use Rattle.world_script.specs.Source.{OfRead, script_at}
use Rattle.world_script.specs.declared.program_fault.ProgramFault.{ProgramFault}
use Rattle.world_script.specs.declared.program_fault.ProgramFault.TheVariants.{CannotRead}
use Rattle.world_script.proofs.ReadLemmas.{at_file, of_read-any, opened_refused, opened_runs}
use Rattle.world_script.proofs.sources.run_path.Goals as goal

pub returns-in-Ok-clause-runs : goal.returns-in-Ok-clause-runs
returns-in-Ok-clause-runs g c =
    opened_runs c.run_script-in-Ok.result _ (g.S.Sources.file_bytes c.args.sources.now c.args.path.now) _ (λ script. Runs script c.args.limit (g.W.Write.contents c.args.out.now) (g.W.Write.contents c.run_script-in-Ok.new.writer))
    (at_file (g.S.Sources.input_bytes c.args.sources.now) (g.S.Sources.file_bytes c.args.sources.now) c.args.path.now c.if-eq.ensures) c.in-Ok.ensures.bytes c.run_script-in-Ok.ensures.runs

pub returns-in-Ok-clause-refused : goal.returns-in-Ok-clause-refused
returns-in-Ok-clause-refused g c = opened_refused c.run_script-in-Ok.result _ (g.S.Sources.file_bytes c.args.sources.now c.args.path.now) _ (at_file (g.S.Sources.input_bytes c.args.sources.now) (g.S.Sources.file_bytes c.args.sources.now) c.args.path.now c.if-eq.ensures) c.in-Ok.ensures.bytes c.run_script-in-Ok.ensures.refused

-- no file could be opened
pub returns-in-Err-clause-refused : goal.returns-in-Err-clause-refused
returns-in-Err-clause-refused g c =
    let at = script_at (g.S.Sources.input_bytes c.args.sources.now) (g.S.Sources.file_bytes c.args.sources.now) c.args.path.now in
    subst (λ (fault : ProgramFault). OfRead at (λ script. IsRunRefusal script fault)) (sym c.with_cause.ensures.fault) (of_read-any at (λ script. IsRunRefusal script CannotRead) (λ script. tt))
