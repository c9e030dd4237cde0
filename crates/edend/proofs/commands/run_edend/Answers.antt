-- A script was run, or the command that was noted.
use Rattle.std.proofs.Common.{refl}
use Rattle.edend.proofs.CommandLemmas.{runs_in-less, runs_in-noted}
use Rattle.edend.proofs.commands.run_edend.Goals as goal

pub returns-in-None : goal.returns-in-None
returns-in-None g c = record { runs = runs_in-less _ _ _ _ _ _ _ _ _ _ _ c.in-None.is c.run_process-ran.ensures.runs }

pub returns-in-Some : goal.returns-in-Some
returns-in-Some g c = record {
  runs = runs_in-noted _ c.run_process-ran.new.handler c.in-Some.noted _ _ _ _ _ _ _ _ _ _ _ _ _ c.run_process-ran.ensures.runs refl c.in-Some.is c.run_noted.ensures;
}
