-- Nothing was written before the lines that are gathered, or before the line that there is no memory for them.
use Rattle.world_script.specs.declared.program_fault.ProgramFault.TheVariants.{NoMemory}
use Rattle.world_script.specs.ProgramEnd.{Tells, plain}
use Rattle.world_script.proofs.ServerCommands.{tells-from}
use Rattle.world_script.proofs.ProcessLemmas.{ends_with, gathered-kept}
use Rattle.world_script.proofs.process.gather_lines.Goals as goal

pub returns-in-Ok : goal.returns-in-Ok
returns-in-Ok g c = record {
  gathers = gathered-kept g.P.Output.Write.contents c.in-Ok.lines c.output.result (g.P.Process.output_bytes c.args.process.now) c.in-Ok.ensures.inner c.in-Ok.ensures.empty c.output.ensures.bytes;
  no_memory = tt;
}

pub returns-in-Err : goal.returns-in-Err
returns-in-Err g c =
    let before = g.P.Process.output_bytes c.args.process.now in
    record {
      gathers = tt;
      no_memory = ends_with g.P.Output.Write.contents (λ after ending. Tells (plain NoMemory) before after ending) _ _ c.tell_no_memory-output.result.1 _ _ _ _ _
          (tells-from (plain NoMemory) before _ _ _ c.output-in-Err.ensures.bytes c.tell_no_memory-output.ensures)
          c.leave.ensures.output c.errors.ensures.bytes c.leave.ensures.status c.leave.ensures.says;
    }
