-- How the program ends after a server command stays so once all is written.
use Rattle.std.proofs.KnownBytes.{Keeps-refl}
use Rattle.std.specs.Io.Buffered.{writer_contents}
use Rattle.world_script.specs.ProgramEnd.{EndsAfter}
use Rattle.world_script.proofs.ServerCommands.{ends_after-finished}
use Rattle.world_script.proofs.ProcessLemmas.{ends_with}
use Rattle.world_script.proofs.process.end_command.Goals as goal

pub returns : goal.returns
returns g c =
    let before = writer_contents g.W.Write.contents c.args.lines in
    record {
      ends = ends_with g.W.Write.contents (λ after ending. EndsAfter c.args.ran before after ending) _ _ c.finish-output.result.1 _ _ _ _ _
          (ends_after-finished _ _ _ _ _ _ c.end_after-ending.ensures.ends c.finish-output.ensures.finishes)
          c.leave.ensures.output (Keeps-refl (g.E.Write.contents c.args.errors)) c.leave.ensures.status c.leave.ensures.says;
    }
