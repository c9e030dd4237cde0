use Rattle.std.proofs.Common.{subst, List, Option, ℕ, ◌≡◌}
use Rattle.broker_process.specs.Writing.{Writes}
use Rattle.broker_process.specs.declared.reply_write.Written.{Written}
use Rattle.broker_desk.specs.declared.progress.Progress.TheVariants.{Answers}
use Rattle.broker_process.proofs.ServingSteps.{never_left}
use Rattle.broker_process.proofs.service.MountService.handle.Goals as goal

-- the writes of one text in the place of both
both_written : (reply one other : List ℕ) (result : Written) (old new : Option (List ℕ)) → one ≡ reply → other ≡ reply → Writes one other result old new → Writes reply reply result old new
both_written reply one other result old new first second writes =
    subst (λ (text : List ℕ). Writes text reply result old new) first (subst (λ (text : List ℕ). Writes one text result old new) second writes)

-- an answer of the program's own is written as one text, which stands for the error too
pub returns-in-Answers : goal.returns-in-Answers
returns-in-Answers g c = record {
  handles = record {
    message = c.read_message.result;
    reads = c.read_message.ensures.reads;
    end = Answers c.in-Answers.reply;
    heard = c.in-Answers.ensures.heard;
    writes = (c.write_reply.result, c.handled_by.ensures.handled, both_written c.in-Answers.reply c.as_slice.result.now c.as_slice-in-Answers.result.now c.write_reply.result _ _ c.as_slice.ensures.bytes c.as_slice-in-Answers.ensures.bytes c.write_reply.ensures.writes);
  };
}

pub unreachable-requires : goal.unreachable-requires
unreachable-requires g c =
    let heard = c.in-Leaves.ensures.heard in
    never_left heard.0 c.read_message.result c.in-Leaves.field-0 heard.1
