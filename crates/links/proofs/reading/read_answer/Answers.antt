use Rattle.links.proofs.ReadingLaws.{head_read, joined_fault}
use Rattle.links.proofs.reading.read_answer.Goals as goal

pub returns-in-Err-read_answer_body-clause-gives : goal.returns-in-Err-read_answer_body-clause-gives
returns-in-Err-read_answer_body-clause-gives g c =
    let head = head_read _ _ c.read_head.new.head c.in-Ok-Some.field-0 c.in-Ok-Some.len c.in-Ok-Some.field-0-is c.in-Ok-Some.ensures.head in
    joined_fault _ _ _ c.read_head.new.head c.in-Err-read_answer_body.fault head c.in-Err-read_answer_body.ensures.behind
