use Rattle.std.proofs.Common.{[], subst, sym, ap, ◌∙◌, arith}
use Rattle.frames.specs.Reading.{Faulty, said_frame}
use Rattle.frames.specs.Kind.{IsPlain}
use Rattle.frames.proofs.AnswerLaws.{kind_read}
use Rattle.frames.proofs.LackingLaws.{body_says, parts_text}
use Rattle.frames.proofs.frame.Frame.of_parts.Goals as goal

pub returns-in-Ok-clause-read : goal.returns-in-Ok-clause-read
returns-in-Ok-clause-read c =
    body_says c.args.head.now c.args.body.now.items c.in-Some.kind c.requires.head c.requires.body (sym c.in-Some.ensures.kind)
    ∙ ap (λ read. said_frame read []) c.in-Ok.ensures.frame

pub returns-in-Ok-clause-text : goal.returns-in-Ok-clause-text
returns-in-Ok-clause-text c =
    parts_text c.args.head.now c.args.body.now.items c.in-Ok.frame (λ i. omega (arith, c.type_inv.head i)) c.in-Ok.ensures.bytes
    (body_says c.args.head.now c.args.body.now.items c.in-Some.kind c.requires.head c.requires.body (sym c.in-Some.ensures.kind)
    ∙ ap (λ read. said_frame read []) c.in-Ok.ensures.frame)

pub returns-in-Err-clause-read : goal.returns-in-Err-clause-read
returns-in-Err-clause-read c =
    body_says c.args.head.now c.args.body.now.items c.in-Some.kind c.requires.head c.requires.body (sym c.in-Some.ensures.kind)
    ∙ ap (λ read. said_frame read []) c.in-Err.ensures.frame.1
    ∙ ap Faulty (sym c.in-Err.ensures.frame.0)

pub returns-in-Ok-clause-plain : goal.returns-in-Ok-clause-plain
returns-in-Ok-clause-plain c plain =
    c.in-Ok.ensures.plain (subst IsPlain (kind_read c.in-Some.kind c.args.body.now.items c.in-Ok.frame c.in-Ok.ensures.bytes c.in-Ok.ensures.frame) plain)
