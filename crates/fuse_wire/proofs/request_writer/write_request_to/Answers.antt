use Rattle.std.proofs.Common.{◌≤◌, length, sym, ap, subst, ◌∙◌, arith}
use Rattle.std.proofs.lemmas.Grind.{common_steps}
use Rattle.fuse_wire.specs.RequestBody.{body}
use Rattle.fuse_wire.specs.RequestReading.{request_of}
use Rattle.fuse_wire.specs.RequestText.{IsRequestText}
use Rattle.fuse_wire.proofs.OwnTexts.{own_text, own_text_again}
use Rattle.fuse_wire.proofs.request_writer.write_request_to.Goals as goal

pub returns-clause-text : goal.returns-clause-text
returns-clause-text c = grind (arith, common_steps)

pub returns-clause-is_text : goal.returns-clause-is_text
returns-clause-is_text c =
    let ask = c.args.ask.now in
    let short : length (body ask.what) ≤ 4104 = omega arith in
    subst (IsRequestText ask) (sym (returns-clause-text c)) (own_text ask short (c.body_len-len.ensures.is_body c.requires))

pub returns-clause-read_again : goal.returns-clause-read_again
returns-clause-read_again c =
    let ask = c.args.ask.now in
    let short : length (body ask.what) ≤ 4104 = omega arith in
    ap request_of (returns-clause-text c) ∙ own_text_again ask c.put_request.ensures.fits short (c.body_len-len.ensures.is_body c.requires)
