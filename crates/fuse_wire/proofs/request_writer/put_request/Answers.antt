use Rattle.std.proofs.Common.{◌≡◌, ◌∙◌, sym, rules, length, arith}
use Rattle.fuse_wire.specs.RequestText.{request_text}
use Rattle.fuse_wire.specs.Writing.{Puts}
use Rattle.fuse_wire.proofs.Written.{whole, written}
use Rattle.fuse_wire.proofs.request_writer.put_request.Goals as goal

pub returns-clause-text : goal.returns-clause-text
returns-clause-text c =
    let text = request_text c.args.ask.now in
    let put : Puts c.new-fields.result c.put_body.new.fields text = grind (arith, written) in
    let len : length c.new-fields.result.bytes.now ≡ length text = grind (arith, written) in
    let all : c.put_body.new.fields.bytes.now ≡ text = whole c.new-fields.result c.put_body.new.fields text c.new-fields.ensures.at len put in
    let same = put.same ∙ c.new-fields.ensures.same in
    search (rules, all, sym same) ∙ all
