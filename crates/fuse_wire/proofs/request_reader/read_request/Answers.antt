use Rattle.std.proofs.Common.{subst, arith, true}
use Rattle.fuse_wire.specs.Reading.{Gives}
use Rattle.fuse_wire.specs.RequestReading.{WantsMemory, request_of}
use Rattle.fuse_wire.proofs.Lacking.{as_given}
use Rattle.fuse_wire.proofs.Requests.{is_text, may_be_sent, request_again}
use Rattle.fuse_wire.proofs.request_reader.read_request.Goals as goal

pub returns-clause-text : goal.returns-clause-text
returns-clause-text c = is_text c.args.bytes.now c.read_ask.result (λ i. omega (arith, c.type_inv.bytes i)) (as_given true WantsMemory c.read_ask.result (request_of c.args.bytes.now) c.read_ask.ensures)

pub returns-clause-only : goal.returns-clause-only
returns-clause-only c = λ ask fits is. subst (Gives WantsMemory c.read_ask.result) (request_again ask c.args.bytes.now fits is) (as_given true WantsMemory c.read_ask.result (request_of c.args.bytes.now) c.read_ask.ensures)

pub returns-clause-sendable : goal.returns-clause-sendable
returns-clause-sendable c = may_be_sent c.args.bytes.now c.read_ask.result (is_text c.args.bytes.now c.read_ask.result (λ i. omega (arith, c.type_inv.bytes i)) (as_given true WantsMemory c.read_ask.result (request_of c.args.bytes.now) c.read_ask.ensures))

pub returns-clause-exact : goal.returns-clause-exact
returns-clause-exact c = as_given true WantsMemory c.read_ask.result (request_of c.args.bytes.now) c.read_ask.ensures
