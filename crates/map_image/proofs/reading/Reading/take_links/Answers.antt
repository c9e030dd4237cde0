use Rattle.std.proofs.Common.{refl, arith}
use Rattle.std.proofs.lemmas.Result.{err_from_is_err_and}
use Rattle.map_image.proofs.ReadingLaws.{links_cut, links_go, links_rest, links_stop, some_there}
use Rattle.map_image.proofs.reading.Reading.take_links.Goals as goal

pub returns-in_err-left-clause-reads : goal.returns-in_err-left-clause-reads
returns-in_err-left-clause-reads c =
    let p = err_from_is_err_and c.from_residual.result c.from_residual.ensures.1 in
    rw (p.1, p.2) (links_stop _ c.in-AtLinks.header c.in-AtLinks.left c.args.bytes.now c.in_err-left.field-0.0 c.in-AtLinks.is c.in_err-left.ensures.reads)

pub returns-then-left-gt0-clause-reads : goal.returns-then-left-gt0-clause-reads
returns-then-left-gt0-clause-reads c = links_go _ _ c.in-AtLinks.header c.in-AtLinks.left c.in_ok-left.left c.args.bytes.now c.in_ok-left.rest.now c.in-AtLinks.is refl refl refl c.in_ok-left.ensures.reads

pub returns-then-left-gt0-clause-cut : goal.returns-then-left-gt0-clause-cut
returns-then-left-gt0-clause-cut c = λ whole. links_cut _ c.in-AtLinks.header c.in_ok-left.left c.in_ok-left.rest.now refl (c.in_ok-left.ensures.reads.cut (λ none. omega arith))

pub returns-then-not-is_empty-clause-reads : goal.returns-then-not-is_empty-clause-reads
returns-then-not-is_empty-clause-reads c =
    links_rest _ c.more_links.new.links.items c.in-AtLinks.header c.in-AtLinks.left c.in_ok-left.left c.args.bytes.now c.in_ok-left.rest.now c.in-AtLinks.is (omega arith) (some_there c.in_ok-left.rest.now c.is_empty.result c.is_empty.ensures c.if-not-is_empty.true) c.in_ok-left.ensures.reads

pub returns-clause-reads : goal.returns-clause-reads
returns-clause-reads c = links_go _ _ c.in-AtLinks.header c.in-AtLinks.left c.in_ok-left.left c.args.bytes.now c.in_ok-left.rest.now c.in-AtLinks.is refl refl refl c.in_ok-left.ensures.reads
