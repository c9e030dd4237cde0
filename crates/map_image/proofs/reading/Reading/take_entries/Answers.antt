use Rattle.std.proofs.Common.{refl, arith}
use Rattle.std.proofs.lemmas.Result.{err_from_is_err_and}
use Rattle.map_image.proofs.ReadingLaws.{entries_cut, entries_end, entries_go, entries_stop, entries_wait}
use Rattle.map_image.proofs.reading.Reading.take_entries.Goals as goal

pub returns-in_err-left-clause-reads : goal.returns-in_err-left-clause-reads
returns-in_err-left-clause-reads c =
    let p = err_from_is_err_and c.from_residual.result c.from_residual.ensures.1 in
    rw (p.1, p.2) (entries_stop _ c.in-AtEntries.form c.in-AtEntries.header c.in-AtEntries.left c.args.bytes.now c.in_err-left.field-0.0 c.in-AtEntries.is c.in_err-left.ensures.reads)

pub returns-then-left-gt0-clause-reads : goal.returns-then-left-gt0-clause-reads
returns-then-left-gt0-clause-reads c = entries_go _ _ c.in-AtEntries.form c.in-AtEntries.header c.in-AtEntries.left c.in_ok-left.left c.args.bytes.now c.in_ok-left.rest.now c.in-AtEntries.is refl refl refl c.in_ok-left.ensures.reads

pub returns-then-left-gt0-clause-cut : goal.returns-then-left-gt0-clause-cut
returns-then-left-gt0-clause-cut c = λ le whole. entries_cut _ c.in-AtEntries.form c.in-AtEntries.header c.in_ok-left.left c.in_ok-left.rest.now refl (c.in_ok-left.ensures.reads.cut (λ none. omega arith))

pub returns-in-Ok-clause-reads : goal.returns-in-Ok-clause-reads
returns-in-Ok-clause-reads c = entries_end _ _ c.in-AtEntries.form c.in-AtEntries.header c.in-AtEntries.left c.in_ok-left.left c.in-Ok.count c.args.bytes.now c.in_ok-left.rest.now c.in-Ok.after.now c.in-AtEntries.is refl refl refl (omega arith) c.in_ok-left.ensures.reads c.in-Ok.ensures.field

pub returns-in-Err-clause-reads : goal.returns-in-Err-clause-reads
returns-in-Err-clause-reads c = entries_go _ _ c.in-AtEntries.form c.in-AtEntries.header c.in-AtEntries.left c.in_ok-left.left c.args.bytes.now c.in_ok-left.rest.now c.in-AtEntries.is refl refl refl c.in_ok-left.ensures.reads

pub returns-in-Err-clause-cut : goal.returns-in-Err-clause-cut
returns-in-Err-clause-cut c = λ le whole. entries_wait _ c.in-AtEntries.form c.in-AtEntries.header c.in_ok-left.left c.in_ok-left.rest.now refl (omega arith) c.in-Err.ensures.field.1
