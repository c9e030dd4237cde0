use Rattle.std.proofs.Common.{◌≡◌, true, false, sym, ap, ◌∙◌, arith}
use Rattle.map_image.specs.ImageReading.{are_of_use}
use Rattle.map_image.proofs.ReadingLaws.{all_used, not_used}
use Rattle.map_image.proofs.reading.Reading.finish.Goals as goal

pub returns-then-not-all_of_use : goal.returns-then-not-all_of_use
returns-then-not-all_of_use c =
    let used : are_of_use c.args.self.entries.items ≡ false = sym (c.all_of_use.ensures ∙ ap are_of_use c.as_slice.ensures.value) ∙ c.if-not-all_of_use.true in
    let other = c.in-AtLinks-default-eq0 in
    (λ e. absurd cc, not_used c.args.self c.in-AtLinks-default-eq0.header c.in-AtLinks-default-eq0.left c.in-AtLinks-default-eq0.is (omega (arith, c.in-AtLinks-default-eq0.left-test)) used)

pub returns : goal.returns
returns c =
    let used : are_of_use c.args.self.entries.items ≡ true = sym (c.all_of_use.ensures ∙ ap are_of_use c.as_slice.ensures.value) ∙ c.if-not-all_of_use.false in
    rw (c.of.ensures.entries, c.of-2.ensures.files, c.of-3.ensures.links) (all_used c.args.self c.in-AtLinks-default-eq0.header c.in-AtLinks-default-eq0.left c.in-AtLinks-default-eq0.is (omega (arith, c.in-AtLinks-default-eq0.left-test)) used)
