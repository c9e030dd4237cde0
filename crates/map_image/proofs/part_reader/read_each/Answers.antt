use Rattle.std.proofs.Common.{ℕ, List, ◌++◌, sym, ap₂, ◌∙◌}
use Rattle.map_image.proofs.PartReaderLaws.{concat_taken}
use Rattle.map_image.proofs.part_reader.read_each.Goals as goal

pub loop-part-preserved : goal.loop-part-preserved
loop-part-preserved c =
    c.in_ok-read_one.ensures
    ∙ ap₂ (λ (read part : List ℕ). read ++ part) c.loop-part.invariant c.as_slice.ensures.bytes
    ∙ sym (concat_taken c.args.parts.now c.loop-part.part-index c.part-item.result c.loop-part-test.true c.part-item.is)
