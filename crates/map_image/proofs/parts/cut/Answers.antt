-- A part is cut off.
use Rattle.std.proofs.Common.{◌≡◌, ℕ, List, rules, sym, ap, ◌∙◌}
use Rattle.std.specs.Prelude.{take, drop}
use Rattle.std.proofs.lemmas.List.{drop-drop}
use Rattle.map_image.specs.Versions.{part_len}
use Rattle.map_image.proofs.CuttingSteps.{goes_on}
use Rattle.map_image.proofs.parts.cut.Goals as goal

pub loop-rest-preserved : goal.loop-rest-preserved
loop-rest-preserved c =
    let owned : c.in_ok-whole.whole.value.items ≡ c.args.text.items = search rules in
    let part : c.in_ok-shared.field-0 ≡ take part_len c.loop-rest.rest.now =
    c.in_ok-shared.ensures.bytes ∙ ap (λ (l : List ℕ). take part_len (drop c.loop-rest.from l)) owned ∙ ap (take part_len) (sym c.loop-rest.invariant.at) in
    record {
      some = search rules;
      at = c.split_at.ensures.back ∙ ap (drop part_len) c.loop-rest.invariant.at ∙ drop-drop part_len c.loop-rest.from c.args.text.items;
      within = search rules;
      room = search rules;
      parts = goes_on c.args.text.items c.loop-rest.rest.now c.in_ok-shared.field-0 c.split_at.result.1.now c.loop-rest.parts.items c.push_reserved.new.self.items (search rules) part c.split_at.ensures.back c.push_reserved.ensures.items c.loop-rest.invariant.parts;
    }
