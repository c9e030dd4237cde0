-- The tiers have at a key what the map has.
use Rattle.std.proofs.Common.{ap, sym, ◌∙◌}
use Rattle.std.specs.FinMap.{get}
use Rattle.key_map.specs.Map.{in_tiers, Numbers}
use Rattle.key_map.proofs.MapLemmas.{get-numbers_of}
use Rattle.key_map.proofs.key_map.KeyMap.get.Goals as goal

pub returns : goal.returns
unfolding in_tiers
returns c = record {
  number = c.get.ensures.number ∙ sym (get-numbers_of c.self.inside c.args.key) ∙ ap (λ (m : Numbers). get m c.args.key) c.self.view_is;
}
