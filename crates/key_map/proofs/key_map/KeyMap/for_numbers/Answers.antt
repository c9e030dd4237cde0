-- No tier has a number, and the tree has none.
use Rattle.std.proofs.Common.{ap, ◌∙◌}
use Rattle.std.specs.BTreeMap.{get}
use Rattle.std.specs.Ordering.{nat_cmp}
use Rattle.key_map.proofs.MapLemmas.{empty-tiers, none-numbers}
use Rattle.key_map.proofs.key_map.KeyMap.for_numbers.Goals as goal

pub returns : goal.returns
returns c = record {
  empty = none-numbers (record { tiers = c.over-tiers.result; held = 0 })
      (empty-tiers (record { tiers = c.over-tiers.result; held = 0 }) c.over-tiers.ensures.empty
      (ap (λ t. t.buckets.items) c.over-tiers.ensures.rest ∙ c.over-second.ensures.empty)
      (ap (λ t. t.rest.buckets.items) c.over-tiers.ensures.rest ∙ ap (λ t. t.buckets.items) c.over-second.ensures.rest ∙ c.over-third.ensures.empty)
      (λ q. ap (λ t. get nat_cmp t.rest.rest.numbers q) c.over-tiers.ensures.rest ∙ ap (λ t. get nat_cmp t.rest.numbers q) c.over-second.ensures.rest
      ∙ ap (λ t. get nat_cmp t.numbers q) c.over-third.ensures.rest ∙ c.new.ensures.empty q));
}
