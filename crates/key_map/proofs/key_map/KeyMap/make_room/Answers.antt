-- Wider tiers have what the tiers had.
use Rattle.std.proofs.Common.{◌∙◌}
use Rattle.key_map.specs.Map.{in_tiers}
use Rattle.key_map.proofs.MapLemmas.{same-numbers}
use Rattle.key_map.proofs.key_map.KeyMap.make_room.Goals as goal

pub returns-in_err-widen : goal.returns-in_err-widen
unfolding in_tiers
returns-in_err-widen c = record { same = same-numbers c.self.inside (record { tiers = c.widen.new.self; held = c.self.inside.held }) c.widen.ensures.same ∙ c.self.view_is }

pub returns-in_ok-widen : goal.returns-in_ok-widen
unfolding in_tiers
returns-in_ok-widen c = record { same = same-numbers c.self.inside (record { tiers = c.widen.new.self; held = c.self.inside.held }) c.widen.ensures.same ∙ c.self.view_is }
