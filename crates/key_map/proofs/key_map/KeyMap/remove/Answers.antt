-- The tiers have the number no more, or never had it.
use Rattle.std.proofs.Common.{ap, sym, ◌∙◌}
use Rattle.std.specs.FinMap.{get, remove}
use Rattle.key_map.specs.Cells.{is_number}
use Rattle.key_map.specs.Map.{in_tiers, Numbers}
use Rattle.key_map.proofs.MapLemmas.{get-numbers_of, remove-numbers, same-numbers}
use Rattle.key_map.proofs.key_map.KeyMap.remove.Goals as goal

pub returns-then-had-clause-had : goal.returns-then-had-clause-had
unfolding in_tiers
returns-then-had-clause-had c =
    c.remove-had.ensures.had ∙ ap (is_number c.args.number) (sym (get-numbers_of c.self.inside c.args.key) ∙ ap (λ (m : Numbers). get m c.args.key) c.self.view_is)

pub returns-then-had-clause-removed : goal.returns-then-had-clause-removed
unfolding in_tiers
returns-then-had-clause-removed c =
    rw c.if-had.true
    (remove-numbers c.self.inside (record { tiers = c.remove-had.new.self; held = c.saturating_sub-self-inside.result }) c.args.key c.if-had.ensures.removed
    ∙ ap (λ (m : Numbers). remove m c.args.key) c.self.view_is)

pub returns-else-had-clause-had : goal.returns-else-had-clause-had
unfolding in_tiers
returns-else-had-clause-had c =
    c.remove-had.ensures.had ∙ ap (is_number c.args.number) (sym (get-numbers_of c.self.inside c.args.key) ∙ ap (λ (m : Numbers). get m c.args.key) c.self.view_is)

pub returns-else-had-clause-removed : goal.returns-else-had-clause-removed
unfolding in_tiers
returns-else-had-clause-removed c =
    rw c.if-had.false (same-numbers c.self.inside (record { tiers = c.remove-had.new.self; held = c.self.inside.held }) c.if-had.ensures.removed ∙ c.self.view_is)
