-- The tiers have the number at the key, or what they had.
use Rattle.std.proofs.Common.{rules, ap, sym, ◌∙◌}
use Rattle.std.specs.FinMap.{get, insert}
use Rattle.key_map.specs.Map.{in_tiers, Numbers}
use Rattle.key_map.proofs.MapLemmas.{get-numbers_of, insert-numbers, same-numbers}
use Rattle.key_map.proofs.key_map.KeyMap.insert.Goals as goal

pub insert-requires : goal.insert-requires
unfolding in_tiers
insert-requires c = record {
  free = sym (get-numbers_of c.self.inside c.args.key) ∙ ap (λ (m : Numbers). get m c.args.key) (c.self.view_is ∙ c.in_ok-make_room.ensures.same) ∙ c.requires.free;
  single = c.self.invariant;
}

pub returns-in_err-insert-clause-err : goal.returns-in_err-insert-clause-err
unfolding in_tiers
returns-in_err-insert-clause-err c =
    let same = same-numbers c.self.inside (record { tiers = c.insert.new.self; held = c.self.inside.held }) c.in_err-insert.ensures.err ∙ c.self.view_is ∙ c.in_ok-make_room.ensures.same in
    rw same (search rules)

pub returns-clause-ok : goal.returns-clause-ok
unfolding in_tiers
returns-clause-ok c =
    insert-numbers c.self.inside (record { tiers = c.insert.new.self; held = c.saturating_add-self-inside.result }) c.args.key c.args.number c.in_ok-insert.ensures.ok
    ∙ ap (λ (m : Numbers). insert m c.args.key c.args.number) (c.self.view_is ∙ c.in_ok-make_room.ensures.same)
