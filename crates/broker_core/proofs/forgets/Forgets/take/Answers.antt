use Rattle.std.proofs.Common.{◌≡◌, length, ap, ◌-◌, ◌∙◌, arith}
use Rattle.std.proofs.lemmas.List.{length-drop}
use Rattle.broker_core.proofs.forgets.Forgets.take.Goals as goal

pub invariant_of-self-2 : goal.invariant_of-self-2
invariant_of-self-2 c =
    let left : length c.first_items-first.new.items.items ≡ length c.self.inside.items.items - 256 = ap length c.first_items-first.ensures.left ∙ length-drop 256 c.self.inside.items.items in
    omega (arith, left, c.first_items-first.new.items.ok.0, c.self.inside.items.ok.0, c.in-Some.ensures.len, c.self.invariant)
