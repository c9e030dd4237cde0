use Rattle.std.proofs.Common.{refl, sym, ap, ◌∙◌}
use Rattle.node_arena.specs.Region.{place_of, held_in}
use Rattle.node_arena.specs.RegionLends.{with_value_in}
use Rattle.node_arena.proofs.region.Region.value_mut.Goals as goal

pub returns : goal.returns
returns g c =
    let r = c.args.self.now in let i = place_of r c.args.link in let was = c.node_mut.ensures.value in
    ((refl, λ w. ap (λ o. with_value_in r o i w) (sym was)), record { writes_back = tt; value = ap (held_in r) was ∙ c.value_mut.ensures.value })
