use Rattle.std.proofs.Common.{ℕ, refl, sym, ap, ◌∙◌}
use Rattle.std.specs.Vec.{vec_ptr}
use Rattle.node_arena.specs.Addresses.{index_of}
use Rattle.node_arena.specs.Region.{node_at}
use Rattle.node_arena.specs.RegionLends.{with_node}
use Rattle.node_arena.proofs.region.Region.node_mut.Goals as goal

pub returns : goal.returns
returns g c =
    let r = c.args.self.now in let at = λ (bytes : ℕ). index_of (vec_ptr r.nodes) bytes c.args.link.to in let known = c.measures.ensures in
    ((refl, λ w. ap (λ (bytes : ℕ). with_node r (at bytes) w) (sym known)), record { writes_back = tt; value = ap (λ (bytes : ℕ). node_at r (at bytes)) known ∙ c.follow_mut.ensures.value })
