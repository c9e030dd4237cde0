use Rattle.std.proofs.Common.{sym, ap, ◌∙◌}
use Rattle.std.specs.Vec.{vec_ptr}
use Rattle.node_arena.specs.Addresses.{address_of}
use Rattle.node_arena.specs.Region.{count_of}
use Rattle.node_arena.proofs.Addresses.{leads}
use Rattle.node_arena.proofs.region.Region.link.Goals as goal

pub returns : goal.returns
returns g c =
    let r = c.args.self.now in let start = vec_ptr r.nodes in
    leads start r.stride.bytes (count_of r) c.args.index c.address.result c.address.ensures.block c.requires.0.positive
    (c.address.ensures.value ∙ ap (λ n. address_of start n c.args.index) (sym c.measures.ensures)) c.requires.1
