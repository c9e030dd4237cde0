use Rattle.std.proofs.Common.{◌≡◌, ℕ, ◌≤◌, ◌∙◌, refl, sym, ap, subst, arith}
use Rattle.std.specs.Mem.{type_size}
use denote.Param.{param}
use Rattle.node_arena.specs.Addresses.{address_of}
use Rattle.node_arena.specs.contracts.region.ArenaNode as node
use Rattle.node_arena.specs.declared.node_content.NodeContent.TheVariants.{Vacant}
use Rattle.node_arena.specs.declared.links.Link.{Link}
use Rattle.node_arena.specs.declared.region.ArenaNode.{ArenaNode}
use Rattle.node_arena.specs.declared.region.Region.{Region}
use Rattle.node_arena.proofs.Filling.{AreFresh, some_bytes, fresh_more, fresh_laid_out, fresh_blank}
use Rattle.node_arena.proofs.region.Region.new.Goals as goal

pub loop-index-preserved : goal.loop-index-preserved
loop-index-preserved g c =
    let bytes = type_size (node.the_row (param 0 g.row.T)) in let l = c.loop-index in let f = l.invariant in let start = c.as_ptr-start.result in
    let first : Link = record { to = c.address.result } in let last : Link = record { to = c.address-in-loop-index.result } in
    let n : ArenaNode g.row.T.Denot = record { prev = first; next = l.last; content = Vacant l.index } in
    fresh_more bytes start l.nodes c.push_reserved.new.self first l.last last c.args.count l.index n f (f.leads_first, f.leads_last, refl)
    c.push_reserved.ensures.items c.push_reserved.ensures.len c.push_reserved.ensures.capacity c.push_reserved.ensures.in_place
    (c.address-in-loop-index.ensures.value ∙ ap (λ p. address_of p bytes l.index) (c.push_reserved.ensures.in_place ∙ sym f.here))

pub returns : goal.returns
returns g c =
    let r : Region g.row.T.Denot = record { nodes = c.loop-index.nodes; stride = c.new.result } in let l = c.loop-index in
    let start = c.as_ptr-start.result in let first : Link = record { to = c.address.result } in
    let f = subst (λ (n : ℕ). AreFresh n start l.nodes first l.last c.args.count l.index) (sym c.new.ensures) l.invariant in
    let pos = subst (λ (n : ℕ). 1 ≤ n) (sym c.new.ensures) (some_bytes g.row.T) in
    let all : l.index ≡ c.args.count = omega arith in
    (fresh_laid_out r start first l.last c.args.count l.index f all c.requires.0 pos, f.long ∙ all, fresh_blank r start first l.last c.args.count l.index f all c.requires.0 pos)
