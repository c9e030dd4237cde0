use Rattle.std.specs.Mem.{type_size}
use denote.Param.{param}
use Rattle.node_arena.specs.contracts.region.ArenaNode as node
use Rattle.node_arena.proofs.Filling.{AreFresh}
use Rattle.node_arena.proofs.region.Region.new.Given as goal

abbrev pub invariant-loop-index : goal.invariant-loop-index
invariant-loop-index g l = AreFresh (type_size (node.the_row (param 0 g.row.T))) l.start l.nodes l.first l.last l.count l.index
