use Rattle.std.proofs.Common.{◌≡◌, map, take}
use Rattle.flow_networks.specs.Graphs.{edges_of}
use Rattle.snesl_draw.specs.Networks.{drawn_edge}
use Rattle.snesl_draw.proofs.network.drawn_edges.Given as goal

abbrev pub invariant-loop-number : goal.invariant-loop-number
invariant-loop-number l = l.edges.items ≡ map (drawn_edge l.graph) (take l.number (edges_of l.graph))
