use Rattle.std.proofs.Common.{◌<◌, ℕ}
use Rattle.flow_messages.specs.Kinds.{TakesKind}
use Rattle.flow_networks.specs.Edges.{out_edge}
use Rattle.flow_networks.specs.Graphs.{states_of, edges_of}
use Rattle.flow_networks.specs.Networks.{state_at}
use Rattle.flow_networks.proofs.graph.Graph.edges_take.Given as goal

-- the edges so far take items of their ports' kinds
abbrev pub invariant-loop-port : goal.invariant-loop-port
invariant-loop-port g l = (q : ℕ) → q < l.port →
    TakesKind ((g.E.Ends.view l.ends).kind (out_edge (edges_of l.self) l.node q))
    (g.T.Transducer.behaviour.kind_out (state_at g.T.Transducer.behaviour (states_of l.self) l.node) q)
