use Rattle.std.proofs.Common.{arith}
use Rattle.flow_graph.specs.Graphs.{states_of, edges_of}
use Rattle.flow_graph.specs.Settling.{settled_graph, settled_traffic}
use Rattle.flow_graph.specs.StreamNodes.{node_behaviour}
use Rattle.callers.proofs.Carrying.{held_at_end}
use Rattle.callers.proofs.graph.carried.Goals as goal

pub returns-clause-received : goal.returns-clause-received
returns-clause-received c =
    let graph = c.build.result in
    let settled = c.in_ok-settled.settled in
    let held = held_at_end node_behaviour c.args.capacity (states_of graph) (edges_of graph) (states_of (settled_graph settled)) (settled_traffic settled) c.in_ok-settled.ensures.run in
    omega (arith, held.received c.in_ok-number.number, c.counts.ensures.sent, c.counts.ensures.received)

pub returns-clause-held : goal.returns-clause-held
returns-clause-held c =
    let graph = c.build.result in
    let settled = c.in_ok-settled.settled in
    let held = held_at_end node_behaviour c.args.capacity (states_of graph) (edges_of graph) (states_of (settled_graph settled)) (settled_traffic settled) c.in_ok-settled.ensures.run in
    omega (arith, held.sent c.in_ok-number.number, c.counts.ensures.sent, c.counts.ensures.received)
