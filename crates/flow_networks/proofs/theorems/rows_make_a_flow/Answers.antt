use Rattle.flow_networks.specs.Graphs.{states_of, edges_of}
use Rattle.flow_networks.proofs.Flows.{rows_make_a_flow, flow_has_rows}
use Rattle.flow_networks.proofs.theorems.rows_make_a_flow.Goals as goal

pub returns : goal.returns
returns g c =
    let graph = c.args.graph.now in
    let b = g.T.Transducer.behaviour in
    record {
      flow = rows_make_a_flow b (states_of graph) (edges_of graph);
      rows = flow_has_rows b (states_of graph) (edges_of graph);
    }
