use Rattle.flow_networks.specs.Graphs.{states_of, edges_of}
use Rattle.flow_networks.proofs.Nets.{graph_network}
use Rattle.flow_nodes.proofs.OfPlans.PlansOfFlows.{flow_is_plan}
use Rattle.flow_nodes.proofs.OfPlans.FlowsOfPlans.{plan_is_flow}
use Rattle.flow_nodes.proofs.plans.laws.plan_is_its_flow.Goals as goal

pub returns : goal.returns
returns g c =
    let graph = c.args.graph.now in
    let b = g.T.Transducer.behaviour in
    let laws = g.met.T.Transducer.laws in
    let states = states_of graph in
    let edges = edges_of graph in
    let net = graph_network graph laws in
    record { forth = plan_is_flow b laws states edges net graph.built.limits; back = flow_is_plan b laws states edges net graph.built.limits }
