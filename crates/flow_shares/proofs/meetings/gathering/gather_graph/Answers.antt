use Rattle.std.proofs.Common.{sym, subst}
use Rattle.flow_networks.specs.Places.{states_in}
use Rattle.flow_networks.specs.Graphs.{states_of, edges_of}
use Rattle.flow_networks.specs.Skeletons.{FitTogether}
use Rattle.flow_networks.specs.Shapes.{IsSameNetwork}
use Rattle.flow_shares.specs.Deals.{lists_in}
use Rattle.flow_shares.specs.meetings.Joints.{AreStates}
use Rattle.flow_shares.specs.meetings.Deals.{nodes_in}
use Rattle.flow_shares.proofs.OfMeetings.Gathers.{they_fit, openings, are}
use Rattle.flow_shares.proofs.meetings.gathering.gather_graph.Goals as goal

pub put_together-requires : goal.put_together-requires
put_together-requires g c =
    let clauses = c.requires.1.1 in
    let lists = c.in_ok-lists in
    let nodes = c.in_ok-nodes in
    subst (λ e. FitTogether nodes.nodes.items e) (sym clauses.1.1.1.0)
    (they_fit g.network c.args.shares.items clauses.1.1.1.1 c.args.share.now clauses.1.1.0 (lists_in lists.lists.items) lists.ensures.nodes
    nodes.nodes.items nodes.ensures.nodes nodes.ensures.places g.met.T.Transducer.laws)

pub returns-clause-network : goal.returns-clause-network
returns-clause-network g c =
    let clauses = c.requires.1.1 in
    let lists = c.in_ok-lists in
    let nodes = c.in_ok-nodes in
    subst (λ e. IsSameNetwork g.T.Transducer.behaviour (states_in g.network.nodes) e (states_of c.put_together.result) (edges_of c.put_together.result)) clauses.1.1.1.0
    (c.put_together.ensures.network (states_in g.network.nodes)
    (openings g.network c.args.shares.items clauses.1.1.1.1 c.args.share.now clauses.1.1.0 (lists_in lists.lists.items) lists.ensures.nodes nodes.nodes.items nodes.ensures.nodes nodes.ensures.places))

pub returns-clause-states : goal.returns-clause-states
returns-clause-states g c deals =
    let clauses = c.requires.1.1 in
    let lists = c.in_ok-lists in
    let nodes = c.in_ok-nodes in
    subst (λ states. AreStates g.network.share g.network.nodes (nodes_in c.args.shares.items) deals states) (sym c.put_together.ensures.nodes)
    (are g.network c.args.shares.items deals c.args.share.now clauses.1.1.0 (lists_in lists.lists.items) lists.ensures.nodes nodes.nodes.items nodes.ensures.nodes nodes.ensures.places)
