use Rattle.std.proofs.Common.{refl, subst}
use Rattle.flow_messages.specs.Whole.{IsWhole}
use Rattle.flow_networks.proofs.BlockNodes.{node_takes}
use Rattle.flow_networks.proofs.GraphNodes.{is_node, later_openings, later_built, later_seated}
use Rattle.flow_networks.proofs.NodeEnds.{all_graph_ends, ends_reads, ends_writes}
use Rattle.flow_networks.proofs.Reached.{if_ok_if, on_err}
use Rattle.flow_networks.proofs.Shapes.{shape_opened}
use Rattle.flow_networks.proofs.Visits.{node_visits, node_broke}
use Rattle.flow_networks.proofs.graph.Graph.visit.Goals as goal

pub run-requires-clause-reads : goal.run-requires-clause-reads
run-requires-clause-reads g c =
    let at = is_node c.args.self.now c.args.node c.index_mut.result.now c.requires.inside c.index_mut.ensures.value in
    ends_reads at (g.E.Ends.view c.args.ends.now) (all_graph_ends c.args.self.now (g.E.Ends.view c.args.ends.now) c.requires.ends c.args.node)

pub run-requires-clause-writes : goal.run-requires-clause-writes
run-requires-clause-writes g c =
    let at = is_node c.args.self.now c.args.node c.index_mut.result.now c.requires.inside c.index_mut.ensures.value in
    ends_writes at (g.E.Ends.view c.args.ends.now) (all_graph_ends c.args.self.now (g.E.Ends.view c.args.ends.now) c.requires.ends c.args.node)

pub run-requires-clause-kinds : goal.run-requires-clause-kinds
run-requires-clause-kinds g c =
    let at = is_node c.args.self.now c.args.node c.index_mut.result.now c.requires.inside c.index_mut.ensures.value in
    node_takes at (g.E.Ends.view c.args.ends.now) (c.requires.kinds c.args.node c.requires.inside)

pub invariant_of-self : goal.invariant_of-self
invariant_of-self g c =
    let at = is_node c.args.self.now c.args.node c.index_mut.result.now c.requires.inside c.index_mut.ensures.value in
    let place = c.run.ensures.place in
    record { built = later_built at c.run.new.self place g.met.T.Transducer.laws; seated = later_seated at c.run.new.self place }

pub returns-clause-shape : goal.returns-clause-shape
returns-clause-shape g c =
    let at = is_node c.args.self.now c.args.node c.index_mut.result.now c.requires.inside c.index_mut.ensures.value in
    shape_opened g.E.Ends.same g.E.Ends.view g.met.T.Transducer.laws c.args.self.now c.args.ends.now _ c.run.new.ends c.run.ensures.same c.run.ensures.ends
    (later_openings at c.run.new.self c.run.ensures.place) refl

pub returns-clause-visits : goal.returns-clause-visits
returns-clause-visits g c =
    let at = is_node c.args.self.now c.args.node c.index_mut.result.now c.requires.inside c.index_mut.ensures.value in
    let view = g.E.Ends.view in
    let ends = c.args.ends.now in
    let ends' = c.run.new.ends in
    let capacity = g.E.WholeEnds.capacity ends in
    let whole : IsWhole capacity (view ends') =
    subst (λ n. IsWhole n (view ends')) (g.met.E.WholeEnds.same_capacity ends ends' c.run.ensures.same) (g.met.E.WholeEnds.whole ends') in
    if_ok_if _ _ c.run.result
    (node_visits g.met.T.Transducer.laws at c.run.new.self c.run.ensures.place (view ends) (view ends') capacity whole c.run.ensures.ends c.requires.ends)
    c.run.ensures.visited

pub returns-clause-broke : goal.returns-clause-broke
returns-clause-broke g c =
    let at = is_node c.args.self.now c.args.node c.index_mut.result.now c.requires.inside c.index_mut.ensures.value in
    let view = g.E.Ends.view in
    on_err c.run.result
    (node_broke g.met.T.Transducer.laws at c.run.new.self c.run.ensures.place (view c.args.ends.now) (view c.run.new.ends)) c.run.ensures.broke
