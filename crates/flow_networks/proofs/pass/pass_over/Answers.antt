use Rattle.std.proofs.Common.{◌≡◌, ◌||◌, ◌+◌, Bool, [], ◌∷◌, ◌++◌, take, get_or, add-one, arith, ap, subst, sym, ◌∙◌}
use Rattle.std.proofs.lemmas.List.{take_all}
use Rattle.std.proofs.Math.Seq.{take-suc}
use Rattle.flow_networks.specs.Graphs.{states_of, edges_of}
use Rattle.flow_networks.proofs.EdgeKinds.{edges_take_still}
use Rattle.flow_networks.proofs.Nets.{graph_wired}
use Rattle.flow_networks.proofs.Shapes.{shape_refl, shape_then}
use Rattle.flow_networks.specs.Visits.{Visits}
use Rattle.flow_networks.proofs.VisitedGraphs.{visits_none, visits_push}
use Rattle.flow_networks.proofs.pass.pass_over.Goals as goal

pub visit-requires-clause-kinds : goal.visit-requires-clause-kinds
visit-requires-clause-kinds g c = edges_take_still g.met.T.Transducer.laws c.loop-node.invariant.shape c.requires.kinds

pub returns-in_err-moved-clause-shape : goal.returns-in_err-moved-clause-shape
returns-in_err-moved-clause-shape g c =
    shape_then g.E.Ends.same g.E.Ends.view g.met.E.Ends.same_trans c.args.graph.now c.args.ends.now c.loop-node.graph c.loop-node.ends
    c.visit.new.self c.visit.new.ends c.loop-node.invariant.shape c.visit.ensures.shape

pub loop-node-init : goal.loop-node-init
loop-node-init g c =
    let graph = c.args.graph.now in
    let ends = c.args.ends.now in
    record {
      shape = shape_refl g.E.Ends.same g.E.Ends.view g.met.E.Ends.same_refl graph ends;
      visits = visits_none g.T.Transducer.behaviour (g.E.WholeEnds.capacity ends) (states_of graph) (edges_of graph) (g.E.Ends.view ends);
      some = λ h. cc;
    }

pub loop-node-preserved : goal.loop-node-preserved
loop-node-preserved g c =
    let b = g.T.Transducer.behaviour in
    let graph = c.args.graph.now in
    let states = states_of graph in
    let edges = edges_of graph in
    let view = g.E.Ends.view c.args.ends.now in
    let states' = states_of c.loop-node.graph in
    let edges' = edges_of c.loop-node.graph in
    let view' = g.E.Ends.view c.loop-node.ends in
    let states'' = states_of c.visit.new.self in
    let view'' = g.E.Ends.view c.visit.new.ends in
    let i = c.loop-node.node-index in
    let nodes = c.args.nodes.now in
    let inv = c.loop-node.invariant in
    let capacity = g.E.WholeEnds.capacity c.args.ends.now in
    let capacity' = g.E.WholeEnds.capacity c.loop-node.ends in
    let even : capacity' ≡ capacity = g.met.E.WholeEnds.same_capacity c.args.ends.now c.loop-node.ends inv.shape.same in
    let one : Bool = c.in_ok-moved.field-0 in
    let pushed : Visits b capacity (take i nodes ++ get_or nodes i 0 ∷ []) edges states view states'' view'' (c.loop-node.moved || one) =
    visits_push b capacity states edges view (graph_wired graph) states' edges' view' inv.shape.network capacity' even (take i nodes)
    (get_or nodes i 0) states'' view'' c.loop-node.moved one inv.visits c.in_ok-moved.ensures.visits in
    let longer : take (i + 1) nodes ≡ take i nodes ++ get_or nodes i 0 ∷ [] = ap (λ n. take n nodes) (add-one i) ∙ take-suc nodes i 0 c.loop-node-test.true in
    record {
      shape = shape_then g.E.Ends.same g.E.Ends.view g.met.E.Ends.same_trans c.args.graph.now c.args.ends.now c.loop-node.graph c.loop-node.ends
          c.visit.new.self c.visit.new.ends c.loop-node.invariant.shape c.visit.ensures.shape;
      visits = subst (λ l. Visits b capacity l edges states view states'' view'' (c.loop-node.moved || one)) (sym longer) pushed;
      some = λ h. omega arith;
    }

pub returns-clause-visits : goal.returns-clause-visits
returns-clause-visits g c =
    let nodes = c.args.nodes.now in
    let graph = c.args.graph.now in
    let all : take c.loop-node.node-index nodes ≡ nodes = take_all c.loop-node.node-index nodes c.loop-node-test.false in
    subst (λ l. Visits g.T.Transducer.behaviour (g.E.WholeEnds.capacity c.args.ends.now) l (edges_of graph) (states_of graph)
    (g.E.Ends.view c.args.ends.now) (states_of c.loop-node.graph) (g.E.Ends.view c.loop-node.ends) c.loop-node.moved) all
    c.loop-node.invariant.visits
