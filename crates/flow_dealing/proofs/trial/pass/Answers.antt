use Rattle.std.proofs.Common.{[], ◌∷◌}
use Rattle.flow_networks.proofs.EdgeKinds.{edges_take_still}
use Rattle.flow_networks.proofs.Passes.{pass_reached}
use Rattle.flow_networks.proofs.Shapes.{shape_then}
use Rattle.flow_dealing.proofs.trial.pass.Goals as goal

pub visit-requires-clause-kinds : goal.visit-requires-clause-kinds
visit-requires-clause-kinds g c = edges_take_still g.met.T.Transducer.laws c.loop-node.invariant.shape c.requires.kinds

pub returns-in_err-moved-clause-shape : goal.returns-in_err-moved-clause-shape
returns-in_err-moved-clause-shape g c =
    shape_then g.E.Ends.same g.E.Ends.view g.met.E.Ends.same_trans c.args.graph.now c.args.ends.now c.loop-node.graph c.loop-node.ends
    c.visit.new.self c.visit.new.ends c.loop-node.invariant.shape c.visit.ensures.shape

pub loop-node-preserved : goal.loop-node-preserved
loop-node-preserved g c =
    let graph = c.args.graph.now in
    let ends = c.args.ends.now in
    let now = c.loop-node in
    let new = c.visit.new in
    record {
      shape = shape_then g.E.Ends.same g.E.Ends.view g.met.E.Ends.same_trans graph ends now.graph now.ends new.self new.ends now.invariant.shape c.visit.ensures.shape;
      reached = pass_reached g.E.Ends.same g.E.Ends.view g.E.WholeEnds.capacity g.met.E.WholeEnds.same_capacity graph ends now.graph now.ends new.self new.ends
          now.invariant.shape now.invariant.reached (now.node ∷ []) c.in_ok-moved.field-0 c.in_ok-moved.ensures.visits;
    }
