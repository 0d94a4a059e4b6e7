use Rattle.std.proofs.Common.{◌≡◌, inl, length, arith}
use Rattle.flow_networks.specs.Graphs.{states_of}
use Rattle.flow_networks.proofs.EdgeKinds.{edges_take_still}
use Rattle.flow_networks.proofs.Shapes.{shape_refl, shape_then}
use Rattle.flow_networks.proofs.Passes.{pass_over_running}
use Rattle.flow_networks.proofs.serial.run_serial.Goals as goal

pub passes-init : goal.passes-init
passes-init g c =
    let count : c.nodes.result ≡ length (states_of c.args.graph.now) = c.nodes.ensures in
    record {
      shape = shape_refl g.E.Ends.same g.E.Ends.view g.met.E.Ends.same_refl c.args.graph.now c.args.ends.now;
      reached = c.requires.reached;
      below = λ i d low. omega (arith, count, c.in_ok-running.ensures.below i d low);
      others = λ k inside. inl (c.in_ok-running.ensures.all k (omega (arith, count, inside)));
      more = omega arith;
    }

pub pass_over-requires-clause-kinds : goal.pass_over-requires-clause-kinds
pass_over-requires-clause-kinds g c = edges_take_still g.met.T.Transducer.laws c.passes.invariant.shape c.requires.kinds

pub returns-in_err-moved-clause-shape : goal.returns-in_err-moved-clause-shape
returns-in_err-moved-clause-shape g c =
    shape_then g.E.Ends.same g.E.Ends.view g.met.E.Ends.same_trans c.args.graph.now c.args.ends.now c.passes.graph c.passes.ends c.pass_over.new.graph
    c.pass_over.new.ends c.passes.invariant.shape c.pass_over.ensures.shape

pub returns-then-not-moved-clause-shape : goal.returns-then-not-moved-clause-shape
returns-then-not-moved-clause-shape g c =
    shape_then g.E.Ends.same g.E.Ends.view g.met.E.Ends.same_trans c.args.graph.now c.args.ends.now c.passes.graph c.passes.ends c.pass_over.new.graph
    c.pass_over.new.ends c.passes.invariant.shape c.pass_over.ensures.shape

pub returns-then-not-moved-clause-run : goal.returns-then-not-moved-clause-run
returns-then-not-moved-clause-run g c =
    let inv = c.passes.invariant in
    let on = pass_over_running g.E.WholeEnds.capacity g.met.E.WholeEnds.same_capacity inv.shape c.pass_over.ensures.shape inv.reached
    c.deref.ensures.value c.in_ok-moved.moved c.in_ok-moved.ensures.visits in
    on.ends c.if-not-moved.true inv.others

pub passes-smaller-then-left-eq0 : goal.passes-smaller-then-left-eq0
passes-smaller-then-left-eq0 g c =
    let inv = c.passes.invariant in
    let on = pass_over_running g.E.WholeEnds.capacity g.met.E.WholeEnds.same_capacity inv.shape c.pass_over.ensures.shape inv.reached
    c.deref.ensures.value c.in_ok-moved.moved c.in_ok-moved.ensures.visits in
    on.falls g.met.T.Transducer.laws.settles c.if-not-moved.false

pub passes-smaller : goal.passes-smaller
passes-smaller g c =
    let inv = c.passes.invariant in
    let on = pass_over_running g.E.WholeEnds.capacity g.met.E.WholeEnds.same_capacity inv.shape c.pass_over.ensures.shape inv.reached
    c.deref.ensures.value c.in_ok-moved.moved c.in_ok-moved.ensures.visits in
    on.falls g.met.T.Transducer.laws.settles c.if-not-moved.false

pub passes-preserved-then-left-eq0 : goal.passes-preserved-then-left-eq0
passes-preserved-then-left-eq0 g c =
    let inv = c.passes.invariant in
    let on = pass_over_running g.E.WholeEnds.capacity g.met.E.WholeEnds.same_capacity inv.shape c.pass_over.ensures.shape inv.reached
    c.deref.ensures.value c.in_ok-moved.moved c.in_ok-moved.ensures.visits in
    record {
      shape = shape_then g.E.Ends.same g.E.Ends.view g.met.E.Ends.same_trans c.args.graph.now c.args.ends.now c.passes.graph c.passes.ends
          c.pass_over.new.graph c.pass_over.new.ends inv.shape c.pass_over.ensures.shape;
      reached = on.reached;
      below = c.drop_over.ensures.below;
      others = on.others inv.others c.drop_over.new.nodes.items c.drop_over.ensures.others;
      more = omega arith;
    }

pub passes-preserved : goal.passes-preserved
passes-preserved g c =
    let inv = c.passes.invariant in
    let on = pass_over_running g.E.WholeEnds.capacity g.met.E.WholeEnds.same_capacity inv.shape c.pass_over.ensures.shape inv.reached
    c.deref.ensures.value c.in_ok-moved.moved c.in_ok-moved.ensures.visits in
    record {
      shape = shape_then g.E.Ends.same g.E.Ends.view g.met.E.Ends.same_trans c.args.graph.now c.args.ends.now c.passes.graph c.passes.ends
          c.pass_over.new.graph c.pass_over.new.ends inv.shape c.pass_over.ensures.shape;
      reached = on.reached;
      below = λ i d low. omega (arith, inv.below i d low, c.pass_over.ensures.shape.network.nodes);
      others = on.others inv.others c.passes.running.items (λ k has. inl has);
      more = omega (arith, c.if-left-eq0.false);
    }
