use Rattle.std.proofs.Common.{◌<◌, length, arith}
use Rattle.flow_base.proofs.Carried.{same_ends_then}
use Rattle.flow_base.proofs.Visits.{left_alone}
use Rattle.flow_base.proofs.Kernels.{alone_looked}
use Rattle.flow_base.proofs.certain.look_for_messages.Goals as goal

pub loop-edge-preserved : goal.loop-edge-preserved
loop-edge-preserved g c =
    let view = g.E.Ends.view in
    let edges = c.args.edges.now in
    let a = view c.args.ends.now in
    let v = view c.loop-edge.ends in
    let w = view c.ready.new.self in
    let inv = c.loop-edge.invariant in
    let there : c.loop-edge.edge-index < length edges = omega (arith, c.loop-edge-test.true) in
    record {
      same = g.met.E.Ends.same_trans c.args.ends.now c.loop-edge.ends c.ready.new.self inv.same c.ready.ensures.same;
      ends = same_ends_then a v w inv.ends c.ready.ensures.looked.ends;
      looked = λ outputs. left_alone edges outputs a v w (inv.looked outputs) (alone_looked edges outputs v w c.loop-edge.edge-index there c.ready.ensures.looked);
    }
