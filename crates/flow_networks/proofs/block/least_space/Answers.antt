use Rattle.std.proofs.Common.{rules, ◌<◌, ◌≤◌, length, arith}
use Rattle.flow_base.proofs.Carried.{same_ends_then}
use Rattle.flow_base.proofs.Visits.{left_alone}
use Rattle.flow_base.proofs.Kernels.{alone_room}
use Rattle.flow_networks.proofs.BlockEdges.{least_room}
use Rattle.flow_networks.proofs.block.least_space.Goals as goal

pub loop-edge-preserved : goal.loop-edge-preserved
loop-edge-preserved g c =
    let view = g.E.Ends.view in
    let edges = c.args.edges.now in
    let a = view c.args.ends.now in
    let v = view c.loop-edge.ends in
    let w = view c.space-space.new.self in
    let i = c.loop-edge.edge-index in
    let inv = c.loop-edge.invariant in
    let looked = c.space-space.ensures.looked in
    let there : i < length edges = omega (arith, c.loop-edge-test.true) in
    let low : c.min-least.result ≤ c.loop-edge.least = search rules in
    let high : c.min-least.result ≤ c.space-space.result = search rules in
    record {
      same = g.met.E.Ends.same_trans c.args.ends.now c.loop-edge.ends c.space-space.new.self inv.same c.space-space.ensures.same;
      ends = same_ends_then a v w inv.ends looked.ends;
      looked = λ inputs. left_alone inputs edges a v w (inv.looked inputs) (alone_room inputs edges v w i there looked);
      room = least_room edges v w i c.loop-edge.least c.space-space.result c.min-least.result looked inv.room c.space-space.ensures.value low high;
      most = omega (arith, low, inv.most);
    }
