use Rattle.std.proofs.Common.{◌<◌, length, arith}
use Rattle.flow_messages.specs.Flats.{flat_signals}
use Rattle.flow_networks.proofs.BlockEdges.{put_on_next}
use Rattle.flow_networks.proofs.block.put_each.Goals as goal

pub loop-edge-preserved : goal.loop-edge-preserved
loop-edge-preserved g c =
    let view = g.E.Ends.view in
    let edges = c.args.edges.now in
    let i = c.loop-edge.edge-index in
    let inv = c.loop-edge.invariant in
    let there : i < length edges = omega (arith, c.loop-edge-test.true) in
    record {
      same = g.met.E.Ends.same_trans c.args.ends.now c.loop-edge.ends c.put_copy.new.ends inv.same c.put_copy.ensures.same;
      put = put_on_next edges (flat_signals c.args.block.now.items) c.requires.apart (view c.args.ends.now) (view c.loop-edge.ends) (view c.put_copy.new.ends) i there inv.put c.put_copy.ensures.put;
    }
