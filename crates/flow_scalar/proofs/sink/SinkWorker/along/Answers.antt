use Rattle.std.proofs.Common.{arith}
use Rattle.flow_scalar.proofs.SinkBlocks.{sink_moves}
use Rattle.flow_scalar.proofs.sink.SinkWorker.along.Goals as goal

pub returns : goal.returns
returns c = sink_moves c.args.self.now.kind c.args.first c.args.second c.args.block.now c.args.space c.args.most c.count_of.result c.min-count.result
    c.count_of.ensures (omega (arith, c.min-count.ensures)) (omega (arith, c.min-count.ensures))
