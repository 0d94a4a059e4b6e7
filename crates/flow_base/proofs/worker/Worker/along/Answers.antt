use Rattle.flow_base.proofs.Along.{moved_nothing}
use Rattle.flow_base.proofs.worker.Worker.along.Goals as goal

-- it moved nothing
pub returns : goal.returns
returns g c = moved_nothing g.Self.Worker.machine (g.Self.Worker.state c.args.self.now) c.args.first c.args.second c.args.space c.args.most c.args.block.now c.nothing.result c.nothing.ensures
