use Rattle.flow_base.proofs.Kernels.{went_none}
use Rattle.flow_networks.proofs.block.move_node.Goals as goal

pub returns-in-Read-2-clause-went : goal.returns-in-Read-2-clause-went
returns-in-Read-2-clause-went g c = went_none g.T.Transducer.behaviour c.args.inputs.now c.args.outputs.now (g.T.Transducer.state c.args.node.now) (g.E.Ends.view c.args.ends.now)

pub returns-in-Read-2-2-clause-went : goal.returns-in-Read-2-2-clause-went
returns-in-Read-2-2-clause-went g c = went_none g.T.Transducer.behaviour c.args.inputs.now c.args.outputs.now (g.T.Transducer.state c.args.node.now) (g.E.Ends.view c.args.ends.now)

pub returns-in-Read-2-3-clause-went : goal.returns-in-Read-2-3-clause-went
returns-in-Read-2-3-clause-went g c = went_none g.T.Transducer.behaviour c.args.inputs.now c.args.outputs.now (g.T.Transducer.state c.args.node.now) (g.E.Ends.view c.args.ends.now)
