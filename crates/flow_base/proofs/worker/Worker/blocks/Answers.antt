use Rattle.flow_base.specs.Nodes.{behaviour_of, node_state}
use Rattle.flow_base.specs.declared.node.Phase.TheVariants.{Working}
use Rattle.flow_base.proofs.Kernels.{went_none}
use Rattle.flow_base.proofs.worker.Worker.blocks.Goals as goal

-- it made no step
pub returns-clause-went : goal.returns-clause-went
returns-clause-went g c =
    λ at. went_none (behaviour_of g.Self.Worker.machine) c.args.inputs.now c.args.outputs.now
    (node_state (g.Self.Worker.state c.args.self.now) Working at) (g.E.Ends.view c.args.ends.now)
