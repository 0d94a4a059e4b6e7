use Rattle.flow_base.specs.Nodes.{behaviour_of, node_state}
use Rattle.flow_base.specs.declared.node.Phase.TheVariants.{Working}
use Rattle.flow_base.proofs.Kernels.{went_none}
use Rattle.flow_scalar.specs.ForkMachine.{fork_machine}
use Rattle.flow_scalar.proofs.ForkBlocks.{fork_view}
use Rattle.flow_scalar.proofs.fork.ForkWorker.blocks.Goals as goal

-- it made no step
pub returns-then-most-outputs-clause-went : goal.returns-then-most-outputs-clause-went
returns-then-most-outputs-clause-went g c =
    λ at. went_none (behaviour_of fork_machine) c.args.inputs.now c.args.outputs.now (node_state (fork_view c.args.self.now) Working at)
    (g.E.Ends.view c.args.ends.now)
