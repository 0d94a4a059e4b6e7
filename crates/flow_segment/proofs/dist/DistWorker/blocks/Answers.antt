use Rattle.std.proofs.Common.{arith}
use Rattle.flow_base.specs.Nodes.{behaviour_of, node_state}
use Rattle.flow_base.specs.declared.node.Phase.TheVariants.{Working}
use Rattle.flow_base.proofs.Kernels.{went_none}
use Rattle.flow_segment.specs.DistMachine.{dist_machine, dist_view}
use Rattle.flow_segment.proofs.dist.DistWorker.blocks.Goals as goal

-- it made no step
pub returns-then-self-clause-went : goal.returns-then-self-clause-went
returns-then-self-clause-went g c = λ at. went_none (behaviour_of dist_machine) c.args.inputs.now c.args.outputs.now (node_state (dist_view c.args.self.now) Working at) (g.E.Ends.view c.args.ends.now)

pub rounds-requires-clause-kind : goal.rounds-requires-clause-kind
rounds-requires-clause-kind g c = c.requires.kinds 0 (omega (arith, c.requires.wired.each_output))

pub rounds-requires-2-clause-kind : goal.rounds-requires-2-clause-kind
rounds-requires-2-clause-kind g c = c.requires.kinds 0 (omega (arith, c.requires.wired.each_output))
