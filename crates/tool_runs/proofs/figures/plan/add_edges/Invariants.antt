use Rattle.flow_nodes.specs.StreamNodes.{node_behaviour}
use Rattle.flow_networks.specs.Graphs.{states_so_far}
use Rattle.flow_networks.specs.Networks.{AreOpened}
use Rattle.tool_runs.proofs.figures.plan.add_edges.Given as goal

-- each node is in its opening state
abbrev pub invariant-loop-writer : goal.invariant-loop-writer
invariant-loop-writer l = AreOpened node_behaviour (states_so_far l.builder)
