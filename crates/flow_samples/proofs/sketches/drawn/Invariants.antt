use Rattle.flow_networks.specs.Graphs.{states_so_far}
use Rattle.flow_networks.specs.Networks.{AreOpened}
use Rattle.flow_nodes.specs.StreamNodes.{node_behaviour}
use Rattle.flow_samples.proofs.sketches.drawn.Given as goal

abbrev pub invariant-loop-line : goal.invariant-loop-line
invariant-loop-line l = AreOpened node_behaviour (states_so_far l.builder)
