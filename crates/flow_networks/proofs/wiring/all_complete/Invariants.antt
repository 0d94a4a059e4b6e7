use Rattle.std.proofs.Common.{slice_index_or, ◌<◌, ℕ}
use Rattle.flow_networks.specs.declared.wiring.Ports.{Ports}
use Rattle.flow_networks.specs.Tables.{HasAllEdges}
use Rattle.flow_networks.proofs.wiring.all_complete.Given as goal

abbrev pub invariant-loop-node : goal.invariant-loop-node
invariant-loop-node l = (k : ℕ) (d : Ports) → k < l.node-index → HasAllEdges (slice_index_or l.nodes k d)
