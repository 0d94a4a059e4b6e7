use Rattle.std.proofs.Common.{◌≡◌, ℕ, ◌<◌, length, Some}
use Rattle.std.specs.List.{slice_get}
use Rattle.flow_nodes.specs.StreamNodes.{node_behaviour, state_of}
use Rattle.flow_assembly.proofs.nodes.kinds_written.Given as goal

abbrev pub invariant-loop-port : goal.invariant-loop-port
invariant-loop-port l = record {
  count : length l.kinds.items ≡ l.port;
  kinds : (q : ℕ) → q < l.port → slice_get l.kinds.items q ≡ Some (node_behaviour.kind_out (state_of l.node) q);
}
