use Rattle.std.proofs.Common.{◌≡◌, ◌+◌, drop, length}
use Rattle.flow_networks.specs.Graphs.{states_so_far, edges_so_far}
use Rattle.flow_nodes.specs.plans.Layouts.{times, uses, layout}
use Rattle.flow_assembly.specs.Joined.{IsJoinedTo}
use Rattle.flow_assembly.specs.Ready.{plan_of, KeepsLimits}
use Rattle.flow_assembly.proofs.network.Network.read_streams.Given as goal

abbrev pub invariant-loop-port : goal.invariant-loop-port
invariant-loop-port l = record {
  joined : IsJoinedTo (layout (plan_of l.plan)) (λ s. times s (drop l.port l.reads) + uses s (drop (length l.fn.self.places.items) (plan_of l.plan)))
      l.self.supply.items l.node l.port (states_so_far l.self.builder) (edges_so_far l.self.builder);
  within : KeepsLimits (plan_of l.plan) (states_so_far l.self.builder) (edges_so_far l.self.builder) (length (drop l.port l.reads));
  nodes : states_so_far l.self.builder ≡ states_so_far l.fn.self.builder;
  supply : length l.self.supply.items ≡ length l.fn.self.supply.items;
  places : l.self.places.items ≡ l.fn.self.places.items;
}
