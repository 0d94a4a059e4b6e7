use Rattle.std.proofs.Common.{◌≡◌, ◌+◌, drop, length}
use Rattle.flow_networks.specs.Graphs.{states_so_far, edges_so_far}
use Rattle.flow_nodes.specs.plans.Layouts.{all_after}
use Rattle.flow_assembly.specs.Ready.{plan_of, AreNextInLayout, IsPutTo}
use Rattle.flow_assembly.proofs.network.Network.put_all_after.Given as goal

abbrev pub invariant-loop-port : goal.invariant-loop-port
invariant-loop-port l = record {
  so_far : IsPutTo (plan_of l.plan) (l.first + l.port) l.self.supply.items l.self.places.items (states_so_far l.self.builder) (edges_so_far l.self.builder);
  next : AreNextInLayout (plan_of l.plan) (states_so_far l.self.builder) (all_after (plan_of l.plan) l.at (l.first + l.port) (drop l.port l.kinds));
  nodes : length (states_so_far l.self.builder) + length (all_after (plan_of l.plan) l.at (l.first + l.port) (drop l.port l.kinds))
      ≡ length (states_so_far l.fn.self.builder) + length (all_after (plan_of l.plan) l.at l.first l.kinds);
  supply : length l.self.supply.items ≡ length l.fn.self.supply.items;
  places : l.self.places.items ≡ l.fn.self.places.items;
}
