use Rattle.flow_networks.specs.Graphs.{states_so_far, edges_so_far}
use Rattle.flow_assembly.specs.Ready.{plan_of, IsBuiltTo}
use Rattle.flow_assembly.proofs.assembly.assemble.Given as goal

abbrev pub invariant-loop-number : goal.invariant-loop-number
invariant-loop-number l = IsBuiltTo (plan_of l.plan) l.number l.network.supply.items l.network.places.items (states_so_far l.network.builder) (edges_so_far l.network.builder)
