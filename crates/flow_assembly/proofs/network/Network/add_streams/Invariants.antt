use Rattle.std.proofs.Common.{◌≡◌, ◌++◌}
use Rattle.flow_assembly.specs.Ready.{ports_of}
use Rattle.flow_assembly.proofs.network.Network.add_streams.Given as goal

abbrev pub invariant-loop-port : goal.invariant-loop-port
invariant-loop-port l = record {
  supply : l.self.supply.items ≡ l.fn.self.supply.items ++ ports_of l.node l.port;
  builder : l.self.builder ≡ l.fn.self.builder;
  places : l.self.places.items ≡ l.fn.self.places.items;
}
