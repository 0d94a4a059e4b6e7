use Rattle.std.proofs.Common.{◌≡◌, length, take}
use Rattle.std.specs.List.{All, zip}
use Rattle.snesl_flatten.specs.Graphs.{states_of, edges_of}
use Rattle.callers.specs.Flatten.{IsNetworkOf}
use Rattle.callers.proofs.plans.networks_of.Given as goal

-- each input text so far has its network
abbrev pub invariant-loop-input : goal.invariant-loop-input
invariant-loop-input l = record {
  count : length l.graphs.items ≡ l.input-index;
  each : All (λ pair. IsNetworkOf l.text pair.0.items (states_of pair.1) (edges_of pair.1)) (zip (take l.input-index l.inputs) l.graphs.items);
}
