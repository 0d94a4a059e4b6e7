use Rattle.std.proofs.Common.{◌≡◌, ◌<◌, ℕ, length, take}
use Rattle.flow_networks.specs.Graphs.{edges_of, states_of}
use Rattle.flow_dealing.specs.cut.Loads.{AreBetween}
use Rattle.flow_dealing.specs.Weights.{CostFor, HaveWork, JoinAs}
use Rattle.flow_dealing.proofs.weights.weights.Given as goal

-- the edges so far have their links, and the nodes that they join their work
abbrev pub invariant-loop-number : goal.invariant-loop-number
invariant-loop-number l = record {
  nodes : length l.work.items ≡ length (states_of l.graph);
  busy : (e : ℕ) → e < l.number → HaveWork l.counts (edges_of l.graph) l.work.items e;
  between : AreBetween (length (states_of l.graph)) l.links.items;
  joins : JoinAs (take l.number (edges_of l.graph)) l.links.items;
  costs : CostFor (take l.number l.counts) l.links.items;
}
