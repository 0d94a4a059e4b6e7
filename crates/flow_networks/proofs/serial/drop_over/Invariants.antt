use Rattle.std.proofs.Common.{◌≡◌, ◌<◌, ◌≤◌, ◌⊎◌, ℕ, true, length, get_or}
use Rattle.flow_networks.specs.Networks.{state_at}
use Rattle.flow_networks.specs.Graphs.{states_of}
use Rattle.flow_networks.specs.Over.{is_over}
use Rattle.flow_networks.proofs.serial.drop_over.Given as goal

-- the nodes from i on are as they were, and each before i is among the first `kept` or is over
abbrev pub invariant-loop-i : goal.invariant-loop-i
invariant-loop-i g l = record {
  count : length l.nodes.items ≡ length l.fn.nodes.items;
  few : l.kept ≤ l.i;
  below : (j d : ℕ) → j < l.kept → get_or l.nodes.items j d < length (states_of l.graph);
  rest : (j d : ℕ) → l.i ≤ j → get_or l.nodes.items j d ≡ get_or l.fn.nodes.items j d;
  seen : (j d : ℕ) → j < l.i
      → ((m : ℕ) × (m < l.kept) × (get_or l.nodes.items m d ≡ get_or l.fn.nodes.items j d))
      ⊎ (is_over (g.T.Transducer.behaviour.process.want (state_at g.T.Transducer.behaviour (states_of l.graph) (get_or l.fn.nodes.items j d))) ≡ true);
}
