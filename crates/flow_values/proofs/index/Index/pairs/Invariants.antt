use Rattle.std.proofs.Common.{ℕ, ◌-◌, ◌≤◌}
use Rattle.flow_messages.specs.Ends.{SameEnds}
use Rattle.flow_base.specs.Nodes.{behaviour_of, node_state}
use Rattle.flow_base.specs.Visits.{Went}
use Rattle.flow_base.specs.declared.node.Phase.TheVariants.{Working}
use Rattle.flow_values.specs.IndexMachine.{index_machine}
use Rattle.flow_values.proofs.IndexPairs.{index_view}
use Rattle.flow_values.proofs.index.Index.pairs.Given as goal

-- the instances so far
abbrev pub invariant-loop-made : goal.invariant-loop-made
invariant-loop-made g l = let view = g.E.Ends.view in record {
  same : g.E.Ends.same l.fn.ends l.ends;
  ends : SameEnds (view l.fn.ends) (view l.ends);
  within : l.made ≤ l.most;
  went : (at : ℕ) → Went l.inputs l.outputs (behaviour_of index_machine) (node_state (index_view l.self) Working at) (view l.fn.ends) (node_state (index_view l.self) Working at) (view l.ends) l.made;
}

abbrev pub decreases-loop-made : goal.decreases-loop-made
decreases-loop-made g l = l.most - l.made
