use Rattle.std.proofs.Common.{◌≡◌, ℕ, ◌-◌, ◌≤◌, false}
use Rattle.flow_messages.specs.Ends.{SameEnds}
use Rattle.flow_base.specs.Nodes.{behaviour_of, node_state}
use Rattle.flow_base.specs.Visits.{Went}
use Rattle.flow_base.specs.declared.node.Phase.TheVariants.{Working}
use Rattle.flow_segment.specs.DistMachine.{dist_machine, dist_view}
use Rattle.flow_segment.proofs.dist.Dist.rounds.Given as goal

-- the rounds so far
abbrev pub invariant-rounds : goal.invariant-rounds
invariant-rounds g l = let view = g.E.Ends.view in record {
  idle : l.self.copies ≡ false;
  kind : l.self.kind ≡ l.fn.self.kind;
  same : g.E.Ends.same l.fn.ends l.ends;
  ends : SameEnds (view l.fn.ends) (view l.ends);
  within : l.made ≤ l.most;
  went : (at : ℕ) → Went l.fn.inputs l.fn.outputs (behaviour_of dist_machine) (node_state (dist_view l.fn.self) Working at) (view l.fn.ends)
      (node_state (dist_view l.self) Working at) (view l.ends) l.made;
}

abbrev pub decreases-rounds : goal.decreases-rounds
decreases-rounds g l = l.most - l.made
