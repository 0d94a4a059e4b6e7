use Rattle.std.proofs.Common.{◌≡◌, ℕ, ◌≤◌}
use Rattle.flow_messages.specs.Ends.{SameEnds}
use Rattle.flow_base.specs.Nodes.{behaviour_of, node_state}
use Rattle.flow_base.specs.Visits.{Went}
use Rattle.flow_base.specs.declared.node.Phase.TheVariants.{Working}
use Rattle.flow_scalar.specs.ForkMachine.{fork_machine}
use Rattle.flow_scalar.proofs.ForkBlocks.{fork_view}
use Rattle.flow_scalar.proofs.fork.Fork.step_on.Given as goal

-- the steps so far
abbrev pub invariant-loop : goal.invariant-loop
invariant-loop g l = let view = g.E.Ends.view in record {
  same : g.E.Ends.same l.fn.ends l.ends;
  ends : SameEnds (view l.fn.ends) (view l.ends);
  within : l.made ≤ l.most;
  ports : l.self.outputs ≡ l.fn.self.outputs;
  kind : l.self.kind ≡ l.fn.self.kind;
  went : (at : ℕ) → Went l.fn.inputs l.fn.outputs (behaviour_of fork_machine) (node_state (fork_view l.fn.self) Working at) (view l.fn.ends)
      (node_state (fork_view l.self) Working at) (view l.ends) l.made;
}
