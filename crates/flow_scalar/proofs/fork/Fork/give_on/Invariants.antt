use Rattle.std.proofs.Common.{◌≡◌, ℕ, ◌<◌, true, false, Some, List}
use Rattle.flow_messages.specs.Cells.{cell_of, is_of}
use Rattle.flow_messages.specs.Ends.{SameEnds}
use Rattle.flow_messages.specs.declared.message.Item.{Item}
use Rattle.flow_messages.specs.declared.message.Kind.TheVariants.{Vec as VecKind}
use Rattle.flow_base.specs.Nodes.{behaviour_of, node_state}
use Rattle.flow_base.specs.Visits.{Went}
use Rattle.flow_base.specs.declared.node.Phase.TheVariants.{Working}
use Rattle.flow_scalar.specs.ForkMachine.{fork_machine}
use Rattle.flow_scalar.proofs.ForkBlocks.{fork_view}
use Rattle.flow_scalar.proofs.fork.Fork.give_on.Given as goal

-- the outputs before the next one got the item
abbrev pub invariant-loop-made : goal.invariant-loop-made
invariant-loop-made g l = let view = g.E.Ends.view in record {
  same : g.E.Ends.same l.fn.ends l.ends;
  ends : SameEnds (view l.fn.ends) (view l.ends);
  kind : l.self.kind ≡ l.fn.self.kind;
  outputs : l.self.outputs ≡ l.fn.self.outputs;
  next : l.self.next < l.self.outputs;
  held : (x : Item) × (l.self.held ≡ Some x) × (cell_of x ≡ cell_of l.item);
  scalar : is_of VecKind (cell_of l.item) ≡ false;
  of_kind : is_of l.fn.self.kind (cell_of l.item) ≡ true;
  went : (inputs : List ℕ) (at : ℕ) →
      Went inputs l.fn.outputs (behaviour_of fork_machine) (node_state (fork_view l.fn.self) Working at) (view l.fn.ends)
      (node_state (fork_view l.self) Working at) (view l.ends) l.made;
}
