-- How Fork goes over its edges.
use Rattle.std.specs.Prelude.{ℕ, List}
use Rattle.flow_messages.specs.declared.ends.Ends.{Ghosts as EndsGhosts}
use Rattle.flow_base.specs.Nodes.{NodeState, behaviour_of, node_state}
use Rattle.flow_base.specs.Visits.{Went}
use Rattle.flow_base.specs.declared.node.Phase.TheVariants.{Working}
use Rattle.flow_scalar.specs.ForkMachine.{ForkPorts, ForkState, fork_machine, fork_ports, fork_state}
use Rattle.flow_scalar.specs.declared.fork.Fork.{Fork}

-- a node that works with this worker
abbrev pub forking : Fork → ℕ → NodeState (ForkPorts × ForkState)
forking n at = node_state (fork_ports n.kind n.outputs, fork_state n.outputs n.next n.held) Working at

-- it made so many steps
abbrev pub ForkWent : {E : Type 0} → EndsGhosts E → List ℕ → List ℕ → Fork → E → Fork → E → ℕ → Type 0
ForkWent e inputs outputs old a new b steps =
    (at : ℕ) → Went inputs outputs (behaviour_of fork_machine) (forking old at) (e.view a) (forking new at) (e.view b) steps

-- it made so many steps, whatever its input
abbrev pub ForkGave : {E : Type 0} → EndsGhosts E → List ℕ → Fork → E → Fork → E → ℕ → Type 0
ForkGave e outputs old a new b steps =
    (inputs : List ℕ) (at : ℕ) → Went inputs outputs (behaviour_of fork_machine) (forking old at) (e.view a) (forking new at) (e.view b) steps
