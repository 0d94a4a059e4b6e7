-- The transducer that a node makes of a fork.
use Rattle.flow_base.specs.Members.{NodeOf, node_of}
use Rattle.flow_base.specs.declared.node.Node.{Node}
use Rattle.flow_scalar.specs.ForkMachine.{fork_ports, fork_state, fork_machine}
use Rattle.flow_scalar.specs.declared.fork.Fork.{Fork}

abbrev pub fork_node : NodeOf (Node Fork)
fork_node = node_of (λ n. (fork_ports n.kind n.outputs, fork_state n.outputs n.next n.held)) fork_machine
