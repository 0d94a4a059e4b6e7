-- What a node does, one variant at a time: for the tactics, which see no further than a node whose variant is open.
use Rattle.std.specs.Prelude.{◌≡◌}
use Rattle.std.proofs.Common.{arith}
use Rattle.flow_messages.specs.Signals.{Signal}
use Rattle.flow_nodes.specs.declared.stream_node.StreamNode.{StreamNode}
use Rattle.flow_nodes.specs.declared.stream_node.StreamNode.TheVariants as nodes
use Rattle.flow_nodes.specs.StreamNodes.{node_behaviour, state_of, text_in}

-- the same function, by cases of the variant: the second clause stands for each of the others
abbrev pub by_variant : {R : Type 0} → (StreamNode → R) → StreamNode → R
by_variant f (nodes.Source n) = f (nodes.Source n)
by_variant f x = f x

pub same_by_variant : {R : Type 0} (f : StreamNode → R) (x : StreamNode) → f x ≡ by_variant f x
same_by_variant f x = grind arith

pub want_at : (x : StreamNode) → node_behaviour.process.want (state_of x) ≡ by_variant (λ n. node_behaviour.process.want (state_of n)) x
want_at x = same_by_variant (λ n. node_behaviour.process.want (state_of n)) x

pub read_at : (x : StreamNode) (m : Signal) → node_behaviour.process.read (state_of x) m ≡ by_variant (λ n. node_behaviour.process.read (state_of n) m) x
read_at x m = same_by_variant (λ n. node_behaviour.process.read (state_of n) m) x

pub memory_at : (x : StreamNode) → node_behaviour.takes_memory (state_of x) ≡ by_variant (λ n. node_behaviour.takes_memory (state_of n)) x
memory_at x = same_by_variant (λ n. node_behaviour.takes_memory (state_of n)) x

-- each part of what a node does where a message is given to it, by its variant
pub ruleset node_steps = (want_at, read_at, memory_at)

pub text_at : (x : StreamNode) → text_in (state_of x) ≡ by_variant (λ n. text_in (state_of n)) x
text_at x = same_by_variant (λ n. text_in (state_of n)) x

-- the text, by the variant
pub ruleset text_steps = (text_at)
