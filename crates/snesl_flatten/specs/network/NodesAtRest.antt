-- What is seen of nodes at rest. It names neither a graph nor a table of ends, since nodes may lie in shares.
use Rattle.std.specs.Prelude.{ℕ, List}
use Rattle.flow_messages.specs.Ends.{View}
use Rattle.flow_base.specs.declared.transducer.Transducer.{Ghosts}
use Rattle.flow_networks.specs.declared.edge.Edge.{Edge}
use Rattle.flow_drives.specs.declared.rested.Rested.{Rested}
use Rattle.flow_drives.specs.Resteds.{rested_states, rested_edges, rested_capacity, traffic_of}

-- The states of the nodes, their edges, what was sent and received on these, and how much each may hold.
pub record FinalView (S : Type 0) : Type 0 where
  pub states : List S
  pub edges : List Edge
  pub traffic : View
  pub capacity : ℕ

abbrev pub final_view : {X : Type 0} {t : Ghosts X} → Rested X t → FinalView t.State
final_view rested = record { states = rested_states rested; edges = rested_edges rested; traffic = traffic_of rested; capacity = rested_capacity rested }

-- this holds of the nodes at rest
abbrev pub HasRested : {X : Type 0} {t : Ghosts X} → (FinalView t.State → Type 0) → Rested X t → Type 0
HasRested holds rested = holds (final_view rested)
