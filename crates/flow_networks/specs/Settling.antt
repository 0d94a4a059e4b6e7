-- What contracts see of a graph that was settled.
use Rattle.std.specs.Prelude.{ℕ, List}
use Rattle.flow_messages.specs.Ends.{View}
use Rattle.flow_messages.specs.Signals.{Signal}
use Rattle.flow_messages.specs.Tables.{ends_of}
use Rattle.flow_base.specs.declared.transducer.Transducer.{Ghosts}
use Rattle.flow_networks.specs.declared.graph.Graph.{Graph}
use Rattle.flow_networks.specs.declared.settled.Settled.{Settled}
use Rattle.flow_networks.specs.Graphs.{states_of, edges_of}
use Rattle.flow_networks.specs.Shapes.{IsSameNetwork}
use Rattle.flow_networks.specs.MaximalRuns.{RunEndsAt}

module _ {X : Type 0} {t : Ghosts X} where
  -- the graph
  abbrev pub settled_graph : Settled X t → Graph X t
  settled_graph settled = settled.graph

  -- what was sent and received on its edges
  abbrev pub settled_traffic : Settled X t → View
  settled_traffic settled = ends_of settled.ends

  -- the messages that were sent on edge e, and those that were received from it
  abbrev pub sent_on : Settled X t → ℕ → List Signal
  sent_on settled e = (settled_traffic settled).sent e

  abbrev pub received_on : Settled X t → ℕ → List Signal
  received_on settled e = (settled_traffic settled).received e

  -- the nodes, in other states, and the edges make the same network
  abbrev pub IsOfNetwork : Graph X t → Settled X t → Type 0
  IsOfNetwork graph settled =
      let later = settled_graph settled in
      IsSameNetwork t.behaviour (states_of graph) (edges_of graph) (states_of later) (edges_of later)

  -- a maximal run of the graph's network, at this capacity, ends here
  abbrev pub IsEndOfRun : Graph X t → ℕ → Settled X t → Type 0
  IsEndOfRun graph capacity settled = RunEndsAt capacity graph (settled_graph settled) (settled_traffic settled)
