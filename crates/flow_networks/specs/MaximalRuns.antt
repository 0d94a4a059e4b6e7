-- Runs of a graph's network from where it starts, and where maximal ones end.
use Rattle.std.specs.Prelude.{ℕ, List, Some}
use Rattle.kahn.specs.declared.outcome.Outcome.{Outcome}
use Rattle.kahn.specs.Processes.{Event}
use Rattle.kahn.specs.Configurations.{start, IsSound}
use Rattle.kahn.specs.Runs.{Reaches, AtRest, Maximal}
use Rattle.kahn.specs.Outcomes.{HasOutcome}
use Rattle.flow_messages.specs.Signals.{Signal}
use Rattle.flow_messages.specs.Ends.{View}
use Rattle.flow_base.specs.Transducers.{Behaviour}
use Rattle.flow_base.specs.declared.transducer.Transducer.{Ghosts}
use Rattle.flow_networks.specs.declared.edge.Edge.{Edge}
use Rattle.flow_networks.specs.declared.graph.Graph.{Graph}
use Rattle.flow_networks.specs.Graphs.{states_of, edges_of}
use Rattle.flow_networks.specs.Networks.{network_of, configuration_of}

module _ {S : Type 0} (b : Behaviour S) where
  -- a run of the network of these nodes and edges, at this capacity, leads from its start to where its nodes have
  -- the states `states'` and its edges the traffic `view`
  abbrev pub RunLeadsTo : ℕ → List S → List Edge → List S → View → Type 0
  RunLeadsTo capacity states edges states' view =
      let net = network_of b states edges in
      Reaches b.process net (Some capacity) (start net) (configuration_of b states' view)

  -- a maximal run of it ends there
  abbrev pub EndsMaximalRun : ℕ → List S → List Edge → List S → View → Type 0
  EndsMaximalRun capacity states edges states' view =
      let net = network_of b states edges in
      (events : List (Event Signal)) × Maximal b.process net (Some capacity) events (start net) (configuration_of b states' view)

  module _ (states : List S) (edges : List Edge) where
    -- these states and this traffic are a sound configuration
    abbrev pub IsSoundAt : View → Type 0
    IsSoundAt view = ∥ IsSound b.process (network_of b states edges) (configuration_of b states view) ∥₁

    -- no node can step
    abbrev pub RestsAt : ℕ → View → Type 0
    RestsAt capacity view = AtRest b.process (network_of b states edges) (Some capacity) (configuration_of b states view)

    -- they came out so
    abbrev pub ComesOut : ℕ → View → Outcome → Type 0
    ComesOut capacity view outcome = HasOutcome b.process (network_of b states edges) capacity (configuration_of b states view) outcome

-- the same of a graph, and of that graph later, with this traffic on its edges
module _ {X : Type 0} {t : Ghosts X} (capacity : ℕ) (graph later : Graph X t) (view : View) where
  -- a run of the graph's network leads there
  abbrev pub RunReaches : Type 0
  RunReaches = RunLeadsTo t.behaviour capacity (states_of graph) (edges_of graph) (states_of later) view

  -- a maximal run of it ends there
  abbrev pub RunEndsAt : Type 0
  RunEndsAt = EndsMaximalRun t.behaviour capacity (states_of graph) (edges_of graph) (states_of later) view
