-- What the visits of some nodes make of a network: each makes some steps, or none where it can make none.
use Rattle.std.specs.Prelude.{◌≡◌, ℕ, ◌<◌, Bool, true, false, List, length, Option, Some}
use Rattle.std.specs.List.{All, Contains}
use Rattle.kahn.specs.Processes.{Process, Event}
use Rattle.kahn.specs.Networks.{Network, actor}
use Rattle.kahn.specs.Configurations.{Configuration, moved, IsSound}
use Rattle.kahn.specs.Runs.{Can, Reaches}
use Rattle.flow_messages.specs.Ends.{View}
use Rattle.flow_base.specs.Transducers.{Behaviour}
use Rattle.flow_base.specs.Visits.{edge_of, BrokeOff}
use Rattle.flow_networks.specs.declared.edge.Edge.{Edge}
use Rattle.flow_networks.specs.Edges.{in_edge, out_edge}
use Rattle.flow_networks.specs.Networks.{state_at, inputs_at, outputs_at, SameBut, network_of, configuration_of}

-- From c to d each of these nodes was visited, and `any` says whether one of them made a step.
pub record IsVisited {State Message : Type 0} (P : Process State Message) (net : Network State) (limit : Option ℕ) (nodes : List ℕ) (c d : Configuration State Message) (any : Bool) : Type 0 where
  pub reaches : Reaches P net limit c d
  -- each step is one of these nodes
  pub own : All (λ a. Contains nodes (actor net a)) reaches.0
  -- where none made a step nothing changed, and none of them can step
  pub calm : any ≡ false → (d ≡ c) × ((a : Event Message) → Contains nodes (actor net a) → Can P net limit d a → ⊥)
  -- where one made a step there are more messages
  pub busy : any ≡ true → moved net c < moved net d

-- the writer's and the reader's end is there of each of the first so many edges
abbrev pub HasAllEnds : ℕ → View → Type 0
HasAllEnds edges view = (e : ℕ) → e < edges → (view.writes e ≡ true) × (view.reads e ≡ true)

module _ {S : Type 0} (b : Behaviour S) where
  -- from a sound configuration these nodes were visited
  abbrev pub Visits : ℕ → List ℕ → List Edge → List S → View → List S → View → Bool → Type 0
  Visits capacity nodes edges states view states' view' any =
      let net = network_of b states edges in
      IsSound b.process net (configuration_of b states view)
      → IsVisited b.process net (Some capacity) nodes (configuration_of b states view) (configuration_of b states' view') any

  -- The visit of this node broke off, since memory was refused: it made some steps over the edges at its ports, and one message at
  -- most was received there that it did not read. The other nodes stand where they stood.
  pub record VisitBrokeOff (node : ℕ) (edges : List Edge) (states : List S) (view : View) (states' : List S) (view' : View) : Type 0 where
    -- the edges at its ports
    pub inputs : List ℕ
    pub outputs : List ℕ
    pub each_input : length inputs ≡ inputs_at b states node
    pub each_output : length outputs ≡ outputs_at b states node
    pub reads : (p : ℕ) → p < inputs_at b states node → edge_of inputs p ≡ in_edge edges node p
    pub writes : (q : ℕ) → q < outputs_at b states node → edge_of outputs q ≡ out_edge edges node q
    pub broke : BrokeOff inputs outputs b (state_at b states node) view (state_at b states' node) view'
    pub others : SameBut b node states states'
