-- What one turn of a node makes of a graph and the ends of its edges.
use Rattle.std.specs.Prelude.{ℕ, Bool, List, Some, Result, IfOk}
use Rattle.std.specs.declared.alloc.AllocError.{AllocError}
use Rattle.kahn.specs.Configurations.{IsSound}
use Rattle.kahn.specs.Turns.{Turn}
use Rattle.flow_messages.specs.Ends.{View}
use Rattle.flow_base.specs.declared.transducer.Transducer.{Ghosts}
use Rattle.flow_networks.specs.declared.graph.Graph.{Graph}
use Rattle.flow_networks.specs.declared.step.Stepped.{Stepped}
use Rattle.flow_networks.specs.Graphs.{states_of, edges_of}
use Rattle.flow_networks.specs.Networks.{state_at, SameBut, network_of, configuration_of}
use Rattle.flow_networks.specs.Blocks.{MovesBlock}
use Rattle.flow_networks.specs.Steps.{TurnAnswers, is_one}
use Rattle.flow_networks.specs.Visits.{Visits, VisitBrokeOff}

module _ {X Y : Type 0} {t : Ghosts X} (view : Y → View) (node : ℕ) (graph : Graph X t) (ends : Y) (graph' : Graph X t) (ends' : Y) where
  -- The node had its turn.
  pub record TakesTurn (result : Result Stepped AllocError) : Type 0 where
    -- the other nodes are as they were
    pub others : SameBut t.behaviour node (states_of graph) (states_of graph')
    -- what came of its turn is by the answer
    pub step : TurnAnswers t.behaviour (edges_of graph) node (state_at t.behaviour (states_of graph) node) (state_at t.behaviour (states_of graph') node) (view ends) (view ends') result

  -- From a sound configuration of the network this was a turn of the node in the network.
  pub record TurnsNetwork (capacity : ℕ) (moved : Stepped) : Type 0 where
    -- one step of it, or nothing where it cannot step
    pub turn :
        let b = t.behaviour in let net = network_of b (states_of graph) (edges_of graph) in let c = configuration_of b (states_of graph) (view ends) in
        IsSound b.process net c → Turn b.process net (Some capacity) node c (configuration_of b (states_of graph') (view ends')) (is_one moved)
    -- what comes of it is sound
    pub sound :
        let b = t.behaviour in let net = network_of b (states_of graph) (edges_of graph) in
        IsSound b.process net (configuration_of b (states_of graph) (view ends)) → IsSound b.process net (configuration_of b (states_of graph') (view ends'))

  -- the node made just so many steps in a block
  abbrev pub MovesInBlock : ℕ → Type 0
  MovesInBlock steps = MovesBlock t.behaviour node (edges_of graph) (states_of graph) (view ends) (states_of graph') (view ends') steps

  -- the visit of the node broke off, since memory was refused
  abbrev pub BreaksOffVisit : Type 0
  BreaksOffVisit = VisitBrokeOff t.behaviour node (edges_of graph) (states_of graph) (view ends) (states_of graph') (view ends')

-- the same of ends that name the capacity of their edges, by the answer
module _ {X Y : Type 0} {t : Ghosts X} (capacity : Y → ℕ) (view : Y → View) where
  -- where memory was not refused, it was a turn of the node in the network
  abbrev pub MakesTurn : ℕ → Graph X t → Y → Graph X t → Y → Result Stepped AllocError → Type 0
  MakesTurn node graph ends graph' ends' result = IfOk result (λ moved. TurnsNetwork view node graph ends graph' ends' (capacity ends) moved)

  -- where memory was not refused, these nodes were visited; the answer says whether one made a step
  abbrev pub VisitAll : List ℕ → Graph X t → Y → Graph X t → Y → Result Bool AllocError → Type 0
  VisitAll nodes graph ends graph' ends' result =
      IfOk result (λ any. Visits t.behaviour (capacity ends) nodes (edges_of graph) (states_of graph) (view ends) (states_of graph') (view ends') any)
