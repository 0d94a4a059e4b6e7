-- A transducer with its states as one thing, and any of a table of them as one transducer.
use Rattle.flow_base.specs.Machines.{Machine}
use Rattle.flow_base.specs.Transducers.{Behaviour}
use Rattle.flow_base.specs.Nodes.{NodeState, node_state, behaviour_of}
use Rattle.flow_base.specs.declared.node.Node.{Node}
use Rattle.flow_base.specs.Sums.{sum_of}

-- A transducer that may stand in a table.
pub record Member : Type 1 where
  -- its states
  pub State : Type 0
  -- what it does in them
  pub behaviour : Behaviour State

-- A type of transducers, and how each of them is seen as a state.
pub record NodeOf (T : Type 0) : Type 1 where
  pub State : Type 0
  pub state : T → State
  pub behaviour : Behaviour State

-- workers as transducers
abbrev pub node_of : {W P S : Type 0} → (W → P × S) → Machine P S → NodeOf (Node W)
node_of {P = P} {S = S} view m = record { State = NodeState (P × S); state = λ n. node_state (view n.worker) n.phase n.at; behaviour = behaviour_of m }

abbrev pub member_of : {T : Type 0} → NodeOf T → Member
member_of n = record { State = n.State; behaviour = n.behaviour }

module _ {Tag : Type 0} (some : Tag) (member : Tag → Member) where
  -- a kind, with a state of that kind
  abbrev pub MembersState : Type 0
  MembersState = (t : Tag) × (member t).State

  -- what a state does is what its kind does
  abbrev pub members_behaviour : Behaviour ((t : Tag) × (member t).State)
  members_behaviour = sum_of some (λ t. (member t).behaviour)
