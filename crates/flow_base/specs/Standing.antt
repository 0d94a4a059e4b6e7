-- Where a node stands, and what its calls leave.
use Rattle.std.specs.Prelude.{◌≡◌, ℕ, Bool, Result, Ok, Err, IfOk, OnErr, cond, nat_lt, List, [], ◌∷◌, ◌++◌, length}
use Rattle.std.specs.declared.alloc.AllocError.{AllocError}
use Rattle.flow_messages.specs.Ends.{View, SameEnds}
use Rattle.flow_messages.specs.declared.ends.Ends.{Ghosts as EndsGhosts}
use Rattle.flow_messages.specs.Flats.{flat_signals}
use Rattle.flow_messages.specs.Signals.{Signal, signal_of, stop}
use Rattle.flow_messages.specs.declared.flat.Flat.{Flat}
use Rattle.flow_messages.specs.declared.flat.Flat.TheVariants.{End as EndFlat}
use Rattle.flow_messages.specs.declared.message.Msg.{Msg}
use Rattle.flow_base.specs.Along.{PutOnEach, written_signals}
use Rattle.flow_base.specs.Nodes.{NodeState, behaviour_of, node_state}
use Rattle.flow_base.specs.Passing.{MayCome, PassedOn}
use Rattle.flow_base.specs.Visits.{BrokeOff, IsPlaced, WentOn}
use Rattle.flow_base.specs.Walks.{Visit, Walk}
use Rattle.flow_base.specs.declared.node.Node.{Node}
use Rattle.flow_base.specs.declared.node.NodeEdges.{NodeEdges}
use Rattle.flow_base.specs.declared.node.Phase.TheVariants.{Ending}
use Rattle.flow_base.specs.declared.slices.Moved.{Moved}
use Rattle.flow_base.specs.declared.slices.Written.{Written}
use Rattle.flow_base.specs.declared.worker.Worker.{Ghosts}

-- whether a step was made, where steps were counted
abbrev pub any_step : Result ℕ AllocError → Result Bool AllocError
any_step (Ok made) = Ok (nat_lt 0 made)
any_step (Err refused) = Err refused

module _ {W : Type 0} (w : Ghosts W) where
  -- what the laws of the node see of it
  abbrev pub standing : Node W → NodeState (w.Parameters × w.State)
  standing n = node_state (w.state n.worker) n.phase n.at

  -- these are the edges at the ports of the node, and their ends are there
  abbrev pub NodeIsPlaced : NodeEdges → Node W → View → Type 0
  NodeIsPlaced edges n v = IsPlaced (behaviour_of w.machine) edges.inputs.now edges.outputs.now (standing n) v

  -- what the worker wrote was put on the edge of each output
  abbrev pub PutsWritten : {E : Type 0} → W → (E → View) → List ℕ → Written → Moved → E → E → Type 0
  PutsWritten worker view outputs block moved a v =
      PutOnEach outputs (length outputs) (λ q. written_signals block moved (w.machine.kind_out (w.state worker).0 q)) (view a) (view v)

  -- what a visit of the node answers and leaves, over the same ends: some steps, or none, or steps until memory was refused
  abbrev pub Visits : {E : Type 0} → EndsGhosts E → NodeEdges → Node W → E → Node W → E → Result Bool AllocError → Type 0
  Visits e edges n a t v result = Visit e.view e.same edges.inputs.now edges.outputs.now (behaviour_of w.machine) (standing n) a (standing t) v result

  -- the same of a part of a visit that counts its steps
  abbrev pub VisitsBySteps : {E : Type 0} → EndsGhosts E → NodeEdges → Node W → E → Node W → E → Result ℕ AllocError → Type 0
  VisitsBySteps e edges n a t v result = Visits e edges n a t v (any_step result)

  -- what a try at some steps answers and leaves, over the same ends: so many steps, or steps until memory was refused
  pub record WalksOn {E : Type 0} (e : EndsGhosts E) (edges : NodeEdges) (n : Node W) (a : E) (t : Node W) (v : E) (result : Result ℕ AllocError) : Type 0 where
    pub same : e.same a v
    pub ends : SameEnds (e.view a) (e.view v)
    pub went : IfOk result (λ made. WentOn edges.inputs.now edges.outputs.now (behaviour_of w.machine) (standing n) (e.view a) (standing t) (e.view v) (nat_lt 0 made))
    pub broke : OnErr result (BrokeOff edges.inputs.now edges.outputs.now (behaviour_of w.machine) (standing n) (e.view a) (standing t) (e.view v))

  -- so many steps got the node there, over the same ends
  abbrev pub Walks : {E : Type 0} → EndsGhosts E → NodeEdges → Node W → E → Node W → E → ℕ → Type 0
  Walks e edges n a t v steps = Walk e.view e.same edges.inputs.now edges.outputs.now (behaviour_of w.machine) (standing n) a (standing t) v steps

  -- the node is where it was
  abbrev pub StandsStill : Node W → Node W → Type 0
  StandsStill n t = standing t ≡ standing n

  -- the node read the message
  abbrev pub NodeReads : Node W → Msg → Node W → Type 0
  NodeReads n message t = standing t ≡ (behaviour_of w.machine).process.read (standing n) (signal_of message)

  -- the node has read the end of its input and written that of each output
  abbrev pub EndsAll : Node W → Node W → Type 0
  EndsAll n t = standing t ≡ node_state (w.state n.worker) (Ending (w.machine.outputs (w.state n.worker).0)) n.at

  -- an end, where there is an output
  abbrev pub end_written : Node W → List Flat
  end_written n = cond (nat_lt 0 (w.machine.outputs (w.state n.worker).0)) (EndFlat ∷ []) []

  -- each of these is an end or an item of the kind that the node first reads, and an end is the last
  abbrev pub MayComeTo : Node W → List Flat → Type 0
  MayComeTo n flats = MayCome (w.machine.kind_in (w.state n.worker).0 0) (flat_signals flats)

  -- the node passed these on
  abbrev pub PassesOn : Node W → List Flat → Node W → List Flat → Type 0
  PassesOn n flats t out = PassedOn (behaviour_of w.machine) (standing n) (flat_signals flats) (standing t) (flat_signals out)

  -- the node passed all of these on, and is where it was
  abbrev pub PassesAll : Node W → List Flat → List Flat → Type 0
  PassesAll n flats out = PassesOn n flats n out

  -- the last of these is an end; the node passed those before it on, and is where it was
  abbrev pub PassesToEnd : Node W → List Flat → List Flat → Type 0
  PassesToEnd n flats out =
      (items : List Signal)
      × (flat_signals flats ≡ items ++ stop ∷ [])
      × PassedOn (behaviour_of w.machine) (standing n) items (standing n) (flat_signals out)
