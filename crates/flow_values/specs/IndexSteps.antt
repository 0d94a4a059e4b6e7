-- What Index is shown of its edges, and how far it goes over them.
use Rattle.std.specs.Prelude.{ℕ, List}
use Rattle.snesl_data.specs.Types.{ty_of}
use Rattle.snesl_data.specs.declared.ty.Ty.{Ty}
use Rattle.flow_messages.specs.Cells.{cell_of}
use Rattle.flow_messages.specs.Ends.{View}
use Rattle.flow_messages.specs.declared.ends.Ends.{Ghosts as EndsGhosts}
use Rattle.flow_messages.specs.declared.message.Item.{Item}
use Rattle.flow_base.specs.Nodes.{NodeState, behaviour_of, node_state}
use Rattle.flow_base.specs.Visits.{PortsHaveEdges, TakeKinds, Went, edge_of}
use Rattle.flow_base.specs.declared.node.Phase.TheVariants.{Working}
use Rattle.flow_values.specs.Flats.{width}
use Rattle.flow_values.specs.IndexMachine.{IndexState, index_machine, index_state}
use Rattle.flow_values.specs.IndexPairs.{PairShown}
use Rattle.flow_values.specs.Shapes.{kind_at, kinds_of}
use Rattle.flow_values.specs.declared.index.Index.{Index}
use Rattle.snesl_data.specs.Types.{Ty as ElementType}

-- a vector comes on the edge of the first input and an index on that of the second, and the item carries the element
abbrev pub PairComes : Ty → View → List ℕ → Item → Type 0
PairComes element v inputs item = PairShown (ty_of element) (v.coming (edge_of inputs 0)) (v.coming (edge_of inputs 1)) (cell_of item)

-- the two inputs, and an output for each edge of the type of the elements, have these edges
abbrev pub IndexHasEdges : Ty → List ℕ → List ℕ → View → Type 0
IndexHasEdges element inputs outputs v = PortsHaveEdges inputs outputs 2 (width (ty_of element)) v

-- the edges of the outputs take items of the kinds of the type of the elements
abbrev pub IndexTakesKinds : Ty → List ℕ → View → Type 0
IndexTakesKinds element outputs v = TakeKinds outputs (kind_at (kinds_of (ty_of element))) v

-- a node that works with this worker
abbrev pub index_at : Index → ℕ → NodeState (ElementType × IndexState)
index_at n at = node_state (ty_of n.element, index_state n.held n.dues.items) Working at

-- it made so many steps, after which the worker is where it was
abbrev pub IndexWent : {E : Type 0} → EndsGhosts E → List ℕ → List ℕ → Index → E → E → ℕ → Type 0
IndexWent e inputs outputs n a b steps =
    (at : ℕ) → Went inputs outputs (behaviour_of index_machine) (index_at n at) (e.view a) (index_at n at) (e.view b) steps
