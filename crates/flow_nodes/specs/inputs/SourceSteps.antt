-- How a source over a text goes on.
use Rattle.std.specs.Prelude.{ℕ, List}
use Rattle.std.specs.Arc.{arc_value}
use Rattle.std.specs.declared.alloc.Global.{Global}
use Rattle.std.specs.declared.sync.Arc.{Arc}
use Rattle.std.specs.declared.vec.Vec.{Vec}
use Rattle.snesl_data.specs.Types.{ty_of}
use Rattle.snesl_data.specs.declared.ty.Ty.{Ty}
use Rattle.flow_messages.specs.Ends.{View}
use Rattle.flow_messages.specs.Kinds.{TakesKind}
use Rattle.flow_messages.specs.Signals.{Signal}
use Rattle.flow_messages.specs.declared.ends.Ends.{Ghosts as EndsGhosts}
use Rattle.flow_messages.specs.declared.message.Kind.{Kind}
use Rattle.flow_base.specs.Visits.{IsPlaced, Went, edge_of}
use Rattle.flow_scalar.specs.SourceBehaviour.{source_behaviour}
use Rattle.flow_scalar.specs.Streams.{Items}
use Rattle.flow_nodes.specs.inputs.Items.{items_from}
use Rattle.flow_nodes.specs.inputs.Sends.{Sends}
use Rattle.flow_nodes.specs.inputs.TextSources.{text_source_state}
use Rattle.flow_nodes.specs.inputs.Ways.{leaf_at, way_to}
use Rattle.flow_nodes.specs.declared.inputs.source.TextSource.{TextSource}

-- the items that the value at this place puts on an edge of its type
abbrev pub items_on_edge : Arc (Vec ℕ Global) Global → Ty → ℕ → ℕ → Items
items_on_edge text ty edge place = items_from (arc_value text).items (way_to (ty_of ty) edge) (leaf_at (ty_of ty) edge) place

-- the edge of the output takes items of the kind
abbrev pub OutputTakes : View → List ℕ → Kind → Type 0
OutputTakes v outputs k = TakesKind (v.kind (edge_of outputs 0)) k

-- the source writes just these messages, one after another
abbrev pub SourceSends : TextSource → List Signal → TextSource → Type 0
SourceSends old ms new = Sends (text_source_state old) ms (text_source_state new)

-- these are the edges at the ports of the source, and their ends are there
abbrev pub SourceIsPlaced : List ℕ → List ℕ → TextSource → View → Type 0
SourceIsPlaced inputs outputs n v = IsPlaced source_behaviour inputs outputs (text_source_state n) v

-- the source made so many steps
abbrev pub SourceWent : {E : Type 0} → EndsGhosts E → List ℕ → TextSource → E → TextSource → E → ℕ → Type 0
SourceWent e outputs old a new b steps =
    (inputs : List ℕ) → Went inputs outputs source_behaviour (text_source_state old) (e.view a) (text_source_state new) (e.view b) steps
