-- The network of a program, whose sources are set to inputs.
use Rattle.std.specs.Prelude.{◌≡◌, ℕ, List, [], ◌∷◌, ◌++◌, map}
use Rattle.std.specs.Arc.{arc_value}
use Rattle.std.specs.declared.alloc.Global.{Global}
use Rattle.std.specs.declared.sync.Arc.{Arc}
use Rattle.std.specs.declared.vec.Vec.{Vec}
use Rattle.snesl_data.specs.declared.dialect.Dialect.{Dialect}
use Rattle.snesl_data.specs.declared.ty.Ty.{Ty as TyData}
use Rattle.snesl_data.specs.Types.{ty_of}
use Rattle.snesl_values.specs.Entries.{IsSpelledAt}
use Rattle.snesl_values.specs.Inputs.{InputDeclaration, environment_of}
use Rattle.snesl_values.specs.Places.{value_at}
use Rattle.snesl_values.specs.declared.environment.Inputs.{Inputs}
use Rattle.snesl_types.specs.Typed.{typed_inputs, typed_text, typed_tree}
use Rattle.snesl_types.specs.declared.typed.TypedProgram.{TypedProgram}
use Rattle.flow_nodes.specs.declared.inputs.source.TextSource.{TextSource}
use Rattle.flow_networks.specs.declared.edge.Edge.{Edge}
use Rattle.flow_nodes.specs.functions.Made.{columns_of_values}
use Rattle.flow_values.specs.Shapes.{kinds_of}
use Rattle.snesl_translation.specs.Programs.{columns_of}
use Rattle.snesl_flatten.specs.Networks.{StreamNodeState, NetworkMeans}
use Rattle.snesl_flatten.specs.Sources.{all_kinds, cells_in, source_kind, HasSources}

-- the sources write the values of these declared inputs
abbrev pub HoldInputs : List InputDeclaration → Inputs → List TextSource → Type 0
HoldInputs declarations inputs sources = map cells_in sources ≡ columns_of declarations (environment_of inputs)

-- they are of their kinds
abbrev pub HaveKindsOf : List InputDeclaration → List TextSource → Type 0
HaveKindsOf declarations sources = map source_kind sources ≡ all_kinds declarations

-- in some dialect the text spells a value of the type from this place on
abbrev pub SpellsValueAt : Arc (Vec ℕ Global) Global → TyData → (place : ℕ) → Type 0
SpellsValueAt text ty place = (dialect : Dialect) × IsSpelledAt dialect (arc_value text).items (ty_of ty) place

-- later sources that write this value stand after the others
abbrev pub AddsValue : Arc (Vec ℕ Global) Global → TyData → (place : ℕ) → List TextSource → List TextSource → Type 0
AddsValue text ty place sources later =
    map cells_in later ≡ map cells_in sources ++ columns_of_values (ty_of ty) (value_at (arc_value text).items place ∷ [])

-- later sources of the kinds of the type stand after the others
abbrev pub AddsKindsOf : TyData → List TextSource → List TextSource → Type 0
AddsKindsOf ty sources later = map source_kind later ≡ map source_kind sources ++ kinds_of (ty_of ty)

-- the network is that of the program, whose first sources are these
abbrev pub HasSourcesOf : TypedProgram → List TextSource → List StreamNodeState → List Edge → Type 0
HasSourcesOf typed sources states edges =
    HasSources (typed_text typed) (typed_tree typed) (typed_inputs typed) (map cells_in sources) states edges

-- or whose sources write these inputs
abbrev pub HasInputsSet : TypedProgram → Inputs → List StreamNodeState → List Edge → Type 0
HasInputsSet typed inputs states edges =
    HasSources (typed_text typed) (typed_tree typed) (typed_inputs typed) (columns_of (typed_inputs typed) (environment_of inputs)) states edges

-- it means what the program does for these inputs
abbrev pub MeansForTyped : TypedProgram → Inputs → List StreamNodeState → List Edge → Type 0
MeansForTyped typed inputs states edges = NetworkMeans (typed_text typed) (typed_tree typed) (environment_of inputs) states edges
