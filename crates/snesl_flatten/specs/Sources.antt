-- The sources of a plan as they are set one after another.
use Rattle.std.specs.Prelude.{◌≡◌, ℕ, ◌-◌, List, [], ◌∷◌, ◌++◌, map, slice_index_or}
use Rattle.snesl_values.specs.Inputs.{InputDeclaration}
use Rattle.snesl_grammar.specs.tree.Tree.{ProgramTree}
use Rattle.flow_messages.specs.Cells.{Cell}
use Rattle.flow_messages.specs.declared.message.Kind.{Kind}
use Rattle.flow_base.specs.Columns.{Columns}
use Rattle.flow_scalar.specs.SourceBehaviour.{source_opening}
use Rattle.flow_values.specs.Shapes.{kinds_of}
use Rattle.flow_nodes.specs.declared.inputs.source.TextSource.{TextSource}
use Rattle.flow_nodes.specs.inputs.TextSources.{items_in, text_source_state}
use Rattle.flow_nodes.specs.StreamNodes.{node_behaviour}
use Rattle.flow_networks.specs.declared.edge.Edge.{Edge}
use Rattle.flow_networks.specs.Networks.{AreOpened}
use Rattle.flow_nodes.specs.plans.Layouts.{layout, places, IsNetworkOfPlan}
use Rattle.flow_assembly.specs.Openings.{AllOpen}
use Rattle.snesl_translation.specs.Wires.{type_of_wires}
use Rattle.snesl_translation.specs.Programs.{first_offset, program_plan, unset_cells}
use Rattle.snesl_flatten.specs.texts.PrintedTexts.{PrintsAtTheEnd}
use Rattle.snesl_flatten.specs.Networks.{StreamNodeState, program_steps}

-- what a source over a text writes, and of which kind
abbrev pub cells_in : TextSource → List Cell
cells_in source = (items_in source).cells

abbrev pub source_kind : TextSource → Kind
source_kind source = (items_in source).kind

-- none of them has written anything
abbrev pub AreFresh : List TextSource → Type 0
AreFresh sources = map text_source_state sources ≡ map (λ source. source_opening (items_in source)) sources

-- the kinds of the streams of inputs, in order
abbrev pub all_kinds : List InputDeclaration → List Kind
all_kinds [] = []
all_kinds (declaration ∷ declarations) = kinds_of declaration.1 ++ all_kinds declarations

-- what sources write where just the first ones are set, to these columns
abbrev pub source_columns : Columns → ℕ → List Cell
source_columns columns number = slice_index_or columns (number - 1) []

-- The network is that of the program whose first sources are set to these columns, before any step: each node is in the state
-- in which it opens, its faults at the offset of its form. Its last node is a Print, and the nodes of its steps are where
-- they were.
pub record HasSources (text : List ℕ) (program : ProgramTree) (inputs : List InputDeclaration) (columns : Columns) (states : List StreamNodeState) (edges : List Edge) : Type 0 where
  pub network : IsNetworkOfPlan node_behaviour (program_steps text program inputs (source_columns columns)) states edges
  pub opens : AllOpen (layout (program_steps text program inputs (source_columns columns))) states
  pub opened : AreOpened node_behaviour states
  pub print : PrintsAtTheEnd (type_of_wires (program_plan text program inputs unset_cells).given) (first_offset program.expression) states
  pub places_are : places (program_steps text program inputs (source_columns columns)) ≡ places (program_steps text program inputs unset_cells)
