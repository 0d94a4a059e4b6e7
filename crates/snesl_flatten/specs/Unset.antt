-- The network of a program, no source of which is set.
use Rattle.std.specs.Prelude.{◌≡◌, ℕ, suc, ◌<◌, List, [], length, slice_index_or, Some}
use Rattle.std.specs.List.{slice_get}
use Rattle.flow_networks.specs.declared.edge.Edge.{Edge}
use Rattle.flow_networks.specs.Networks.{state_at}
use Rattle.flow_nodes.specs.StreamNodes.{node_behaviour}
use Rattle.flow_nodes.specs.plans.Layouts.{Placed, layout, places}
use Rattle.flow_nodes.specs.plans.Plans.{Step}
use Rattle.flow_assembly.specs.Openings.{IsUsable}
use Rattle.flow_nodes.specs.plans.Views.{steps_of}
use Rattle.flow_nodes.specs.declared.plans.operation.Step.{Step as StepData}
use Rattle.snesl_translation.specs.Makings.{Making}
use Rattle.snesl_translation.specs.Programs.{program_plan, unset_cells}
use Rattle.snesl_translation.specs.Wires.{Wires}
use Rattle.snesl_types.specs.Typed.{typed_dialect, typed_inputs, typed_text, typed_tree}
use Rattle.snesl_types.specs.declared.typed.TypedProgram.{TypedProgram}
use Rattle.snesl_flatten.specs.Networks.{StreamNodeState, program_steps}
use Rattle.snesl_flatten.specs.Sources.{all_kinds, HasSources}

-- the steps of a program, whose sources write nothing yet
abbrev pub unset_steps : TypedProgram → List Step
unset_steps typed = program_steps (typed_text typed) (typed_tree typed) (typed_inputs typed) unset_cells

-- these are they
abbrev pub AreUnsetSteps : TypedProgram → List StepData → Type 0
AreUnsetSteps typed steps = steps_of (typed_dialect typed) steps ≡ unset_steps typed

-- how they are made
abbrev pub unset_plan : TypedProgram → Making Wires
unset_plan typed = program_plan (typed_text typed) (typed_tree typed) (typed_inputs typed) unset_cells

-- The network is that of the program, no source of which is set, before any step; and the nodes of the steps are at these places.
pub record HoldsNetwork (typed : TypedProgram) (states : List StreamNodeState) (edges : List Edge) (at : List ℕ) : Type 0 where
  pub sources : HasSources (typed_text typed) (typed_tree typed) (typed_inputs typed) [] states edges
  -- each of its forks has two outputs at least
  pub usable : (k : ℕ) (placed : Placed) → slice_get (layout (unset_steps typed)) k ≡ Some placed → IsUsable placed.operation
  pub places_are : at ≡ places (unset_steps typed)

-- node k is the source of a stream of the inputs: those are the steps after the first one, in order
abbrev pub IsInputSource : TypedProgram → ℕ → Type 0
IsInputSource typed k =
    (n : ℕ) × (n < length (all_kinds (typed_inputs typed))) × (k ≡ slice_index_or (places (unset_steps typed)) (suc n) 0)

-- The states are those before, but for the sources of the inputs.
pub record AreButSources (typed : TypedProgram) (before states : List StreamNodeState) : Type 0 where
  pub nodes : length states ≡ length before
  pub others : (k : ℕ) → (IsInputSource typed k → ⊥) → state_at node_behaviour states k ≡ state_at node_behaviour before k
