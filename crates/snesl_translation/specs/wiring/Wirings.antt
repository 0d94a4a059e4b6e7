-- The plans of typed programs are wired: each step reads streams that there are, of the kinds of its ports.
use Rattle.std.specs.Prelude.{◌≡◌, ℕ, List, []}
use Rattle.snesl_data.specs.Types.{Ty}
use Rattle.snesl_grammar.specs.tree.Tree.{ProgramTree}
use Rattle.snesl_types.specs.Programs.{Declared, ProgramTypes}
use Rattle.flow_messages.specs.Cells.{Cell}
use Rattle.flow_nodes.specs.plans.Ports.{AreWired}
use Rattle.snesl_translation.specs.Wires.{type_of_wires}
use Rattle.snesl_translation.specs.Programs.{program_plan}

-- the plan of a typed program is wired whatever its sources write, and gives streams of the program's type
abbrev pub PlansAreWired : Type 0
PlansAreWired =
    (text : List ℕ) (program : ProgramTree) (declared : Declared) (t : Ty) (cells : ℕ → List Cell)
    → ProgramTypes text program declared t
    → let plan = program_plan text program declared.inputs cells in AreWired [] plan.steps × (type_of_wires plan.given ≡ t)
