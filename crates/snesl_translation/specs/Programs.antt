-- The plan of a program: sources of its inputs, its expression under a control stream of one Unit, and a Print of the value.
use Rattle.std.specs.Prelude.{◌≡◌, ℕ, zero, suc, ◌+◌, ◌-◌, List, [], ◌∷◌, ◌++◌, Some, None, slice_index_or}
use Rattle.snesl_data.specs.declared.fault.FaultKind.{FaultKind}
use Rattle.snesl_data.specs.Types.{Ty}
use Rattle.snesl_data.specs.Values.{Value}
use Rattle.snesl_values.specs.Inputs.{InputDeclaration, Environment, FitDeclarations}
use Rattle.snesl_grammar.specs.tree.Tree.{Tree, integer, truth, name, binary, prefix, call, apply, group, pair, binding, choice, literal, filter, each, ProgramTree}
use Rattle.snesl_evaluation.specs.Answer.{gives, faults}
use Rattle.snesl_evaluation.specs.Eval.{program_value}
use Rattle.snesl_types.specs.Programs.{Declared, ProgramTypes}
use Rattle.flow_messages.specs.Cells.{Cell, unit}
use Rattle.flow_messages.specs.declared.message.Kind.{Kind}
use Rattle.flow_messages.specs.declared.message.Kind.TheVariants.{Unit as UnitKind}
use Rattle.flow_base.specs.Columns.{Columns}
use Rattle.flow_values.specs.Shapes.{kinds_of}
use Rattle.flow_values.specs.Flats.{width}
use Rattle.flow_nodes.specs.functions.Made.{columns_of_values}
use Rattle.flow_nodes.specs.plans.Plans.{source, print, Step, streams_at, run}
use Rattle.snesl_translation.specs.Wires.{Wires, type_of_wires, numbers_of, wires_from, Bound}
use Rattle.snesl_translation.specs.Makings.{Making, done, and_then, tested}
use Rattle.snesl_translation.specs.Translation.{tr}
use Rattle.snesl_translation.specs.Functions.{bodies_of}

-- the offset of an expression's first token: that of its left operand, where it has one
abbrev pub first_offset : Tree → ℕ
first_offset (integer at value) = at
first_offset (truth at value) = at
first_offset (name place) = place.at
first_offset (binary at operator left right) = first_offset left
first_offset (prefix at operator operand) = at
first_offset (call at function arguments) = at
first_offset (apply function arguments) = function.at
first_offset (group at inner) = at
first_offset (pair at first second) = at
first_offset (binding at place value body) = at
first_offset (choice at condition positive negative) = at
first_offset (literal at items) = at
first_offset (filter at item condition) = at
first_offset (each at body binders condition) = at

-- sources of these kinds, the first of which writes the stream of this number; what that of stream n writes are the cells of n
abbrev pub source_steps : ℕ → (ℕ → List Cell) → ℕ → List Kind → List Step
source_steps at cells number [] = []
source_steps at cells number (kind ∷ kinds) =
    record { at = at; operation = source kind (cells number); reads = [] } ∷ source_steps at cells (suc number) kinds

-- the sources of a value of the type
abbrev pub sourced : ℕ → (ℕ → List Cell) → Ty → ℕ → Making Wires
sourced at cells t next = record {
  steps = source_steps at cells next (kinds_of t);
  given = wires_from t next;
  next = next + width t;
}

-- those of inputs, beside their names
abbrev pub inputs_sourced : ℕ → (ℕ → List Cell) → List InputDeclaration → ℕ → Making Bound
inputs_sourced at cells [] next = done [] next
inputs_sourced at cells (declaration ∷ declarations) next =
    and_then (sourced at cells declaration.1 next) (λ u k.
    and_then (inputs_sourced at cells declarations k) (λ bound k. done ((declaration.0, u) ∷ bound) k))

-- the columns of inputs that have these values
abbrev pub columns_of : List InputDeclaration → Environment → Columns
columns_of (declaration ∷ declarations) (entry ∷ environment) = columns_of_values declaration.1 (entry.1 ∷ []) ++ columns_of declarations environment
columns_of _ _ = []

-- what their sources write: the control stream has number 0, and the columns have the next ones
abbrev pub cells_of : List InputDeclaration → Environment → ℕ → List Cell
cells_of inputs environment number = slice_index_or (columns_of inputs environment) (number - 1) []

-- nothing is set yet
abbrev pub unset_cells : ℕ → List Cell
unset_cells number = []

-- the control stream of a program: one Unit
abbrev pub control_sourced : ℕ → ℕ → Making ℕ
control_sourced at next = record {
  steps = record { at = at; operation = source UnitKind (unit ∷ []); reads = [] } ∷ [];
  given = next;
  next = suc next;
}

-- The plan of a program of these inputs, whose sources write these cells; it gives the streams of the program's value. Its
-- steps, but for what sources write, are the same whatever the inputs are.
abbrev pub program_plan : List ℕ → ProgramTree → List InputDeclaration → (ℕ → List Cell) → Making Wires
program_plan text program inputs cells =
    let at = first_offset program.expression in
    and_then (control_sourced at zero) (λ control k.
    and_then (inputs_sourced at cells inputs k) (λ bound k.
    and_then (tr program.dialect text (bodies_of program.dialect text program.declarations) program.expression bound control k) (λ w k.
    tested at (print (type_of_wires w)) (numbers_of w) w k)))

-- Of a typed program and fitting inputs the plan runs just where the program has a value, and then its streams carry that one
-- value to Print.
abbrev pub PlansMean : Type 0
PlansMean =
    (text : List ℕ) (program : ProgramTree) (declared : Declared) (t : Ty) (environment : Environment)
    → ProgramTypes text program declared t → FitDeclarations program.dialect declared.inputs environment
    → let plan = program_plan text program declared.inputs (cells_of declared.inputs environment) in
    ((value : Value) → program_value text program environment ≡ gives value
    → (type_of_wires plan.given ≡ t) × ((streams : Columns) × (run plan.steps [] ≡ Some streams) × (streams_at (numbers_of plan.given) streams ≡ Some (columns_of_values t (value ∷ [])))))
    × ((kind : FaultKind) (at : ℕ) → program_value text program environment ≡ faults kind at → run plan.steps [] ≡ None)
