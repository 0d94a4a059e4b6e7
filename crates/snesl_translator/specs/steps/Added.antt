-- What a call adds to the steps of a plan.
use Rattle.std.specs.Prelude.{◌≡◌, ℕ, List, [], ◌∷◌, ◌<◌, ◌+◌, ◌++◌, length, Result, Ok, Err}
use Rattle.snesl_data.specs.Types.{bool, ty_of}
use Rattle.snesl_data.specs.declared.ty.Ty.{Ty}
use Rattle.snesl_data.specs.declared.refusal.Refusal.{Refusal}
use Rattle.snesl_data.specs.declared.refusal.Refusal.TheVariants.{TooBig, NoMemory}
use Rattle.flow_networks.specs.Limits.{most_nodes}
use Rattle.snesl_data.specs.declared.operators.operator.Reduction.{Reduction}
use Rattle.snesl_data.specs.declared.operators.scalar.Scalar.{Scalar}
use Rattle.snesl_grammar.specs.declared.tree.operator.Builtin.{Builtin}
use Rattle.snesl_grammar.specs.declared.tree.operator.Operator.{Operator}
use Rattle.snesl_grammar.specs.declared.tree.operator.Prefix.{Prefix}
use Rattle.flow_messages.specs.declared.message.Kind.{Kind}
use Rattle.flow_nodes.specs.plans.Plans.{Step, const, index}
use Rattle.flow_nodes.specs.plans.Views.{operation_of}
use Rattle.flow_nodes.specs.declared.plans.operation.Operation.{Operation}
use Rattle.snesl_translation.specs.Makings.{Making, done, stepped, tested}
use Rattle.snesl_translation.specs.Moving.{flags_stepped, mixed}
use Rattle.snesl_translation.specs.Programs.{source_steps, unset_cells}
use Rattle.snesl_translation.specs.Translation.{appended, binary_streams, call_streams, parted, prefix_streams, reduction}
use Rattle.snesl_translation.specs.Wires.{Wires, item_type, stream_of, type_of_wires, wire}
use Rattle.snesl_translator.specs.steps.Views.{dialect_of_steps, steps_in, next_in, wires_of}
use Rattle.snesl_translator.specs.declared.steps.steps.Steps.{Steps}
use Rattle.snesl_translator.specs.declared.steps.wires.Wires.{Wires as WiresData}

-- just the steps of this making are there now after the others
pub record HasMade {B : Type 0} (old new : Steps) (making : Making B) (value : B) : Type 0 where
  pub dialect : dialect_of_steps new ≡ dialect_of_steps old
  pub steps : steps_in new ≡ steps_in old ++ making.steps
  pub next : next_in new ≡ making.next
  pub given : value ≡ making.given

-- The steps of this making were added, and the result is what it gives; or memory was refused; or there would be more steps
-- than a graph has nodes.
abbrev pub Adds : {A B : Type 0} → (A → B) → Steps → Steps → Making B → Result A Refusal → Type 0
Adds view old new making (Ok x) = HasMade old new making (view x)
Adds view old new making (Err NoMemory) = Unit {0}
Adds view old new making (Err TooBig) = most_nodes < length (steps_in old) + length making.steps
Adds view old new making (Err refusal) = ⊥

-- a making of these steps that gives nothing
abbrev pub only_steps : List Step → ℕ → Making (Unit {0})
only_steps steps next = record { steps = steps; given = tt {0}; next = next }

-- so it is with a making from the next stream on, and the result is the streams that it gives
abbrev pub AddsWires : Steps → Steps → (ℕ → Making Wires) → Result WiresData Refusal → Type 0
AddsWires old new making result = Adds wires_of old new (making (next_in old)) result

-- so it is with one that only tests
abbrev pub AddsTests : Steps → Steps → (ℕ → Making (Unit {0})) → Result (Unit {0}) Refusal → Type 0
AddsTests old new making result = Adds (λ x. x) old new (making (next_in old)) result

-- no step was added, and the result is these streams; or memory was refused
abbrev pub OnlyGives : Steps → Steps → Wires → Result WiresData Refusal → Type 0
OnlyGives old new streams result = Adds wires_of old new (done streams (next_in old)) result

-- so it is with one step of an operation, which writes the streams of a type
abbrev pub AddsStep : Steps → Steps → ℕ → Operation → List ℕ → Ty → Result WiresData Refusal → Type 0
AddsStep old new at operation reads ty result =
    AddsWires old new (λ next. stepped at (operation_of (dialect_of_steps old) operation) reads (ty_of ty) next) result

-- a constant of a type, for each Unit of a control stream
abbrev pub AddsConstant : Steps → Steps → ℕ → Scalar → Ty → ℕ → Result WiresData Refusal → Type 0
AddsConstant old new at scalar ty control result = AddsWires old new (λ next. stepped at (const scalar) (control ∷ []) (ty_of ty) next) result

-- one that writes a stream of flags
abbrev pub AddsFlags : Steps → Steps → ℕ → Operation → List ℕ → Result ℕ Refusal → Type 0
AddsFlags old new at operation reads result =
    Adds (λ number. wire bool number) old new (flags_stepped at (operation_of (dialect_of_steps old) operation) reads (next_in old)) result

-- one that writes nothing
abbrev pub AddsTest : Steps → Steps → ℕ → Operation → List ℕ → Result (Unit {0}) Refusal → Type 0
AddsTest old new at operation reads result =
    AddsTests old new (λ next. tested at (operation_of (dialect_of_steps old) operation) reads (tt {0}) next) result

-- the beginnings of streams of these kinds, whose lists are to be set
abbrev pub AddsSources : Steps → Steps → ℕ → List Kind → Result (Unit {0}) Refusal → Type 0
AddsSources old new at kinds result = AddsTests old new (λ next. only_steps (source_steps at unset_cells next kinds) next) result

-- a built-in function at the streams of its arguments
abbrev pub AddsCall : Steps → Steps → ℕ → Builtin → List Wires → Result WiresData Refusal → Type 0
AddsCall old new at function arguments result =
    AddsWires old new (λ next. call_streams (dialect_of_steps old) at function arguments next) result

-- a reduction of items to a value of a type
abbrev pub AddsReduction : Steps → Steps → ℕ → Reduction → Ty → WiresData → Result WiresData Refusal → Type 0
AddsReduction old new at by ty items result =
    AddsWires old new (λ next. reduction (dialect_of_steps old) at by (ty_of ty) (wires_of items) next) result

-- an operator between two operands
abbrev pub AddsOperator : Steps → Steps → ℕ → Operator → (left right : WiresData) → Result WiresData Refusal → Type 0
AddsOperator old new at operator left right result =
    AddsWires old new (λ next. binary_streams (dialect_of_steps old) at operator (wires_of left) (wires_of right) next) result

-- one before its operand
abbrev pub AddsPrefix : Steps → Steps → ℕ → Prefix → WiresData → Result WiresData Refusal → Type 0
AddsPrefix old new at operator operand result =
    AddsWires old new (λ next. prefix_streams (dialect_of_steps old) at operator (wires_of operand) next) result

-- an element of a vector, by its place
abbrev pub AddsElement : Steps → Steps → ℕ → (vector place : WiresData) → Result WiresData Refusal → Type 0
AddsElement old new at vector place result =
    let item = item_type (type_of_wires (wires_of vector)) in
    AddsWires old new (λ next. stepped at (index item) (stream_of (wires_of vector) ∷ stream_of (wires_of place) ∷ []) item next) result

-- one sequence followed by another
abbrev pub AddsAppended : Steps → Steps → ℕ → (left right : WiresData) → Result WiresData Refusal → Type 0
AddsAppended old new at left right result = AddsWires old new (λ next. appended at (wires_of left) (wires_of right) next) result

-- of two values with as many segments, of flags f and g, the elements of both
abbrev pub AddsMixed : Steps → Steps → (at f g : ℕ) → (left right : WiresData) → Result WiresData Refusal → Type 0
AddsMixed old new at f g left right result = AddsWires old new (λ next. mixed at f g (wires_of left) (wires_of right) next) result

-- a sequence in parts, as truth values say
abbrev pub AddsParts : Steps → Steps → ℕ → (sequence ends : WiresData) → Result WiresData Refusal → Type 0
AddsParts old new at sequence ends result = AddsWires old new (λ next. parted at (wires_of sequence) (wires_of ends) next) result
