-- What stands after the sources of a program.
use Rattle.std.specs.Prelude.{ℕ, List, Result}
use Rattle.std.specs.declared.alloc.Global.{Global}
use Rattle.std.specs.declared.vec.Vec.{Vec}
use Rattle.snesl_data.specs.declared.refusal.Refusal.{Refusal}
use Rattle.snesl_values.specs.Inputs.{InputDeclaration}
use Rattle.snesl_grammar.specs.tree.Tree.{Tree}
use Rattle.snesl_grammar.specs.tree.View.{tree_of}
use Rattle.snesl_grammar.specs.declared.tree.expr.Expr.{Expr}
use Rattle.flow_nodes.specs.plans.Plans.{print}
use Rattle.snesl_translation.specs.Wires.{Wires, type_of_wires, numbers_of, Bound}
use Rattle.snesl_translation.specs.Makings.{Making, and_then, tested}
use Rattle.snesl_translation.specs.Translation.{tr}
use Rattle.snesl_translation.specs.Programs.{inputs_sourced, unset_cells}
use Rattle.snesl_translator.specs.steps.Added.{Adds}
use Rattle.snesl_translator.specs.steps.Views.{bindings_of, dialect_of_steps, next_in, wires_of}
use Rattle.snesl_translator.specs.declared.steps.wires.Binding.{Binding}
use Rattle.snesl_translator.specs.declared.steps.wires.Wires.{Wires as WiresData}
use Rattle.snesl_translator.specs.declared.steps.steps.Steps.{Steps}
use Rattle.snesl_translator.specs.Translated.{bodies_in}
use Rattle.snesl_translator.specs.declared.translator.ProgramContext.{ProgramContext}

-- the steps of an expression after these, and a Print of its value
abbrev pub printed : Steps → ℕ → ProgramContext → Tree → Bound → ℕ → Making Wires
printed steps at context tree bound control =
    and_then (tr (dialect_of_steps steps) context.text.now (bodies_in (dialect_of_steps steps) context) tree bound control (next_in steps)) (λ w k.
    tested at (print (type_of_wires w)) (numbers_of w) w k)

-- they were added, and their streams are the result
abbrev pub AddsPrinted : ℕ → ProgramContext → Expr → List Binding → (control : ℕ) → Steps → Steps → Result WiresData Refusal → Type 0
AddsPrinted at context expr inputs control steps later result =
    Adds wires_of steps later (printed steps at context (tree_of expr) (bindings_of inputs) control) result

-- the sources of inputs were added, which write nothing yet, and their streams beside the names are the result
abbrev pub AddsInputSources : ℕ → List InputDeclaration → Steps → Steps → Result (Vec Binding Global) Refusal → Type 0
AddsInputSources at inputs steps later result =
    Adds (λ (bindings : Vec Binding Global). bindings_of bindings.items) steps later (inputs_sourced at unset_cells inputs (next_in steps)) result
