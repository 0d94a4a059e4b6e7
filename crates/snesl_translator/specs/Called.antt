-- Which function a call means, where the translator stands.
use Rattle.std.specs.Prelude.{◌≡◌, ◌+◌, ◌≤◌, ℕ, List, map}
use Rattle.std.specs.Borrow.{Bor}
use Rattle.snesl_data.specs.declared.dialect.Dialect.{Dialect}
use Rattle.snesl_grammar.specs.declared.tree.declaration.Declaration.{Declaration}
use Rattle.snesl_grammar.specs.declared.tree.declaration.Function.{Function}
use Rattle.snesl_grammar.specs.tree.View.{declaration_of, tree_of, typed_of}
use Rattle.snesl_evaluation.specs.Scopes.{weight, weight_of}
use Rattle.snesl_translation.specs.Wires.{Wires}
use Rattle.snesl_translation.specs.Makings.{Making, done}
use Rattle.snesl_translation.specs.Translation.{nowhere, tr}
use Rattle.snesl_translation.specs.Functions.{bodies_of, parameters_bound}

-- the steps of a function that stands after these declarations, at these streams of its arguments
abbrev pub entered : Dialect → List ℕ → Function → List Declaration → List Wires → (control next : ℕ) → Making Wires
entered dialect text function earlier arguments control next =
    tr dialect text (bodies_of dialect text (map declaration_of earlier)) (tree_of function.body)
    (parameters_bound text (map typed_of function.parameters.items) arguments) control next

-- calls of this name are, in each dialect, calls of this function, which stands after these declarations
abbrev pub IsCalled : List ℕ → List Declaration → List ℕ → Function → List Declaration → Type 0
IsCalled text declarations name function earlier =
    (dialect : Dialect) (at : ℕ) (arguments : List Wires) (control next : ℕ)
    → bodies_of dialect text (map declaration_of declarations) at name arguments control next ≡ entered dialect text function earlier arguments control next

-- this is such a function, with the declarations before it
abbrev pub IsLast : List ℕ → List Declaration → List ℕ → Bor Function × Bor (List Declaration) → Type 0
IsLast text declarations name found = IsCalled text declarations name found.0.now found.1.now

-- a function and the declarations before it weigh no more than these declarations
abbrev pub IsNoHeavier : List Declaration → Bor Function × Bor (List Declaration) → Type 0
IsNoHeavier declarations found = weight_of found.0.now + weight found.1.now ≤ weight declarations

-- calls of this name have no function
abbrev pub IsUnknown : List ℕ → List Declaration → List ℕ → Type 0
IsUnknown text declarations name =
    (dialect : Dialect) (at : ℕ) (arguments : List Wires) (control next : ℕ)
    → bodies_of dialect text (map declaration_of declarations) at name arguments control next ≡ done nowhere next
