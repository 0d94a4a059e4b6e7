-- What the checker's data hold, and what its functions answer.
use Rattle.std.specs.Prelude.{ℕ, List, [], ◌∷◌, map, Vec, Result}
use Rattle.std.specs.Global.{Global}
use Rattle.snesl_data.specs.declared.dialect.Dialect.{Dialect}
use Rattle.snesl_data.specs.declared.refusal.Refusal.{Refusal}
use Rattle.snesl_data.specs.Types.{Ty, ty_of}
use Rattle.snesl_data.specs.declared.ty.Ty.{Ty as TyTree}
use Rattle.snesl_values.specs.Inputs.{InputDeclaration, declared}
use Rattle.snesl_grammar.specs.declared.tree.declaration.Declaration.{Declaration}
use Rattle.snesl_grammar.specs.declared.tree.declaration.Function.{Function as WrittenFunction}
use Rattle.snesl_grammar.specs.declared.tree.declaration.Typing.{Typing}
use Rattle.snesl_grammar.specs.declared.tree.expr.Expr.{Expr}
use Rattle.snesl_grammar.specs.declared.tree.operator.Operator.{Operator}
use Rattle.snesl_grammar.specs.declared.tree.span.Span.{Span}
use Rattle.snesl_grammar.specs.tree.Tree.{Tree, Trees, Condition, binary, binding, choice, filter, only_where}
use Rattle.snesl_grammar.specs.tree.View.{tree_of, trees_of, type_tree, typed_of, declaration_of}
use Rattle.snesl_grammar.specs.declared.program.Program.{Program}
use Rattle.snesl_grammar.specs.View.{program_of as tree_of_program}
use Rattle.snesl_types.specs.declared.declarations.Declarations.{Declarations}
use Rattle.snesl_types.specs.declared.names.Function.{Function}
use Rattle.snesl_types.specs.Programs.{Declared, nothing_declared}
use Rattle.snesl_types.specs.Names.{signature_in, signatures_in, sizes_in}
use Rattle.snesl_types.specs.Verdicts.{IsVerdict, name_verdict, function_verdict, declarations_verdict, expression_verdict, program_verdict}

-- the types that a vector holds
abbrev pub held_types : Vec TyTree Global → List Ty
held_types types = map ty_of types.items

-- the names with their types that a vector holds
abbrev pub held_names : Vec (Vec ℕ Global × TyTree) Global → List InputDeclaration
held_names names = declared names.items

-- the trees of two expressions
abbrev pub two_trees : Expr → Expr → Trees
two_trees first second = trees_of (first ∷ second ∷ [])

-- and of three
abbrev pub three_trees : Expr → Expr → Expr → Trees
three_trees first second third = trees_of (first ∷ second ∷ third ∷ [])

-- an operator's tree at these expressions
abbrev pub binary_of : ℕ → Operator → Expr → Expr → Tree
binary_of at operator left right = binary at operator (tree_of left) (tree_of right)

-- a `let` of these
abbrev pub binding_of : ℕ → Span → Expr → Expr → Tree
binding_of at place value body = binding at place (tree_of value) (tree_of body)

-- an `if` of these
abbrev pub if_of : ℕ → Expr → Expr → Expr → Tree
if_of at condition positive negative = choice at (tree_of condition) (tree_of positive) (tree_of negative)

-- a filter of these
abbrev pub filter_of : ℕ → Expr → Expr → Tree
filter_of at item condition = filter at (tree_of item) (tree_of condition)

-- that this expression holds
abbrev pub only_where_of : Expr → Condition
only_where_of condition = only_where (tree_of condition)

-- what was declared
abbrev pub declared_in : List ℕ → Declarations → Declared
declared_in text declarations = record {
  inputs = declared declarations.inputs.items;
  functions = signatures_in text declarations.functions.items;
  sizes = sizes_in text declarations.functions.items;
}

-- what was declared, and a type
abbrev pub typing_in : List ℕ → Declarations × TyTree → Declared × Ty
typing_in text typing = (declared_in text typing.0, ty_of typing.1)

-- a name after these, with its type
abbrev pub name_verdict_in : List ℕ → List (Vec ℕ Global × TyTree) → Typing → Result InputDeclaration Refusal
name_verdict_in text earlier typing = name_verdict text (declared earlier) (typed_of typing)

-- what these declarations declare, as IsVerdict
abbrev pub AreDeclared : Dialect → List ℕ → List Declaration → Result Declarations Refusal → Type 0
AreDeclared dialect text declarations =
    IsVerdict (declared_in text) (declarations_verdict dialect text nothing_declared (map declaration_of declarations))

-- what a call sees of a function that is written after these, as IsVerdict
abbrev pub IsSignature : Dialect → List ℕ → List Function → WrittenFunction → Result Function Refusal → Type 0
IsSignature dialect text earlier written =
    IsVerdict (signature_in text)
    (function_verdict dialect text (signatures_in text earlier) written.name (map typed_of written.parameters.items) (type_tree written.result) (tree_of written.body))

-- the type of the final expression after these declarations, as IsVerdict
abbrev pub IsFinalType : Dialect → List ℕ → Declarations → Tree → Result TyTree Refusal → Type 0
IsFinalType dialect text declarations tree =
    IsVerdict (λ ty. (declared_in text declarations, ty_of ty)) (expression_verdict dialect text (declared_in text declarations) tree)

-- what a program declares, and its type, as IsVerdict
abbrev pub IsTyping : Program → Result (Declarations × TyTree) Refusal → Type 0
IsTyping program = IsVerdict (typing_in program.text.items) (program_verdict program.text.items (tree_of_program program))
