-- Which part is at fault, of what the program's data hold.
use Rattle.std.specs.Prelude.{ℕ, List, map, Option}
use Rattle.snesl_data.specs.declared.ty.Ty.{Ty as TyTree}
use Rattle.snesl_data.specs.Types.{ty_of}
use Rattle.snesl_grammar.specs.declared.tree.declaration.Declaration.{Declaration}
use Rattle.snesl_grammar.specs.declared.tree.declaration.Function.{Function}
use Rattle.snesl_grammar.specs.declared.tree.expr.Expr.{Expr}
use Rattle.snesl_grammar.specs.declared.tree.operator.Builtin.{Builtin}
use Rattle.snesl_grammar.specs.declared.tree.operator.Operator.{Operator}
use Rattle.snesl_grammar.specs.tree.Tree.{Tree, Trees}
use Rattle.snesl_grammar.specs.tree.View.{declaration_of, tree_of, trees_of}
use Rattle.snesl_types.specs.declared.clashes.Clash.{Clash as Told}
use Rattle.snesl_types.specs.Clashes.{clash_of, items}
use Rattle.snesl_advice.specs.culprits.Culprits.{IsAmong, IsDeclared, IsOfDeclaration, IsOfFunction}
use Rattle.snesl_advice.specs.culprits.Faults.{argument_at_fault, branch_at_fault, item_at_fault, operand_at_fault, other_than}

-- of an operator's operands
abbrev pub operand_of : Told → Operator → (left right : Expr) → Option Tree
operand_of clash operator left right = operand_at_fault (clash_of clash) operator (tree_of left) (tree_of right)

-- of a built-in function's arguments
abbrev pub argument_of : Told → Builtin → List Expr → Option Tree
argument_of clash function arguments = argument_at_fault (clash_of clash) function (trees_of arguments)

-- of an `if`
abbrev pub branch_of : Told → (condition negative : Expr) → Option Tree
branch_of clash condition negative = branch_at_fault (clash_of clash) (tree_of condition) (tree_of negative)

-- of a literal's items, which are of these types
abbrev pub item_of : List TyTree → List Expr → Option Tree
item_of types all = item_at_fault (items (map ty_of types)) (trees_of all)

-- of parts of these types, where others are wanted
abbrev pub other_of : (wanted found : List TyTree) → List Expr → Option Tree
other_of wanted found parts = other_than (map ty_of wanted) (map ty_of found) (trees_of parts)

-- it is so in one of these
abbrev pub IsInParts : ℕ → Told → Trees → Tree → Type 0
IsInParts at clash trees = λ part. IsAmong at (clash_of clash) part trees

-- in a function
abbrev pub IsInFunction : ℕ → Told → Function → Tree → Type 0
IsInFunction at clash function = IsOfFunction at (clash_of clash) function.name (tree_of function.body)

-- in a declaration
abbrev pub IsInDeclaration : ℕ → Told → Declaration → Tree → Type 0
IsInDeclaration at clash declaration = IsOfDeclaration at (clash_of clash) (declaration_of declaration)

-- in one of these declarations
abbrev pub IsInDeclarations : ℕ → Told → List Declaration → Tree → Type 0
IsInDeclarations at clash declarations = λ part. IsDeclared at (clash_of clash) part (map declaration_of declarations)
