-- The trees that the program's data hold.
use Rattle.std.specs.Prelude.{List, [], ◌∷◌, map}
use Rattle.snesl_grammar.specs.declared.tree.expr.Expr.{Expr, Row_of-Expr, end_of-Expr, more_of-Expr, Row_of-Binder, end_of-Binder, more_of-Binder, Held-Expr-Each-3, None', Some'}
use Rattle.snesl_grammar.specs.declared.tree.expr.Expr.TheVariants.{Integer, Truth, Name, Binary', Prefix', Call', Apply', Group', Pair', Let', If', Literal', Filter', Each'}
use Rattle.snesl_grammar.specs.declared.tree.expr.Binder.{Binder}
use Rattle.snesl_grammar.specs.declared.tree.declaration.WrittenType.{WrittenType}
use Rattle.snesl_grammar.specs.declared.tree.declaration.WrittenType.TheVariants.{Int, Bool, Pair' as PairType', Vector', Sequence'}
use Rattle.snesl_grammar.specs.declared.tree.declaration.Typing.{Typing}
use Rattle.snesl_grammar.specs.declared.tree.declaration.Declaration.{Declaration}
use Rattle.snesl_grammar.specs.declared.tree.declaration.Declaration.TheVariants.{Input, Function as FunctionDeclaration}
use Rattle.snesl_grammar.specs.declared.tree.declaration.Function.{Function}
use Rattle.snesl_grammar.specs.tree.Tree.{Tree, Trees, Binders, Condition, integer, truth, name, binary, prefix, call, apply, group, pair, binding, choice}
use Rattle.snesl_grammar.specs.tree.Tree.{literal, filter, each, none, both, none_bound, binder, always, only_where, TypeTree, int_type, bool_type, pair_type}
use Rattle.snesl_grammar.specs.tree.Tree.{vector_type, sequence_type, TypedName, DeclarationTree, declares_input, declares_function}

abbrev mutual
  pub tree_of : Expr → Tree
  tree_of (Integer at value) = integer at value
  tree_of (Truth at value) = truth at value
  tree_of (Name place) = name place
  tree_of (Binary' at operator p left q right) = binary at operator (tree_of left) (tree_of right)
  tree_of (Prefix' at operator p operand) = prefix at operator (tree_of operand)
  tree_of (Call' at function shape arguments) = call at function (row_of arguments)
  tree_of (Apply' place shape arguments) = apply place (row_of arguments)
  tree_of (Group' at p inner) = group at (tree_of inner)
  tree_of (Pair' at p first q second) = pair at (tree_of first) (tree_of second)
  tree_of (Let' at place p value q body) = binding at place (tree_of value) (tree_of body)
  tree_of (If' at p condition q positive r negative) = choice at (tree_of condition) (tree_of positive) (tree_of negative)
  tree_of (Literal' at shape items) = literal at (row_of items)
  tree_of (Filter' at p item q condition) = filter at (tree_of item) (tree_of condition)
  tree_of (Each' at p body shape binders condition) = each at (tree_of body) (binder_row binders) (condition_of condition)

  pub row_of : {m : _} → Row_of-Expr m → Trees
  row_of end_of-Expr = none
  row_of (more_of-Expr first others) = both (tree_of first) (row_of others)

  pub binder_row : {m : _} → Row_of-Binder m → Binders
  binder_row end_of-Binder = none_bound
  binder_row (more_of-Binder place source others) = binder place (tree_of source) (binder_row others)

  pub condition_of : Held-Expr-Each-3 → Condition
  condition_of None' = always
  condition_of (Some' p condition) = only_where (tree_of condition)

-- the trees of a list of arguments
abbrev pub trees_of : List Expr → Trees
trees_of [] = none
trees_of (first ∷ others) = both (tree_of first) (trees_of others)

-- the binders of a list
abbrev pub binders_of : List Binder → Binders
binders_of [] = none_bound
binders_of (first ∷ others) = binder first.name (tree_of first.source) (binders_of others)

abbrev pub type_tree : WrittenType → TypeTree
type_tree (Int at) = int_type at
type_tree (Bool at) = bool_type at
type_tree (PairType' at p first q second) = pair_type at (type_tree first) (type_tree second)
type_tree (Vector' at p item) = vector_type at (type_tree item)
type_tree (Sequence' at p item) = sequence_type at (type_tree item)

abbrev pub typed_of : Typing → TypedName
typed_of typing = record { place = typing.name; written = type_tree typing.ty }

abbrev pub function_of : Function → DeclarationTree
function_of f = declares_function f.name (map typed_of f.parameters.items) (type_tree f.result) (tree_of f.body)

abbrev pub declaration_of : Declaration → DeclarationTree
declaration_of (Input typing) = declares_input (typed_of typing)
declaration_of (FunctionDeclaration f) = function_of f
