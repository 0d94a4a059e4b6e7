-- The trees of the parser's parts.
use Rattle.std.specs.Prelude.{◌≡◌, Result, IfOk}
use Rattle.std.specs.declared.alloc.AllocError.{AllocError}
use Rattle.snesl_grammar.specs.tree.Tree.{Tree, Trees, Binders}
use Rattle.snesl_grammar.specs.tree.View.{tree_of, trees_of, binders_of}
use Rattle.snesl_syntax.specs.declared.expressions.measured.Measured.{Measured}
use Rattle.snesl_syntax.specs.declared.expressions.measured.Arguments.{Arguments}
use Rattle.snesl_syntax.specs.declared.expressions.measured.Bound.{Bound}

-- the tree of an expression with its depth
abbrev pub tree_in : Measured → Tree
tree_in part = tree_of part.expr.value

-- the trees of arguments, in order
abbrev pub trees_in : Arguments → Trees
trees_in given = trees_of given.exprs.items

-- the binders of a comprehension, in order
abbrev pub bound_in : Bound → Binders
bound_in bound = binders_of bound.binders.items

-- what was made is this tree, unless memory ran out
abbrev pub Builds : Result Measured AllocError → Tree → Type 0
Builds result tree = IfOk result (λ whole. tree_in whole ≡ tree)
