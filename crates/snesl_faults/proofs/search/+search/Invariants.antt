use Rattle.std.proofs.Common.{ℕ, List, ◌+◌, ◌*◌, max}
use Rattle.snesl_grammar.specs.declared.tree.expr.Expr.{size-Expr}
use Rattle.snesl_evaluation.specs.Scopes.{weight, weight_of}
use Rattle.snesl_faults.proofs.search.+search.Given as goal

-- the deeper of an expression and its helpers comes first, after the weight of the functions that it may call
abbrev rank : ℕ → ℕ → ℕ → ℕ
rank depth functions place = 8 * (depth + functions) + place

abbrev pub decreases-search : goal.decreases-search
decreases-search l = rank (size-Expr l.expr.now) (weight l.context.now.functions.now) 1

abbrev pub decreases-parts : goal.decreases-parts
decreases-parts l = rank (size-Expr l.expr.now) (weight l.context.now.functions.now) 0

abbrev pub decreases-all : goal.decreases-all
decreases-all l = rank (goal.size-all l) (weight l.context.now.functions.now) 2

abbrev pub decreases-bind : goal.decreases-bind
decreases-bind l = rank (size-Expr l.body.now) (weight l.context.now.functions.now) 2

abbrev pub decreases-filtered : goal.decreases-filtered
decreases-filtered l = rank (max (size-Expr l.item.now) (size-Expr l.condition.now)) (weight l.context.now.functions.now) 2

abbrev pub decreases-columns : goal.decreases-columns
decreases-columns l = rank (goal.size-columns l) (weight l.context.now.functions.now) 2

abbrev pub decreases-rows : goal.decreases-rows
decreases-rows l = rank (size-Expr l.body.now) (weight l.context.now.functions.now) 2

abbrev pub decreases-rows_where : goal.decreases-rows_where
decreases-rows_where l = rank (max (size-Expr l.body.now) (size-Expr l.condition.now)) (weight l.context.now.functions.now) 3

abbrev pub decreases-call : goal.decreases-call
decreases-call l = rank (goal.size-call l) (weight l.context.now.functions.now) 3

abbrev pub decreases-enter : goal.decreases-enter
decreases-enter l = rank (weight_of l.function.now) (weight l.earlier.now) 2
