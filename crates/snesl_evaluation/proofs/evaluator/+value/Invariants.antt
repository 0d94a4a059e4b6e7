use Rattle.std.proofs.Common.{◌≡◌, ◌+◌, ◌*◌, map, drop, max, ◌++◌}
use Rattle.std.proofs.Common.{ℕ, List}
use denote.Param.Weighed
use Rattle.snesl_grammar.proofs.tree.expr.Binder.TheLaws
use Rattle.snesl_grammar.specs.declared.tree.expr.Binder.{Binder}
use Rattle.snesl_data.specs.Values.{value_of}
use Rattle.snesl_grammar.specs.declared.tree.expr.Expr.{size-Expr}
use Rattle.snesl_grammar.specs.tree.View.{tree_of, trees_of, binders_of}
use Rattle.snesl_evaluation.specs.Answer.{go, gives}
use Rattle.snesl_evaluation.specs.Eval.{rows_of}
use Rattle.snesl_evaluation.specs.Scopes.{weight, weight_of, all_in, binders_in, each_in, where_in, bound_items_of}
use Rattle.snesl_evaluation.proofs.evaluator.+value.Given as goal

-- the deeper of an expression and its helpers comes first, after the weight of the functions that it may call
abbrev rank : ℕ → ℕ → ℕ → ℕ
rank depth functions place = 4 * (depth + functions) + place

-- the depth of the deepest binder
abbrev binders_depth : List Binder → ℕ
binders_depth binders = Weighed.most (λ x. TheLaws.the_size x) binders

abbrev pub decreases-value : goal.decreases-value
decreases-value l = rank (size-Expr l.expr.now) (weight l.context.now.functions.now) 0

abbrev pub decreases-binary_value : goal.decreases-binary_value
decreases-binary_value l = rank (max (size-Expr l.left.now) (size-Expr l.right.now)) (weight l.context.now.functions.now) 1

abbrev pub decreases-prefix_value : goal.decreases-prefix_value
decreases-prefix_value l = rank (size-Expr l.operand.now) (weight l.context.now.functions.now) 1

abbrev pub decreases-pair_value : goal.decreases-pair_value
decreases-pair_value l = rank (max (size-Expr l.first.now) (size-Expr l.second.now)) (weight l.context.now.functions.now) 1

abbrev pub decreases-let_value : goal.decreases-let_value
decreases-let_value l = rank (max (size-Expr l.bound.now) (size-Expr l.body.now)) (weight l.context.now.functions.now) 2

abbrev pub decreases-if_value : goal.decreases-if_value
decreases-if_value l = rank (max (size-Expr l.condition.now) (max (size-Expr l.positive.now) (size-Expr l.negative.now))) (weight l.context.now.functions.now) 1

abbrev pub decreases-all_values : goal.decreases-all_values
decreases-all_values l = rank (goal.size-all_values l) (weight l.context.now.functions.now) 1

abbrev pub decreases-all_columns : goal.decreases-all_columns
decreases-all_columns l = rank (goal.size-all_columns l) (weight l.context.now.functions.now) 1

abbrev pub decreases-bind : goal.decreases-bind
decreases-bind l = rank (size-Expr l.body.now) (weight l.context.now.functions.now) 1

abbrev pub decreases-kept : goal.decreases-kept
decreases-kept l = rank (max (size-Expr l.item.now) (size-Expr l.condition.now)) (weight l.context.now.functions.now) 1

abbrev pub decreases-built_in : goal.decreases-built_in
decreases-built_in l = rank (goal.size-built_in l) (weight l.context.now.functions.now) 2

abbrev pub decreases-call : goal.decreases-call
decreases-call l = rank (goal.size-call l) (weight l.context.now.functions.now) 3

abbrev pub decreases-literal : goal.decreases-literal
decreases-literal l = rank (goal.size-literal l) (weight l.context.now.functions.now) 2

abbrev pub decreases-filter : goal.decreases-filter
decreases-filter l = rank (max (size-Expr l.item.now) (size-Expr l.condition.now)) (weight l.context.now.functions.now) 2

abbrev pub decreases-each : goal.decreases-each
decreases-each l = rank (max (size-Expr l.body.now) (binders_depth l.binders.now)) (weight l.context.now.functions.now) 2

abbrev pub decreases-each_where : goal.decreases-each_where
decreases-each_where l = rank (max (size-Expr l.body.now) (max (size-Expr l.condition.now) (binders_depth l.binders.now))) (weight l.context.now.functions.now) 3

abbrev pub decreases-rows : goal.decreases-rows
decreases-rows l = rank (size-Expr l.body.now) (weight l.context.now.functions.now) 1

abbrev pub decreases-rows_where : goal.decreases-rows_where
decreases-rows_where l = rank (max (size-Expr l.body.now) (size-Expr l.condition.now)) (weight l.context.now.functions.now) 2

abbrev pub decreases-called : goal.decreases-called
decreases-called l = rank 0 (weight l.context.now.functions.now) 2

abbrev pub decreases-enter : goal.decreases-enter
decreases-enter l = rank (weight_of l.function.now) (weight l.earlier.now) 1

abbrev pub invariant-all_values-loop-expr : goal.invariant-all_values-loop-expr
invariant-all_values-loop-expr l =
    all_in l.context l.scope (trees_of l.exprs)
    ≡ go (all_in l.context l.scope (trees_of (drop l.expr-index l.exprs))) (λ later. gives (map value_of l.values.items ++ later))

abbrev pub invariant-all_columns-loop-binder : goal.invariant-all_columns-loop-binder
invariant-all_columns-loop-binder l =
    binders_in l.context l.scope (binders_of l.binders)
    ≡ go (binders_in l.context l.scope (binders_of (drop l.binder-index l.binders))) (λ later. gives (map (bound_items_of l.context.text.now) l.columns.items ++ later))

abbrev pub invariant-rows-loop-index : goal.invariant-rows-loop-index
invariant-rows-loop-index l =
    each_in l.context l.scope (tree_of l.body) (rows_of l.number (map (bound_items_of l.context.text.now) l.columns))
    ≡ go (each_in l.context l.scope (tree_of l.body) (drop l.index (rows_of l.number (map (bound_items_of l.context.text.now) l.columns)))) (λ later. gives (map value_of l.values.items ++ later))

abbrev pub invariant-rows_where-loop-index : goal.invariant-rows_where-loop-index
invariant-rows_where-loop-index l =
    where_in l.context l.scope l.at (tree_of l.body) (tree_of l.condition) (rows_of l.number (map (bound_items_of l.context.text.now) l.columns))
    ≡ go (where_in l.context l.scope l.at (tree_of l.body) (tree_of l.condition)
    (drop l.index (rows_of l.number (map (bound_items_of l.context.text.now) l.columns)))) (λ later. gives (map value_of l.values.items ++ later))
