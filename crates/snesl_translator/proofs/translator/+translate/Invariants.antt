use Rattle.std.proofs.Common.{◌+◌, ◌*◌, map, take, max}
use Rattle.std.proofs.Common.{ℕ, List}
use denote.Param.Weighed
use Rattle.snesl_grammar.proofs.tree.expr.Binder.TheLaws
use Rattle.snesl_grammar.specs.declared.tree.expr.Binder.{Binder}
use Rattle.snesl_grammar.specs.declared.tree.expr.Expr.{size-Expr}
use Rattle.snesl_grammar.specs.tree.View.{trees_of}
use Rattle.snesl_evaluation.specs.Scopes.{weight, weight_of}
use Rattle.snesl_translator.specs.steps.Added.{HasMade}
use Rattle.snesl_translator.specs.steps.Views.{bindings_of, dialect_of_steps, next_in, wires_of}
use Rattle.snesl_translator.specs.Translated.{further_in}
use Rattle.snesl_translator.proofs.Listed.{argument_in, made_all, source_in}
use Rattle.snesl_translator.proofs.translator.+translate.Given as goal

-- the deeper of an expression and its helpers comes first, after the weight of the functions that it may call
abbrev rank : ℕ → ℕ → ℕ → ℕ
rank depth functions place = 7 * (depth + functions) + place

-- the depth of the deepest binder
abbrev binders_depth : List Binder → ℕ
binders_depth binders = Weighed.most (λ x. TheLaws.the_size x) binders

abbrev pub decreases-translate : goal.decreases-translate
decreases-translate l = rank (size-Expr l.expr.now) (weight l.context.now.functions.now) 0

abbrev pub decreases-binary_form : goal.decreases-binary_form
decreases-binary_form l = rank (max (size-Expr l.left.now) (size-Expr l.right.now)) (weight l.context.now.functions.now) 1

abbrev pub decreases-prefix_form : goal.decreases-prefix_form
decreases-prefix_form l = rank (size-Expr l.operand.now) (weight l.context.now.functions.now) 1

abbrev pub decreases-pair_form : goal.decreases-pair_form
decreases-pair_form l = rank (max (size-Expr l.first.now) (size-Expr l.second.now)) (weight l.context.now.functions.now) 1

abbrev pub decreases-let_form : goal.decreases-let_form
decreases-let_form l = rank (max (size-Expr l.value.now) (size-Expr l.body.now)) (weight l.context.now.functions.now) 2

abbrev pub decreases-in_frame : goal.decreases-in_frame
decreases-in_frame l = rank (size-Expr l.body.now) (weight l.context.now.functions.now) 1

abbrev pub decreases-if_form : goal.decreases-if_form
decreases-if_form l = rank (max (size-Expr l.condition.now) (max (size-Expr l.positive.now) (size-Expr l.negative.now))) (weight l.context.now.functions.now) 5

abbrev pub decreases-otherwise : goal.decreases-otherwise
decreases-otherwise l = rank (size-Expr l.item.now) (weight l.context.now.functions.now) 4

abbrev pub decreases-built_in : goal.decreases-built_in
decreases-built_in l = rank (goal.size-built_in l) (weight l.context.now.functions.now) 2

abbrev pub decreases-call_form : goal.decreases-call_form
decreases-call_form l = rank (goal.size-call_form l) (weight l.context.now.functions.now) 4

abbrev pub decreases-called : goal.decreases-called
decreases-called l = rank 0 (weight l.context.now.functions.now) 3

abbrev pub decreases-enter : goal.decreases-enter
decreases-enter l = rank (weight_of l.function.now) (weight l.earlier.now) 2

abbrev pub decreases-literal_form : goal.decreases-literal_form
decreases-literal_form l = rank (Weighed.most size-Expr l.items.now) (weight l.context.now.functions.now) 6

abbrev pub decreases-filter_form : goal.decreases-filter_form
decreases-filter_form l = rank (max (size-Expr l.item.now) (size-Expr l.condition.now)) (weight l.context.now.functions.now) 4

abbrev pub decreases-each_form : goal.decreases-each_form
decreases-each_form l = rank (max (size-Expr l.body.now) (binders_depth l.binders.now)) (weight l.context.now.functions.now) 4

abbrev pub decreases-each_over : goal.decreases-each_over
decreases-each_over l = rank (size-Expr l.body.now) (weight l.context.now.functions.now) 3

abbrev pub decreases-each_where : goal.decreases-each_where
decreases-each_where l = rank (max (size-Expr l.body.now) (max (size-Expr l.condition.now) (binders_depth l.binders.now))) (weight l.context.now.functions.now) 6

abbrev pub decreases-where_over : goal.decreases-where_over
decreases-where_over l = rank (max (size-Expr l.body.now) (size-Expr l.condition.now)) (weight l.context.now.functions.now) 5

abbrev pub decreases-all_translated : goal.decreases-all_translated
decreases-all_translated l = rank (goal.size-all_translated l) (weight l.context.now.functions.now) 1

abbrev pub decreases-further : goal.decreases-further
decreases-further l = rank (Weighed.most size-Expr l.items.now) (weight l.context.now.functions.now) 5

abbrev pub decreases-all_sources : goal.decreases-all_sources
decreases-all_sources l = rank (goal.size-all_sources l) (weight l.context.now.functions.now) 1

abbrev pub decreases-single : goal.decreases-single
decreases-single l = rank (size-Expr l.item.now) (weight l.context.now.functions.now) 4

abbrev pub decreases-filtered : goal.decreases-filtered
decreases-filtered l = rank (size-Expr l.item.now) (weight l.context.now.functions.now) 3

abbrev pub decreases-in_rows : goal.decreases-in_rows
decreases-in_rows l = rank (size-Expr l.body.now) (weight l.context.now.functions.now) 2

abbrev pub decreases-where_true : goal.decreases-where_true
decreases-where_true l = rank (max (size-Expr l.body.now) (size-Expr l.condition.now)) (weight l.context.now.functions.now) 4

-- the steps of what was read so far are there
abbrev pub invariant-all_translated-loop-expr : goal.invariant-all_translated-loop-expr
invariant-all_translated-loop-expr l =
    HasMade l.fn.steps l.steps (made_all (argument_in (dialect_of_steps l.fn.steps) l.context l.scope l.control) (take l.expr-index l.exprs) (next_in l.fn.steps)) (map wires_of l.us.items)

abbrev pub invariant-further-loop-item : goal.invariant-further-loop-item
invariant-further-loop-item l =
    HasMade l.fn.steps l.steps
    (further_in (dialect_of_steps l.fn.steps) l.context l.scope l.at (wires_of l.fn.sequence) (trees_of (take l.item-index l.items)) l.control
    (next_in l.fn.steps)) (wires_of l.all)

abbrev pub invariant-all_sources-loop-binder : goal.invariant-all_sources-loop-binder
invariant-all_sources-loop-binder l =
    HasMade l.fn.steps l.steps (made_all (source_in (dialect_of_steps l.fn.steps) l.context l.scope l.control) (take l.binder-index l.binders) (next_in l.fn.steps)) (bindings_of l.sources.items)
