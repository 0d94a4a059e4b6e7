use Rattle.std.proofs.Common.{◌≡◌, ℕ, ◌+◌, ◌*◌, max, drop, [], map}
use Rattle.snesl_data.specs.Types.{ty_of}
use Rattle.snesl_values.specs.Inputs.{declared}
use Rattle.snesl_grammar.specs.declared.tree.expr.Expr.{size-Expr}
use Rattle.snesl_grammar.specs.tree.View.{trees_of, binders_of}
use Rattle.snesl_types.specs.Names.{all_typed_in, binders_typed_in}
use Rattle.snesl_types.proofs.expressions.+typing.Given as goal

-- the deeper of an expression and its helpers comes first
abbrev rank : ℕ → ℕ → ℕ
rank depth place = 4 * depth + place

abbrev pub decreases-type_by_rule : goal.decreases-type_by_rule
decreases-type_by_rule l = rank (size-Expr l.expr.now) 0

abbrev pub decreases-type_of : goal.decreases-type_of
decreases-type_of l = rank (size-Expr l.expr.now) 1

abbrev pub decreases-both_types : goal.decreases-both_types
decreases-both_types l = rank (max (size-Expr l.first.now) (size-Expr l.second.now)) 2

abbrev pub decreases-let_type : goal.decreases-let_type
decreases-let_type l = rank (max (size-Expr l.value.now) (size-Expr l.body.now)) 2

abbrev pub decreases-if_type : goal.decreases-if_type
decreases-if_type l = rank (max (size-Expr l.condition.now) (max (size-Expr l.positive.now) (size-Expr l.negative.now))) 3

abbrev pub decreases-condition_type : goal.decreases-condition_type
decreases-condition_type l = rank (goal.size-condition_type l) 2

abbrev pub decreases-types_of : goal.decreases-types_of
decreases-types_of l = rank (goal.size-types_of l) 2

abbrev pub decreases-binder_types : goal.decreases-binder_types
decreases-binder_types l = rank (goal.size-binder_types l) 2

abbrev pub invariant-types_of-loop-argument : goal.invariant-types_of-loop-argument
invariant-types_of-loop-argument l =
    all_typed_in l.scope [] (trees_of l.arguments) ≡ all_typed_in l.scope (map ty_of l.types.items) (trees_of (drop l.argument-index l.arguments))

abbrev pub invariant-binder_types-loop-binder : goal.invariant-binder_types-loop-binder
invariant-binder_types-loop-binder l =
    binders_typed_in l.scope [] (binders_of l.binders) ≡ binders_typed_in l.scope (declared l.items.items) (binders_of (drop l.binder-index l.binders))
