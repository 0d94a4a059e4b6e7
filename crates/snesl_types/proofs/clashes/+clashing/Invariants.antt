use Rattle.std.proofs.Common.{ℕ, ◌+◌, ◌*◌, max}
use Rattle.snesl_grammar.specs.declared.tree.expr.Expr.{size-Expr}
use Rattle.snesl_types.proofs.clashes.+clashing.Given as goal

-- the deeper of an expression and its helpers comes first
abbrev rank : ℕ → ℕ → ℕ
rank depth place = 4 * depth + place

abbrev pub decreases-part_clash : goal.decreases-part_clash
decreases-part_clash l = rank (size-Expr l.expr.now) 0

abbrev pub decreases-inner_clash : goal.decreases-inner_clash
decreases-inner_clash l = rank (size-Expr l.expr.now) 0

abbrev pub decreases-clash_in : goal.decreases-clash_in
decreases-clash_in l = rank (size-Expr l.expr.now) 1

abbrev pub decreases-two_clash : goal.decreases-two_clash
decreases-two_clash l = rank (max (size-Expr l.first.now) (size-Expr l.second.now)) 2

abbrev pub decreases-three_clash : goal.decreases-three_clash
decreases-three_clash l = rank (max (size-Expr l.first.now) (max (size-Expr l.second.now) (size-Expr l.third.now))) 3

abbrev pub decreases-any_clash : goal.decreases-any_clash
decreases-any_clash l = rank (goal.size-any_clash l) 2

abbrev pub decreases-source_clash : goal.decreases-source_clash
decreases-source_clash l = rank (goal.size-source_clash l) 2

abbrev pub decreases-condition_clash : goal.decreases-condition_clash
decreases-condition_clash l = rank (goal.size-condition_clash l) 2

abbrev pub decreases-bound_clash : goal.decreases-bound_clash
decreases-bound_clash l = rank (max (size-Expr l.value.now) (size-Expr l.body.now)) 2
