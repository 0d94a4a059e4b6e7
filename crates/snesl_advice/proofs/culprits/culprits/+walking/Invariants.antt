use Rattle.std.proofs.Common.{ℕ, ◌+◌, ◌*◌, max, Option, List, drop}
use Rattle.snesl_grammar.specs.declared.tree.expr.Expr.{size-Expr}
use Rattle.snesl_grammar.specs.tree.View.{trees_of, binders_of}
use Rattle.snesl_types.specs.Clashes.{clash_of}
use Rattle.snesl_advice.specs.culprits.Culprits.{BeginsOne, IsAmong, IsBound}
use Rattle.snesl_advice.proofs.culprits.culprits.+walking.Given as goal

-- the deeper of an expression and its helpers comes first
abbrev rank : ℕ → ℕ → ℕ
rank depth place = 4 * depth + place

abbrev pub decreases-culprit_inside : goal.decreases-culprit_inside
decreases-culprit_inside l = rank (size-Expr l.expr.now) 0

abbrev pub decreases-culprit_in : goal.decreases-culprit_in
decreases-culprit_in l = rank (size-Expr l.expr.now) 1

abbrev pub decreases-culprit_in_two : goal.decreases-culprit_in_two
decreases-culprit_in_two l = rank (max (size-Expr l.first.now) (size-Expr l.second.now)) 2

abbrev pub decreases-culprit_among : goal.decreases-culprit_among
decreases-culprit_among l = rank (goal.size-culprit_among l) 2

abbrev pub decreases-culprit_tested : goal.decreases-culprit_tested
decreases-culprit_tested l = rank (goal.size-culprit_tested l) 2

abbrev pub decreases-culprit_bound : goal.decreases-culprit_bound
decreases-culprit_bound l = rank (goal.size-culprit_bound l) 2

-- what begins one in the others begins one in all
abbrev pub invariant-culprit_among-loop-one : goal.invariant-culprit_among-loop-one
invariant-culprit_among-loop-one l =
    (r : Option ℕ) → BeginsOne (λ part. IsAmong l.at (clash_of l.clash) part (trees_of (drop l.one-index l.all))) r
    → BeginsOne (λ part. IsAmong l.at (clash_of l.clash) part (trees_of l.all)) r

abbrev pub invariant-culprit_bound-loop-binder : goal.invariant-culprit_bound-loop-binder
invariant-culprit_bound-loop-binder l =
    (r : Option ℕ) → BeginsOne (λ part. IsBound l.at (clash_of l.clash) part (binders_of (drop l.binder-index l.binders))) r
    → BeginsOne (λ part. IsBound l.at (clash_of l.clash) part (binders_of l.binders)) r
