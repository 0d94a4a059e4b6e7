use Rattle.std.proofs.Common.{◌≡◌, ℕ, ◌+◌, ◌*◌, drop}
use Rattle.snesl_grammar.specs.declared.tree.expr.Expr.{size-Expr}
use Rattle.snesl_draw.proofs.Extents.{among_all, bound_all}
use Rattle.snesl_draw.proofs.extent.+walking.Given as goal

-- the deeper of an expression and its helpers comes first
abbrev rank : ℕ → ℕ → ℕ
rank depth place = 3 * depth + place

abbrev pub decreases-extent_inside : goal.decreases-extent_inside
decreases-extent_inside l = rank (size-Expr l.expr.now) 0

abbrev pub decreases-extent_in : goal.decreases-extent_in
decreases-extent_in l = rank (size-Expr l.expr.now) 1

abbrev pub decreases-extent_among : goal.decreases-extent_among
decreases-extent_among l = rank (goal.size-extent_among l) 2

abbrev pub decreases-extent_in_condition : goal.decreases-extent_in_condition
decreases-extent_in_condition l = rank (goal.size-extent_in_condition l) 2

abbrev pub decreases-extent_in_sources : goal.decreases-extent_in_sources
decreases-extent_in_sources l = rank (goal.size-extent_in_sources l) 2

-- what is first from here on is first in all
abbrev pub invariant-extent_among-loop-one : goal.invariant-extent_among-loop-one
invariant-extent_among-loop-one l = among_all l.at (drop l.one-index l.all) ≡ among_all l.at l.all

abbrev pub invariant-extent_in_sources-loop-binder : goal.invariant-extent_in_sources-loop-binder
invariant-extent_in_sources-loop-binder l = bound_all l.at (drop l.binder-index l.binders) ≡ bound_all l.at l.binders
