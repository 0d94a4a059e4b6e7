use Rattle.std.proofs.Common.{◌≡◌, ℕ, ◌+◌, ◌*◌, max, drop}
use Rattle.snesl_grammar.specs.declared.tree.expr.Expr.{size-Expr}
use Rattle.snesl_grammar.specs.tree.View.{trees_of, binders_of}
use Rattle.snesl_advice.specs.reach.Candidates.{candidates_among, candidates_in_sources}
use Rattle.snesl_advice.proofs.reach.search.+walking.Given as goal

-- the deeper of an expression and its helpers comes first
abbrev rank : ℕ → ℕ → ℕ
rank depth place = 4 * depth + place

abbrev pub decreases-candidates_in : goal.decreases-candidates_in
decreases-candidates_in l = rank (size-Expr l.expr.now) 0

abbrev pub decreases-candidates_in_two : goal.decreases-candidates_in_two
decreases-candidates_in_two l = rank (max (size-Expr l.first.now) (size-Expr l.second.now)) 2

abbrev pub decreases-candidates_among : goal.decreases-candidates_among
decreases-candidates_among l = rank (goal.size-candidates_among l) 2

abbrev pub decreases-candidates_in_condition : goal.decreases-candidates_in_condition
decreases-candidates_in_condition l = rank (goal.size-candidates_in_condition l) 2

abbrev pub decreases-candidates_in_sources : goal.decreases-candidates_in_sources
decreases-candidates_in_sources l = rank (goal.size-candidates_in_sources l) 2

abbrev pub decreases-candidates_in_row : goal.decreases-candidates_in_row
decreases-candidates_in_row l = rank (goal.size-candidates_in_row l) 3

-- it is in none of those so far
abbrev pub invariant-candidates_among-loop-one : goal.invariant-candidates_among-loop-one
invariant-candidates_among-loop-one l = candidates_among l.at (trees_of l.all) ≡ candidates_among l.at (trees_of (drop l.one-index l.all))

abbrev pub invariant-candidates_in_sources-loop-binder : goal.invariant-candidates_in_sources-loop-binder
invariant-candidates_in_sources-loop-binder l = candidates_in_sources l.at (binders_of l.binders) ≡ candidates_in_sources l.at (binders_of (drop l.binder-index l.binders))
