use Rattle.std.proofs.Common.{◌≡◌, ℕ, ◌+◌, ◌*◌, drop}
use Rattle.snesl_grammar.specs.declared.tree.expr.Expr.{size-Expr}
use Rattle.snesl_grammar.specs.tree.View.{binders_of, trees_of}
use Rattle.snesl_draw.specs.Forms.{last_among, last_bound}
use Rattle.snesl_draw.proofs.extent.+ending.Given as goal

-- an expression comes after its helpers
abbrev rank : ℕ → ℕ → ℕ
rank depth place = 2 * depth + place

abbrev pub decreases-last_offset : goal.decreases-last_offset
decreases-last_offset l = rank (size-Expr l.expr.now) 0

abbrev pub decreases-last_among : goal.decreases-last_among
decreases-last_among l = rank (goal.size-last_among l) 1

abbrev pub decreases-last_bound : goal.decreases-last_bound
decreases-last_bound l = rank (goal.size-last_bound l) 1

abbrev pub decreases-last_tested : goal.decreases-last_tested
decreases-last_tested l = rank (goal.size-last_tested l) 1

-- what is last from here on is last of all
abbrev pub invariant-last_among-loop-one : goal.invariant-last_among-loop-one
invariant-last_among-loop-one l = last_among l.last (trees_of (drop l.one-index l.all)) ≡ last_among l.before (trees_of l.all)

abbrev pub invariant-last_bound-loop-binder : goal.invariant-last_bound-loop-binder
invariant-last_bound-loop-binder l = last_bound l.last (binders_of (drop l.binder-index l.binders)) ≡ last_bound l.before (binders_of l.binders)
