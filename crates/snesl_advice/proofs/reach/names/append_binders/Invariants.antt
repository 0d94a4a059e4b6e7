use Rattle.std.proofs.Common.{◌≡◌, ◌++◌, drop}
use Rattle.snesl_grammar.specs.tree.View.{binders_of}
use Rattle.snesl_advice.specs.reach.Candidates.{bound_by}
use Rattle.snesl_advice.proofs.reach.names.append_binders.Given as goal

-- the names of the other binders are still to come
abbrev pub invariant-loop-binder : goal.invariant-loop-binder
invariant-loop-binder l = l.names.items ++ bound_by (binders_of (drop l.binder-index l.binders)) ≡ l.initial.names.items ++ bound_by (binders_of l.binders)
