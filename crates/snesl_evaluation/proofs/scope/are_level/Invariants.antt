use Rattle.std.proofs.Common.{◌≡◌, drop}
use Rattle.snesl_evaluation.specs.Scopes.{are_level}
use Rattle.snesl_evaluation.proofs.scope.are_level.Given as goal

abbrev pub invariant-loop-column : goal.invariant-loop-column
invariant-loop-column l = are_level l.height l.columns ≡ are_level l.height (drop l.column-index l.columns)
