use Rattle.std.proofs.Common.{length}
use Rattle.snesl_evaluation.proofs.scope.+find_in_row.Given as goal

abbrev pub decreases-find_in_row : goal.decreases-find_in_row
decreases-find_in_row l = length l.columns.now
