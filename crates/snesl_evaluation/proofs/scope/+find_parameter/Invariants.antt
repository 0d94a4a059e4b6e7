use Rattle.std.proofs.Common.{length}
use Rattle.snesl_evaluation.proofs.scope.+find_parameter.Given as goal

abbrev pub decreases-find_parameter : goal.decreases-find_parameter
decreases-find_parameter l = length l.parameters.now
