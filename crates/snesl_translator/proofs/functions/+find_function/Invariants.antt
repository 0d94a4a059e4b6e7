use Rattle.std.proofs.Common.{length}
use Rattle.snesl_translator.proofs.functions.+find_function.Given as goal

abbrev pub decreases-find_function : goal.decreases-find_function
decreases-find_function l = length l.declarations.now
