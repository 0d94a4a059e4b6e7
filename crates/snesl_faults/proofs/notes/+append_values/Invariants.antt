use Rattle.std.proofs.Common.{length}
use Rattle.snesl_faults.proofs.notes.+append_values.Given as goal

abbrev pub decreases-append_values : goal.decreases-append_values
decreases-append_values l = length l.values.now
