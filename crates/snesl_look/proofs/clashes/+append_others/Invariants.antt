use Rattle.std.proofs.Common.{length}
use Rattle.snesl_look.proofs.clashes.+append_others.Given as goal

abbrev pub decreases-append_others : goal.decreases-append_others
decreases-append_others l = length l.types.now
