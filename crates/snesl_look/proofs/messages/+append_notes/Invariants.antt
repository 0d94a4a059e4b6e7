use Rattle.std.proofs.Common.{length}
use Rattle.snesl_look.proofs.messages.+append_notes.Given as goal

abbrev pub decreases-append_notes : goal.decreases-append_notes
decreases-append_notes l = length l.notes.now
