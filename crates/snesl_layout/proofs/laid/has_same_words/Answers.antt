use Rattle.std.proofs.Common.{arith}
use Rattle.snesl_layout.proofs.laid.has_same_words.Goals as goal

pub loop-i-preserved : goal.loop-i-preserved
loop-i-preserved c = λ same. c.loop-i.invariant (grind arith)
