use Rattle.std.proofs.Common.{arith}
use Rattle.snesl_values.proofs.InputScan.{early}
use Rattle.snesl_values.proofs.scan.wide_magnitude.Goals as goal

pub returns-then-value : goal.returns-then-value
returns-then-value c =
    early c.args.number c.args.digits.now c.loop-c.c-index c.loop-c.value (omega arith) c.loop-c.invariant.same (omega (arith, c.from-digit.ensures))

pub returns-then-value-gt-GREATEST_MAGNITUDE : goal.returns-then-value-gt-GREATEST_MAGNITUDE
returns-then-value-gt-GREATEST_MAGNITUDE c =
    early c.args.number c.args.digits.now c.loop-c.c-index c.loop-c.value (omega arith) c.loop-c.invariant.same (omega (arith, c.from-digit.ensures))
