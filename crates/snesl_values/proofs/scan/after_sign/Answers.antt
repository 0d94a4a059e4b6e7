use Rattle.std.proofs.Common.{arith}
use Rattle.snesl_values.proofs.InputScan.{sign_taken, another_sign}
use Rattle.snesl_values.proofs.scan.after_sign.Goals as goal
use Rattle.snesl_values.proofs.scan.after_sign.Goals.{else-start-text-via-then-start-text+else-text-start, else-start-text-via-else-start-text}

pub returns-then-text-start-clause-taken : goal.returns-then-text-start-clause-taken
returns-then-text-start-clause-taken c =
    sign_taken c.args.text.now c.args.at c.skip_blanks-start.result c.args.byte c.skip_blanks-start.ensures.offset c.skip_blanks-start.ensures.from
    (omega arith) (omega arith) c.requires.lawful

pub returns-else-start-text-clause-another : goal.returns-else-start-text-clause-another
returns-else-start-text-clause-another c =
    another_sign c.args.text.now c.args.at c.skip_blanks-start.result c.args.byte c.skip_blanks-start.ensures.offset
    (λ below is. elim c.else-start-text.branch [
      | else-start-text-via-then-start-text+else-text-start w ↦ omega arith
      | else-start-text-via-else-start-text w ↦ omega arith
    ])
