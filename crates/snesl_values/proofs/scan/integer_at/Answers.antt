use Rattle.std.proofs.Common.{arith}
use Rattle.snesl_values.proofs.InputScan.{if_some, if_none, positive_taken, negative_taken, another_integer, minus_no_digits}
use Rattle.snesl_values.proofs.scan.integer_at.Goals as goal
use Rattle.snesl_values.proofs.scan.integer_at.Goals.{else-start-text-via-then-start-text+else-text-start-eq45, else-start-text-via-else-start-text}

pub returns-then-text-start-eq45-clause-taken : goal.returns-then-text-start-eq45-clause-taken
returns-then-text-start-eq45-clause-taken c =
    if_some c.number_at.result
    (λ found number. (
      negative_taken c.args.dialect c.args.text.now c.args.at c.skip_blanks-start.result found c.skip_blanks-start.ensures.offset
          c.skip_blanks-start.ensures.from (omega arith) (omega arith) number,
      number.in_range,
    ))
    c.number_at.ensures.taken

pub returns-then-text-start-eq45-clause-another : goal.returns-then-text-start-eq45-clause-another
returns-then-text-start-eq45-clause-another c =
    if_none c.number_at.result
    (λ unwritten n ranged. another_integer c.args.dialect c.args.text.now c.args.at c.skip_blanks-start.result n c.skip_blanks-start.ensures.offset ranged
    (λ written. minus_no_digits c.args.text.now c.skip_blanks-start.result (omega arith) (omega arith) written.0)
    (λ below is written. unwritten written))
    c.number_at.ensures.another

pub returns-else-start-text-clause-taken : goal.returns-else-start-text-clause-taken
returns-else-start-text-clause-taken c =
    if_some c.number_at-else-start-text.result
    (λ found number. (
      positive_taken c.args.dialect c.args.text.now c.args.at c.skip_blanks-start.result found c.skip_blanks-start.ensures.offset
          c.skip_blanks-start.ensures.from c.skip_blanks-start.ensures.within number,
      number.in_range,
    ))
    c.number_at-else-start-text.ensures.taken

pub returns-else-start-text-clause-another : goal.returns-else-start-text-clause-another
returns-else-start-text-clause-another c =
    if_none c.number_at-else-start-text.result
    (λ unwritten n ranged. another_integer c.args.dialect c.args.text.now c.args.at c.skip_blanks-start.result n c.skip_blanks-start.ensures.offset ranged
    unwritten
    (λ below is written. elim c.else-start-text.branch [
      | else-start-text-via-then-start-text+else-text-start-eq45 w ↦ omega arith
      | else-start-text-via-else-start-text w ↦ omega arith
    ]))
    c.number_at-else-start-text.ensures.another
