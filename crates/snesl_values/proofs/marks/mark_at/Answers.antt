use Rattle.std.proofs.Common.{option_map, ap, ◌∙◌, arith}
use Rattle.snesl_values.specs.InputTokens.{first}
use Rattle.snesl_values.proofs.InputScan.{rest_is}
use Rattle.snesl_values.proofs.First.{seen}
use Rattle.snesl_values.proofs.Spots.{found_none, found_some}
use Rattle.snesl_values.proofs.marks.mark_at.Goals as goal

pub returns-then-start-text-clause-next : goal.returns-then-start-text-clause-next
returns-then-start-text-clause-next c =
    let text = c.args.text.now in
    let at = c.args.at in
    found_none text at c.skip_blanks-start.result c.skip_blanks-start.ensures.offset (omega arith)

pub returns-clause-next : goal.returns-clause-next
returns-clause-next c =
    let text = c.args.text.now in
    let at = c.args.at in
    found_some text at c.skip_blanks-start.result c.first_mark-mark.result c.skip_blanks-start.ensures.offset
    (c.first_mark-mark.ensures.first ∙ ap (λ bytes. option_map seen (first bytes)) (rest_is text c.skip_blanks-start.result))
