use Rattle.std.proofs.Common.{◌+◌, ap, sym, ◌∙◌}
use Rattle.std.specs.List.{prefix_len}
use Rattle.snesl_data.specs.Blanks.{is_blank}
use Rattle.snesl_values.proofs.InputScan.{rest_is, next_at-is}
use Rattle.snesl_values.proofs.scan.skip_blanks.Goals as goal

pub returns-clause-offset : goal.returns-clause-offset
returns-clause-offset c =
    ap (λ n. c.args.at + n) (c.blanks_len.ensures.count ∙ ap (prefix_len is_blank) (rest_is c.args.text.now c.args.at))
    ∙ sym (next_at-is c.args.text.now c.args.at)
