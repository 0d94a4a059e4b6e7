use Rattle.std.proofs.Common.{◌∙◌, ap, take}
use Rattle.std.proofs.lemmas.List.{take_min}
use Rattle.snesl_draw.proofs.lines.beginning.Goals as goal

pub returns : goal.returns
returns c = ap (λ n. take n c.args.line.now) c.min-most.ensures ∙ take_min 40 c.args.line.now
