use Rattle.snesl_look.proofs.Offsets.{part_is}
use Rattle.snesl_look.proofs.messages.shown_part.Goals as goal

pub returns : goal.returns
returns c = part_is c.args.line.now c.args.from c.min-start.result c.min-shown.result c.min-start.ensures c.min-shown.ensures
