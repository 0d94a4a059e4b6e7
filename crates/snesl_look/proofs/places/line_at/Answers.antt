use Rattle.snesl_look.proofs.Offsets.{line_text-min}
use Rattle.snesl_look.proofs.places.line_at.Goals as goal

pub returns : goal.returns
returns c = rw (c.line_around.ensures, c.min.ensures) (line_text-min c.args.text.now c.args.offset)
