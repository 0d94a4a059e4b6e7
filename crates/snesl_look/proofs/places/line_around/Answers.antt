use Rattle.snesl_look.proofs.Offsets as offsets
use Rattle.snesl_look.proofs.places.line_around.Goals as goal

pub returns : goal.returns
returns c =
    let text = c.args.text.now in
    let last = c.last_line_len.ensures in
    let first = rw (offsets.rest_is text c.args.offset) at c.first_line_len.ensures in
    offsets.line_around text c.args.offset c.last_line_len.result c.first_line_len.result c.requires last.count last.within first.count
