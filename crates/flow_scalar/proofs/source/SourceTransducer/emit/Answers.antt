use Rattle.std.proofs.Common.{option_map, ◌∙◌, sym, ap}
use Rattle.flow_messages.specs.Cells.{cell_of}
use Rattle.flow_scalar.proofs.Sending.{sends_item}
use Rattle.flow_scalar.proofs.source.SourceTransducer.emit.Goals as goal

pub returns-in-Some-clause-ok : goal.returns-in-Some-clause-ok
returns-in-Some-clause-ok c =
    let s = c.args.self.now in
    sends_item s.stream s.written s.ended (cell_of c.in-Some.item) c.requires (sym c.in_ok-item.ensures.ok ∙ ap (option_map cell_of) c.in-Some.is)
