use Rattle.std.proofs.Common.{sym, ap, ◌∙◌}
use Rattle.flow_messages.specs.Flats.{scalar_first}
use Rattle.flow_boxes.proofs.Changed.{reader-below, had_coming}
use Rattle.flow_boxes.proofs.box_ends.BoxesEnds.scalar_is_next.Goals as goal

pub returns-clause-value : goal.returns-clause-value
returns-clause-value c =
    let s = c.args.self.now in
    let h = reader-below s.inboxes.items c.args.edge c.requires in
    let i = c.in-Some.inbox in
    c.scalar_first.ensures ∙ sym (ap scalar_first (had_coming s.capacity s.kinds.items s.outboxes.items s.inboxes.items c.args.edge _ i i h c.index.ensures c.in-Some.is))
