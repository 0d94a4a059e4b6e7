use Rattle.flow_messages.proofs.Counts.{count-said}
use Rattle.flow_boxes.proofs.Changed.{writer-below, had_sent}
use Rattle.flow_boxes.proofs.box_ends.BoxesCountedEnds.sent_count.Goals as goal

pub returns : goal.returns
returns c =
    let s = c.args.self.now in
    let h = writer-below s.outboxes.items c.args.edge c.requires in
    let o = c.in-Some.outbox in
    count-said o.sent.items (had_sent s.capacity s.kinds.items s.outboxes.items s.inboxes.items c.args.edge _ o o h c.index.ensures c.in-Some.is) o.counts
