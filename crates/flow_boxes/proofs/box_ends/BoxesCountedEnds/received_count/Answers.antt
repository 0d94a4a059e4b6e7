use Rattle.flow_messages.proofs.Counts.{count-said}
use Rattle.flow_boxes.specs.Received.{received_of}
use Rattle.flow_boxes.proofs.Changed.{reader-below, had_received}
use Rattle.flow_boxes.proofs.box_ends.BoxesCountedEnds.received_count.Goals as goal

pub returns : goal.returns
returns c =
    let s = c.args.self.now in
    let h = reader-below s.inboxes.items c.args.edge c.requires in
    let i = c.in-Some.inbox in
    count-said (received_of i) (had_received s.capacity s.kinds.items s.outboxes.items s.inboxes.items c.args.edge _ i i h c.index.ensures c.in-Some.is) i.counts
