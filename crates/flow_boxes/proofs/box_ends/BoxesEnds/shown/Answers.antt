use Rattle.flow_messages.specs.Contents.{item_messages}
use Rattle.flow_messages.specs.Stores.{content_of}
use Rattle.flow_messages.proofs.SideBySide.{signals-items}
use Rattle.flow_boxes.proofs.Changed.{reader-below, had_coming, begins}
use Rattle.flow_boxes.proofs.box_ends.BoxesEnds.shown.Goals as goal

pub returns : goal.returns
returns c =
    let s = c.args.self.now in
    let h = reader-below s.inboxes.items c.args.edge c.requires in
    let i = c.in-Some.inbox in
    let coming = had_coming s.capacity s.kinds.items s.outboxes.items s.inboxes.items c.args.edge _ i i h c.index.ensures c.in-Some.is in
    begins (item_messages c.shown.result) (content_of i.store) _ _ c.shown.ensures.first (signals-items c.shown.result) coming
