use Rattle.std.proofs.Common.{length, ap, ◌∙◌, rules}
use Rattle.flow_messages.specs.Stores.{content_of}
use Rattle.flow_messages.specs.TableLaws.{signals-length}
use Rattle.flow_boxes.proofs.Changed.{reader-below, had_coming}
use Rattle.flow_boxes.proofs.box_ends.BoxesEnds.ready.Goals as goal

pub returns-clause-value : goal.returns-clause-value
returns-clause-value c =
    let s = c.args.self.now in
    let h = reader-below s.inboxes.items c.args.edge c.requires in
    let i = c.in-Some.inbox in
    rw (ap length (had_coming s.capacity s.kinds.items s.outboxes.items s.inboxes.items c.args.edge _ i i h c.index.ensures c.in-Some.is) ∙ signals-length (content_of i.store)) (search rules)
