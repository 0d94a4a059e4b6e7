use Rattle.std.proofs.Common.{[], ◌∷◌}
use Rattle.flow_messages.specs.Signals.{signal_of}
use Rattle.flow_messages.specs.Stores.{content_of}
use Rattle.flow_messages.proofs.Tables.{if_some}
use Rattle.flow_boxes.proofs.Changed.{reader-below, had_coming, said_one, begins}
use Rattle.flow_boxes.proofs.box_ends.BoxesEnds.front.Goals as goal

pub returns : goal.returns
returns c =
    let s = c.args.self.now in
    let h = reader-below s.inboxes.items c.args.edge c.requires in
    let i = c.in-Some.inbox in
    let coming = had_coming s.capacity s.kinds.items s.outboxes.items s.inboxes.items c.args.edge _ i i h c.index.ensures c.in-Some.is in
    if_some _ _ c.front.result (λ m first. begins (m.now ∷ []) (content_of i.store) (signal_of m.now ∷ []) _ first (said_one m.now) coming) c.front.ensures
