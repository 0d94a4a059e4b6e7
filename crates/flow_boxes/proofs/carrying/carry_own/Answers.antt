use Rattle.std.proofs.Common.{set, sym, ◌∙◌, length-set}
use Rattle.std.specs.Prelude.{Some}
use Rattle.flow_boxes.specs.Contents.{contents_of}
use Rattle.flow_boxes.proofs.Changed.{writer-below, reader-below}
use Rattle.flow_boxes.proofs.Boxed.{carry-bound, carry-ends, carry-kind, writer-carries, reader-carries, boxes-carried, boxes-linked, carries-trans}
use Rattle.flow_boxes.proofs.Kinded.{kinds-kept}
use Rattle.flow_boxes.specs.Kinds.{outbox_kind, inbox_kind}
use Rattle.flow_boxes.proofs.Kept.{outbox-with, inbox-with}
use Rattle.flow_boxes.proofs.carrying.carry_own.Goals as goal

pub carry_into-requires-clause-bound : goal.carry_into-requires-clause-bound
carry_into-requires-clause-bound c =
    let w = c.args.boxes.now in
    let r = c.args.boxes.now in
    carry-bound w.capacity r.capacity w.kinds.items r.kinds.items w.outboxes.items w.inboxes.items r.outboxes.items r.inboxes.items c.args.edge _ c.in-Some-Some.outbox
    c.in-Some-Some.outbox (writer-below w.outboxes.items c.args.edge c.requires.writes) c.index_mut.ensures.value c.in-Some-Some.is-0 _
    c.in-Some-Some.inbox c.in-Some-Some.inbox (reader-below r.inboxes.items c.args.edge c.requires.reads) c.index_mut-2.ensures.value
    c.in-Some-Some.is-1 c.requires

pub carry_into-requires-clause-kind : goal.carry_into-requires-clause-kind
carry_into-requires-clause-kind c =
    let w = c.args.boxes.now in
    let r = c.args.boxes.now in
    carry-kind w.capacity r.capacity w.kinds.items r.kinds.items w.outboxes.items w.inboxes.items r.outboxes.items r.inboxes.items c.args.edge _ c.in-Some-Some.outbox
    c.in-Some-Some.outbox (writer-below w.outboxes.items c.args.edge c.requires.writes) c.index_mut.ensures.value c.in-Some-Some.is-0 _
    c.in-Some-Some.inbox c.in-Some-Some.inbox (reader-below r.inboxes.items c.args.edge c.requires.reads) c.index_mut-2.ensures.value
    c.in-Some-Some.is-1 c.requires w.outbox_kinds w.each_kind r.inbox_kinds (r.each_kind ∙ sym r.even)

pub carry_into-requires-clause-ends : goal.carry_into-requires-clause-ends
carry_into-requires-clause-ends c =
    let w = c.args.boxes.now in
    let r = c.args.boxes.now in
    carry-ends w.capacity r.capacity w.kinds.items r.kinds.items w.outboxes.items w.inboxes.items r.outboxes.items r.inboxes.items c.args.edge _ c.in-Some-Some.outbox
    c.in-Some-Some.outbox (writer-below w.outboxes.items c.args.edge c.requires.writes) c.index_mut.ensures.value c.in-Some-Some.is-0 _
    c.in-Some-Some.inbox c.in-Some-Some.inbox (reader-below r.inboxes.items c.args.edge c.requires.reads) c.index_mut-2.ensures.value
    c.in-Some-Some.is-1 c.requires

pub invariant_of-boxes-clause-outbox_kinds : goal.invariant_of-boxes-clause-outbox_kinds
invariant_of-boxes-clause-outbox_kinds c =
    let w = c.args.boxes.now in
    kinds-kept outbox_kind w.kinds.items w.outboxes.items c.args.edge w.outbox_kinds _ c.in-Some-Some.outbox c.carry_into.new.self
    (writer-below w.outboxes.items c.args.edge c.requires.writes) w.each_kind c.index_mut.ensures.value c.in-Some-Some.is-0
    c.carry_into.ensures.outbox_kind

pub invariant_of-boxes-clause-inbox_kinds : goal.invariant_of-boxes-clause-inbox_kinds
invariant_of-boxes-clause-inbox_kinds c =
    let r = c.args.boxes.now in
    kinds-kept inbox_kind r.kinds.items r.inboxes.items c.args.edge r.inbox_kinds _ c.in-Some-Some.inbox c.carry_into.new.inbox
    (reader-below r.inboxes.items c.args.edge c.requires.reads) (r.each_kind ∙ sym r.even) c.index_mut-2.ensures.value c.in-Some-Some.is-1
    c.carry_into.ensures.inbox_kind

pub returns-clause-others : goal.returns-clause-others
returns-clause-others c =
    let w = c.args.boxes.now in
    let r = c.args.boxes.now in
    carries-trans _ (contents_of w.capacity w.kinds.items (set w.outboxes.items c.args.edge (Some c.carry_into.new.self)) w.inboxes.items) _ c.args.edge
    (writer-carries w.capacity r.capacity w.kinds.items r.kinds.items w.outboxes.items w.inboxes.items r.outboxes.items r.inboxes.items c.args.edge _ c.in-Some-Some.outbox
    c.carry_into.new.self (writer-below w.outboxes.items c.args.edge c.requires.writes) c.index_mut.ensures.value c.in-Some-Some.is-0 _
    c.in-Some-Some.inbox c.carry_into.new.inbox (reader-below r.inboxes.items c.args.edge c.requires.reads) c.index_mut-2.ensures.value
    c.in-Some-Some.is-1 c.carry_into.ensures.sent).carries
    (reader-carries w.capacity r.capacity w.kinds.items r.kinds.items w.outboxes.items w.inboxes.items (set w.outboxes.items c.args.edge (Some c.carry_into.new.self))
    r.inboxes.items c.args.edge _ c.in-Some-Some.outbox c.carry_into.new.self (writer-below w.outboxes.items c.args.edge c.requires.writes)
    c.index_mut.ensures.value c.in-Some-Some.is-0 _ c.in-Some-Some.inbox c.carry_into.new.inbox
    (reader-below r.inboxes.items c.args.edge c.requires.reads) c.index_mut-2.ensures.value c.in-Some-Some.is-1
    c.carry_into.ensures.received).carries

pub returns-clause-carried : goal.returns-clause-carried
returns-clause-carried c =
    let w = c.args.boxes.now in
    let r = c.args.boxes.now in
    let x = boxes-carried w.capacity r.capacity w.kinds.items r.kinds.items w.outboxes.items w.inboxes.items r.outboxes.items r.inboxes.items c.args.edge _ c.in-Some-Some.outbox
    c.carry_into.new.self (writer-below w.outboxes.items c.args.edge c.requires.writes) c.index_mut.ensures.value c.in-Some-Some.is-0 _
    c.in-Some-Some.inbox c.carry_into.new.inbox (reader-below r.inboxes.items c.args.edge c.requires.reads) c.index_mut-2.ensures.value
    c.in-Some-Some.is-1 c.requires c.carry_into.ensures.sent c.carry_into.ensures.received c.carry_into.ensures.moved c.carry_into.ensures.emptied
    c.carry_into.ensures.room in record { arrived = x.arrived; coming = x.coming; leaving = x.leaving; room = x.room }

pub returns-clause-linked : goal.returns-clause-linked
returns-clause-linked c =
    let w = c.args.boxes.now in
    let r = c.args.boxes.now in
    let x = boxes-linked w.capacity r.capacity w.kinds.items r.kinds.items w.outboxes.items w.inboxes.items r.outboxes.items r.inboxes.items c.args.edge _ c.in-Some-Some.outbox
    c.carry_into.new.self (writer-below w.outboxes.items c.args.edge c.requires.writes) c.index_mut.ensures.value c.in-Some-Some.is-0 _
    c.in-Some-Some.inbox c.carry_into.new.inbox (reader-below r.inboxes.items c.args.edge c.requires.reads) c.index_mut-2.ensures.value
    c.in-Some-Some.is-1 c.requires c.carry_into.ensures.sent c.carry_into.ensures.received c.carry_into.ensures.moved c.carry_into.ensures.emptied
    c.carry_into.ensures.room in record { writes = x.writes; reads = x.reads; capacity = x.capacity; kinds = x.kinds; in_order = x.in_order; bound = x.bound }

pub invariant_of-boxes-clause-each_kind : goal.invariant_of-boxes-clause-each_kind
invariant_of-boxes-clause-each_kind c = let w = c.args.boxes.now in w.each_kind ∙ sym (length-set w.outboxes.items c.args.edge (Some c.carry_into.new.self))

pub invariant_of-boxes-clause-outboxes_reserved : goal.invariant_of-boxes-clause-outboxes_reserved
invariant_of-boxes-clause-outboxes_reserved c =
    let w = c.args.boxes.now in
    outbox-with w.capacity w.outboxes.items c.args.edge w.outboxes_reserved c.carry_into.new.self c.carry_into.ensures.outbox_reserved

pub invariant_of-boxes-clause-inboxes_reserved : goal.invariant_of-boxes-clause-inboxes_reserved
invariant_of-boxes-clause-inboxes_reserved c =
    let r = c.args.boxes.now in
    inbox-with r.capacity r.inboxes.items c.args.edge r.inboxes_reserved c.carry_into.new.inbox (c.carry_into.ensures.inbox_reserved)
