use Rattle.std.proofs.Common.{sym, ◌∙◌, length-set}
use Rattle.std.specs.Prelude.{Some}
use Rattle.flow_boxes.proofs.Changed.{writer-below, reader-below}
use Rattle.flow_boxes.proofs.Boxed.{carry-bound, carry-ends, carry-kind, writer-carries, reader-carries, boxes-carried, boxes-linked}
use Rattle.flow_boxes.proofs.Kinded.{kinds-kept}
use Rattle.flow_boxes.specs.Kinds.{outbox_kind, inbox_kind}
use Rattle.flow_boxes.proofs.Kept.{outbox-with, inbox-with}
use Rattle.flow_boxes.proofs.carrying.carry.Goals as goal

pub carry_into-requires-clause-bound : goal.carry_into-requires-clause-bound
carry_into-requires-clause-bound c =
    let w = c.args.writer.now in
    let r = c.args.reader.now in
    carry-bound w.capacity r.capacity w.kinds.items r.kinds.items w.outboxes.items w.inboxes.items r.outboxes.items r.inboxes.items c.args.edge _ c.in-Some-Some.outbox
    c.in-Some-Some.outbox (writer-below w.outboxes.items c.args.edge c.requires.writes) c.index_mut.ensures.value c.in-Some-Some.is-0 _
    c.in-Some-Some.inbox c.in-Some-Some.inbox (reader-below r.inboxes.items c.args.edge c.requires.reads) c.index_mut-2.ensures.value
    c.in-Some-Some.is-1 c.requires

pub carry_into-requires-clause-kind : goal.carry_into-requires-clause-kind
carry_into-requires-clause-kind c =
    let w = c.args.writer.now in
    let r = c.args.reader.now in
    carry-kind w.capacity r.capacity w.kinds.items r.kinds.items w.outboxes.items w.inboxes.items r.outboxes.items r.inboxes.items c.args.edge _ c.in-Some-Some.outbox
    c.in-Some-Some.outbox (writer-below w.outboxes.items c.args.edge c.requires.writes) c.index_mut.ensures.value c.in-Some-Some.is-0 _
    c.in-Some-Some.inbox c.in-Some-Some.inbox (reader-below r.inboxes.items c.args.edge c.requires.reads) c.index_mut-2.ensures.value
    c.in-Some-Some.is-1 c.requires w.outbox_kinds w.each_kind r.inbox_kinds (r.each_kind ∙ sym r.even)

pub carry_into-requires-clause-ends : goal.carry_into-requires-clause-ends
carry_into-requires-clause-ends c =
    let w = c.args.writer.now in
    let r = c.args.reader.now in
    carry-ends w.capacity r.capacity w.kinds.items r.kinds.items w.outboxes.items w.inboxes.items r.outboxes.items r.inboxes.items c.args.edge _ c.in-Some-Some.outbox
    c.in-Some-Some.outbox (writer-below w.outboxes.items c.args.edge c.requires.writes) c.index_mut.ensures.value c.in-Some-Some.is-0 _
    c.in-Some-Some.inbox c.in-Some-Some.inbox (reader-below r.inboxes.items c.args.edge c.requires.reads) c.index_mut-2.ensures.value
    c.in-Some-Some.is-1 c.requires

pub invariant_of-writer-clause-outbox_kinds : goal.invariant_of-writer-clause-outbox_kinds
invariant_of-writer-clause-outbox_kinds c =
    let w = c.args.writer.now in
    kinds-kept outbox_kind w.kinds.items w.outboxes.items c.args.edge w.outbox_kinds _ c.in-Some-Some.outbox c.carry_into.new.self
    (writer-below w.outboxes.items c.args.edge c.requires.writes) w.each_kind c.index_mut.ensures.value c.in-Some-Some.is-0
    c.carry_into.ensures.outbox_kind

pub invariant_of-reader-clause-inbox_kinds : goal.invariant_of-reader-clause-inbox_kinds
invariant_of-reader-clause-inbox_kinds c =
    let r = c.args.reader.now in
    kinds-kept inbox_kind r.kinds.items r.inboxes.items c.args.edge r.inbox_kinds _ c.in-Some-Some.inbox c.carry_into.new.inbox
    (reader-below r.inboxes.items c.args.edge c.requires.reads) (r.each_kind ∙ sym r.even) c.index_mut-2.ensures.value c.in-Some-Some.is-1
    c.carry_into.ensures.inbox_kind

pub returns-clause-writer : goal.returns-clause-writer
returns-clause-writer c =
    let w = c.args.writer.now in
    let r = c.args.reader.now in
    writer-carries w.capacity r.capacity w.kinds.items r.kinds.items w.outboxes.items w.inboxes.items r.outboxes.items r.inboxes.items c.args.edge _ c.in-Some-Some.outbox
    c.carry_into.new.self (writer-below w.outboxes.items c.args.edge c.requires.writes) c.index_mut.ensures.value c.in-Some-Some.is-0 _
    c.in-Some-Some.inbox c.carry_into.new.inbox (reader-below r.inboxes.items c.args.edge c.requires.reads) c.index_mut-2.ensures.value
    c.in-Some-Some.is-1 c.carry_into.ensures.sent

pub returns-clause-reader : goal.returns-clause-reader
returns-clause-reader c =
    let w = c.args.writer.now in
    let r = c.args.reader.now in
    reader-carries w.capacity r.capacity w.kinds.items r.kinds.items w.outboxes.items w.inboxes.items r.outboxes.items r.inboxes.items c.args.edge _ c.in-Some-Some.outbox
    c.carry_into.new.self (writer-below w.outboxes.items c.args.edge c.requires.writes) c.index_mut.ensures.value c.in-Some-Some.is-0 _
    c.in-Some-Some.inbox c.carry_into.new.inbox (reader-below r.inboxes.items c.args.edge c.requires.reads) c.index_mut-2.ensures.value
    c.in-Some-Some.is-1 c.carry_into.ensures.received

pub returns-clause-carried : goal.returns-clause-carried
returns-clause-carried c =
    let w = c.args.writer.now in
    let r = c.args.reader.now in
    boxes-carried w.capacity r.capacity w.kinds.items r.kinds.items w.outboxes.items w.inboxes.items r.outboxes.items r.inboxes.items c.args.edge _ c.in-Some-Some.outbox
    c.carry_into.new.self (writer-below w.outboxes.items c.args.edge c.requires.writes) c.index_mut.ensures.value c.in-Some-Some.is-0 _
    c.in-Some-Some.inbox c.carry_into.new.inbox (reader-below r.inboxes.items c.args.edge c.requires.reads) c.index_mut-2.ensures.value
    c.in-Some-Some.is-1 c.requires c.carry_into.ensures.sent c.carry_into.ensures.received c.carry_into.ensures.moved c.carry_into.ensures.emptied
    c.carry_into.ensures.room

pub returns-clause-linked : goal.returns-clause-linked
returns-clause-linked c =
    let w = c.args.writer.now in
    let r = c.args.reader.now in
    boxes-linked w.capacity r.capacity w.kinds.items r.kinds.items w.outboxes.items w.inboxes.items r.outboxes.items r.inboxes.items c.args.edge _ c.in-Some-Some.outbox
    c.carry_into.new.self (writer-below w.outboxes.items c.args.edge c.requires.writes) c.index_mut.ensures.value c.in-Some-Some.is-0 _
    c.in-Some-Some.inbox c.carry_into.new.inbox (reader-below r.inboxes.items c.args.edge c.requires.reads) c.index_mut-2.ensures.value
    c.in-Some-Some.is-1 c.requires c.carry_into.ensures.sent c.carry_into.ensures.received c.carry_into.ensures.moved c.carry_into.ensures.emptied
    c.carry_into.ensures.room

pub invariant_of-writer-clause-each_kind : goal.invariant_of-writer-clause-each_kind
invariant_of-writer-clause-each_kind c = let w = c.args.writer.now in w.each_kind ∙ sym (length-set w.outboxes.items c.args.edge (Some c.carry_into.new.self))

pub invariant_of-writer-clause-outboxes_reserved : goal.invariant_of-writer-clause-outboxes_reserved
invariant_of-writer-clause-outboxes_reserved c =
    let w = c.args.writer.now in
    outbox-with w.capacity w.outboxes.items c.args.edge w.outboxes_reserved c.carry_into.new.self c.carry_into.ensures.outbox_reserved

pub invariant_of-reader-clause-inboxes_reserved : goal.invariant_of-reader-clause-inboxes_reserved
invariant_of-reader-clause-inboxes_reserved c =
    let r = c.args.reader.now in
    inbox-with r.capacity r.inboxes.items c.args.edge r.inboxes_reserved c.carry_into.new.inbox (c.carry_into.ensures.inbox_reserved ∙ sym c.requires.capacity)
