use Rattle.std.proofs.Common.{List, set, subst, arith, sym, ◌∙◌, length-set}
use Rattle.std.specs.Prelude.{Some}
use Rattle.flow_messages.specs.Signals.{Signal}
use Rattle.flow_messages.specs.Contents.{item_messages}
use Rattle.flow_messages.specs.Ends.{PutAll}
use Rattle.flow_messages.specs.Kinds.{TakesItems}
use Rattle.flow_messages.proofs.SideBySide.{signals-items, length-items}
use Rattle.flow_boxes.specs.Contents.{contents_of}
use Rattle.flow_boxes.proofs.Changed.{writer-below, writer-put_all, block-keeps, had_room}
use Rattle.flow_boxes.proofs.Kinded.{kind-at, kinds-kept}
use Rattle.flow_boxes.specs.Kinds.{outbox_kind}
use Rattle.flow_boxes.proofs.Kept.{outbox-kept}
use Rattle.flow_boxes.proofs.box_ends.BoxesEnds.put_all.Goals as goal

pub put_all-requires : goal.put_all-requires
put_all-requires c =
    let s = c.args.self.now in
    let h = writer-below s.outboxes.items c.args.edge c.requires.writes in
    let o = c.in-Some.outbox in
    let kind = kind-at outbox_kind s.kinds.items s.outboxes.items c.args.edge s.outbox_kinds _ o h s.each_kind c.index_mut.ensures.value c.in-Some.is in
    record {
      room = omega (
        arith,
        c.requires.certain,
        length-items c.args.items,
        had_room s.capacity s.kinds.items s.outboxes.items s.inboxes.items c.args.edge _ o o h c.index_mut.ensures.value c.in-Some.is,
      );
      kind = subst (λ of. TakesItems of c.args.items) kind c.requires.kind;
    }

pub invariant_of-self-clause-outbox_kinds : goal.invariant_of-self-clause-outbox_kinds
invariant_of-self-clause-outbox_kinds c =
    let s = c.args.self.now in
    let h = writer-below s.outboxes.items c.args.edge c.requires.writes in
    kinds-kept outbox_kind s.kinds.items s.outboxes.items c.args.edge s.outbox_kinds _ c.in-Some.outbox c.put_all.new.self h s.each_kind
    c.index_mut.ensures.value c.in-Some.is c.put_all.ensures.put.kind

pub returns-clause-same : goal.returns-clause-same
returns-clause-same c =
    let s = c.args.self.now in
    let h = writer-below s.outboxes.items c.args.edge c.requires.writes in
    block-keeps s.capacity s.kinds.items s.outboxes.items s.inboxes.items c.args.edge _ c.in-Some.outbox c.put_all.new.self h c.index_mut.ensures.value
    c.in-Some.is (item_messages c.args.items) c.put_all.ensures.put

pub returns-clause-put : goal.returns-clause-put
returns-clause-put c =
    let s = c.args.self.now in
    let h = writer-below s.outboxes.items c.args.edge c.requires.writes in
    let new = c.put_all.new.self in
    subst (λ (l : List Signal). PutAll (contents_of s.capacity s.kinds.items s.outboxes.items s.inboxes.items).ends c.args.edge l
    (contents_of s.capacity s.kinds.items (set s.outboxes.items c.args.edge (Some new)) s.inboxes.items).ends) (signals-items c.args.items)
    (writer-put_all s.capacity s.kinds.items s.outboxes.items s.inboxes.items c.args.edge _ c.in-Some.outbox new h c.index_mut.ensures.value c.in-Some.is
    (item_messages c.args.items) c.put_all.ensures.put)

pub invariant_of-self-clause-each_kind : goal.invariant_of-self-clause-each_kind
invariant_of-self-clause-each_kind c = let s = c.args.self.now in s.each_kind ∙ sym (length-set s.outboxes.items c.args.edge (Some c.put_all.new.self))

pub invariant_of-self-clause-outboxes_reserved : goal.invariant_of-self-clause-outboxes_reserved
invariant_of-self-clause-outboxes_reserved c =
    let s = c.args.self.now in
    let h = writer-below s.outboxes.items c.args.edge c.requires.writes in
    outbox-kept s.capacity s.outboxes.items c.args.edge s.outboxes_reserved _ c.in-Some.outbox c.put_all.new.self h c.index_mut.ensures.value c.in-Some.is c.put_all.ensures.put.reserved
