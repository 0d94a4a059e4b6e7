use Rattle.std.proofs.Common.{[], ◌∷◌, ◌∙◌, subst, sym, length-set}
use Rattle.std.specs.Prelude.{Some}
use Rattle.flow_messages.specs.Kinds.{FitsEdge}
use Rattle.flow_messages.specs.Signals.{signal_of}
use Rattle.flow_messages.proofs.Tables.{on_ok, if_err, err_with}
use Rattle.flow_boxes.proofs.Changed.{writer-below, writer-put, writer-kept, put-keeps, refused-keeps, has_room}
use Rattle.flow_boxes.proofs.Kinded.{kind-at, kinds-kept}
use Rattle.flow_boxes.specs.Kinds.{outbox_kind}
use Rattle.flow_boxes.proofs.Results.{by_result}
use Rattle.flow_boxes.proofs.Kept.{outbox-kept}
use Rattle.flow_boxes.proofs.box_ends.BoxesEnds.put.Goals as goal

pub put-requires : goal.put-requires
put-requires c =
    let s = c.args.self.now in
    let h = writer-below s.outboxes.items c.args.edge c.requires.writes in
    let kind = kind-at outbox_kind s.kinds.items s.outboxes.items c.args.edge s.outbox_kinds _ c.in-Some.outbox h s.each_kind c.index_mut.ensures.value c.in-Some.is in
    subst (λ of. FitsEdge of (signal_of c.args.message)) kind c.requires.fits

pub invariant_of-self-clause-outbox_kinds : goal.invariant_of-self-clause-outbox_kinds
invariant_of-self-clause-outbox_kinds c =
    let s = c.args.self.now in
    let h = writer-below s.outboxes.items c.args.edge c.requires.writes in
    kinds-kept outbox_kind s.kinds.items s.outboxes.items c.args.edge s.outbox_kinds _ c.in-Some.outbox c.put.new.self h s.each_kind c.index_mut.ensures.value c.in-Some.is c.put.ensures.kind

pub returns-clause-same : goal.returns-clause-same
returns-clause-same c =
    let s = c.args.self.now in
    let h = writer-below s.outboxes.items c.args.edge c.requires.writes in
    by_result c.put.result
    (λ p. put-keeps s.capacity s.kinds.items s.outboxes.items s.inboxes.items c.args.edge _ c.in-Some.outbox c.put.new.self h c.index_mut.ensures.value c.in-Some.is
    (c.args.message ∷ []) p.sent p.held p.room)
    (λ p. refused-keeps s.capacity s.kinds.items s.outboxes.items s.inboxes.items c.args.edge _ c.in-Some.outbox c.put.new.self h c.index_mut.ensures.value c.in-Some.is p.sent p.held p.room)
    c.put.ensures.ok c.put.ensures.refused

pub returns-clause-ok : goal.returns-clause-ok
returns-clause-ok c =
    let s = c.args.self.now in
    let h = writer-below s.outboxes.items c.args.edge c.requires.writes in
    on_ok c.put.result (λ p. writer-put s.capacity s.kinds.items s.outboxes.items s.inboxes.items c.args.edge _ c.in-Some.outbox c.put.new.self h
    c.index_mut.ensures.value c.in-Some.is c.args.message p.sent p.held p.room) c.put.ensures.ok

pub returns-clause-refused : goal.returns-clause-refused
returns-clause-refused c =
    let s = c.args.self.now in
    let h = writer-below s.outboxes.items c.args.edge c.requires.writes in
    if_err _ _ c.put.result
    (λ x p. (
      p.0,
      writer-kept s.capacity s.kinds.items s.outboxes.items s.inboxes.items c.args.edge _ c.in-Some.outbox c.put.new.self h c.index_mut.ensures.value
          c.in-Some.is p.1.sent p.1.held p.1.room,
    )) (err_with _ _ c.put.result c.put.ensures.returned c.put.ensures.refused)

pub returns-clause-full : goal.returns-clause-full
returns-clause-full c =
    let s = c.args.self.now in
    let h = writer-below s.outboxes.items c.args.edge c.requires.writes in
    λ full. has_room s.capacity s.kinds.items s.outboxes.items s.inboxes.items c.args.edge _ c.in-Some.outbox c.put.new.self h c.index_mut.ensures.value c.in-Some.is ∙ c.put.ensures.full full

pub invariant_of-self-clause-each_kind : goal.invariant_of-self-clause-each_kind
invariant_of-self-clause-each_kind c = let s = c.args.self.now in s.each_kind ∙ sym (length-set s.outboxes.items c.args.edge (Some c.put.new.self))

pub invariant_of-self-clause-outboxes_reserved : goal.invariant_of-self-clause-outboxes_reserved
invariant_of-self-clause-outboxes_reserved c =
    let s = c.args.self.now in
    let h = writer-below s.outboxes.items c.args.edge c.requires.writes in
    outbox-kept s.capacity s.outboxes.items c.args.edge s.outboxes_reserved _ c.in-Some.outbox c.put.new.self h c.index_mut.ensures.value c.in-Some.is c.put.ensures.reserved
