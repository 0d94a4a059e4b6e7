use Rattle.std.proofs.Common.{refl, sym, ap, ◌∙◌, arith, length-set}
use Rattle.std.proofs.lemmas.Option.{slice_get_read}
use Rattle.std.specs.Prelude.{Some}
use Rattle.flow_messages.specs.declared.message.Kind.{Kind}
use Rattle.flow_boxes.proofs.Opened.{opens-writer}
use Rattle.flow_boxes.proofs.Kinded.{kinds-with}
use Rattle.flow_boxes.specs.Kinds.{outbox_kind}
use Rattle.flow_boxes.proofs.Kept.{outbox-with}
use Rattle.flow_boxes.proofs.boxes.Boxes.open_writer.Goals as goal

pub returns-clause-ok : goal.returns-clause-ok
returns-clause-ok c =
    let s = c.args.self.now in
    let f = c.in_ok-outbox.ensures in
    opens-writer s.capacity s.kinds.items s.outboxes.items s.inboxes.items c.args.edge c.in_ok-outbox.outbox c.requires.below f.sent f.held f.room

pub invariant_of-self-clause-outbox_kinds : goal.invariant_of-self-clause-outbox_kinds
invariant_of-self-clause-outbox_kinds c =
    let s = c.args.self.now in
    let of = slice_get_read s.kinds.items _ c.args.edge c.index.result.now refl (omega (arith, c.requires.below, s.each_kind)) c.index.ensures in
    kinds-with outbox_kind s.kinds.items s.outboxes.items c.args.edge s.outbox_kinds c.in_ok-outbox.outbox c.requires.below (of ∙ ap (λ (k : Kind). Some k) (sym c.in_ok-outbox.ensures.kind))

pub invariant_of-self-clause-each_kind : goal.invariant_of-self-clause-each_kind
invariant_of-self-clause-each_kind c = let s = c.args.self.now in s.each_kind ∙ sym (length-set s.outboxes.items c.args.edge (Some c.in_ok-outbox.outbox))

pub invariant_of-self-clause-outboxes_reserved : goal.invariant_of-self-clause-outboxes_reserved
invariant_of-self-clause-outboxes_reserved c =
    let s = c.args.self.now in
    outbox-with s.capacity s.outboxes.items c.args.edge s.outboxes_reserved c.in_ok-outbox.outbox c.in_ok-outbox.ensures.reserved
