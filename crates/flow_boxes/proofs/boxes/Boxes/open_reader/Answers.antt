use Rattle.std.proofs.Common.{◌<◌, length, refl, sym, ap, ◌∙◌, arith}
use Rattle.std.proofs.lemmas.Option.{slice_get_read}
use Rattle.std.specs.Prelude.{Some}
use Rattle.flow_messages.specs.declared.message.Kind.{Kind}
use Rattle.flow_boxes.proofs.Opened.{opens-reader}
use Rattle.flow_boxes.proofs.Kinded.{kinds-with}
use Rattle.flow_boxes.specs.Kinds.{inbox_kind}
use Rattle.flow_boxes.proofs.Kept.{inbox-with}
use Rattle.flow_boxes.proofs.boxes.Boxes.open_reader.Goals as goal

pub returns-clause-ok : goal.returns-clause-ok
returns-clause-ok c =
    let s = c.args.self.now in
    let f = c.in_ok-inbox.ensures in
    let h : c.args.edge < length s.inboxes.items = omega (arith, s.even, c.requires.below) in
    opens-reader s.capacity s.kinds.items s.outboxes.items s.inboxes.items c.args.edge c.in_ok-inbox.inbox h f.received f.held

pub invariant_of-self-clause-inbox_kinds : goal.invariant_of-self-clause-inbox_kinds
invariant_of-self-clause-inbox_kinds c =
    let s = c.args.self.now in
    let h : c.args.edge < length s.inboxes.items = omega (arith, s.even, c.requires.below) in
    let of = slice_get_read s.kinds.items _ c.args.edge c.index.result.now refl (omega (arith, c.requires.below, s.each_kind)) c.index.ensures in
    kinds-with inbox_kind s.kinds.items s.inboxes.items c.args.edge s.inbox_kinds c.in_ok-inbox.inbox h (of ∙ ap (λ (k : Kind). Some k) (sym c.in_ok-inbox.ensures.kind))

pub invariant_of-self-clause-inboxes_reserved : goal.invariant_of-self-clause-inboxes_reserved
invariant_of-self-clause-inboxes_reserved c =
    let s = c.args.self.now in
    inbox-with s.capacity s.inboxes.items c.args.edge s.inboxes_reserved c.in_ok-inbox.inbox c.in_ok-inbox.ensures.reserved
