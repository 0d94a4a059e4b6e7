use Rattle.std.proofs.Common.{[], ◌∷◌, length, ap, sym, ◌∙◌, arith}
use Rattle.flow_messages.specs.TableLaws.{signals-length}
use Rattle.flow_messages.specs.Stores.{content_of}
use Rattle.flow_messages.specs.Signals.{signals}
use Rattle.flow_messages.proofs.Signals.{signals-nil}
use Rattle.flow_messages.proofs.Tables.{if_some, if_none, some_unless_empty}
use Rattle.flow_boxes.proofs.Results.{by_option, some_both, none_both}
use Rattle.flow_boxes.proofs.Changed.{reader-below, reader-taken, reader-kept, take-keeps, none-keeps, has_coming, had_coming}
use Rattle.flow_boxes.proofs.Kinded.{kinds-kept}
use Rattle.flow_boxes.specs.Kinds.{inbox_kind}
use Rattle.flow_boxes.proofs.Kept.{inbox-kept}
use Rattle.flow_boxes.proofs.box_ends.BoxesEnds.take.Goals as goal

pub returns-clause-same : goal.returns-clause-same
returns-clause-same c =
    let s = c.args.self.now in
    let h = reader-below s.inboxes.items c.args.edge c.requires in
    by_option c.take.result
    (λ m p. take-keeps s.capacity s.kinds.items s.outboxes.items s.inboxes.items c.args.edge _ c.in-Some.inbox c.take.new.self h c.index_mut.ensures.value c.in-Some.is (m ∷ []) p.0 p.1)
    (λ p. none-keeps s.capacity s.kinds.items s.outboxes.items s.inboxes.items c.args.edge _ c.in-Some.inbox c.take.new.self h c.index_mut.ensures.value c.in-Some.is p.0 (p.1.0 ∙ sym p.1.1))
    (some_both _ _ c.take.result c.take.ensures.received c.take.ensures.some)
    (none_both _ _ c.take.result c.take.ensures.unreceived (none_both _ _ c.take.result c.take.ensures.none c.take.ensures.held_none))

pub returns-clause-some : goal.returns-clause-some
returns-clause-some c =
    let s = c.args.self.now in
    let h = reader-below s.inboxes.items c.args.edge c.requires in
    if_some _ _ c.take.result
    (λ m p. reader-taken s.capacity s.kinds.items s.outboxes.items s.inboxes.items c.args.edge _ c.in-Some.inbox c.take.new.self h c.index_mut.ensures.value
    c.in-Some.is m p.0 p.1) (some_both _ _ c.take.result c.take.ensures.received c.take.ensures.some)

pub returns-clause-none : goal.returns-clause-none
returns-clause-none c =
    let s = c.args.self.now in
    let h = reader-below s.inboxes.items c.args.edge c.requires in
    if_none c.take.result (λ p. (
      reader-kept s.capacity s.kinds.items s.outboxes.items s.inboxes.items c.args.edge _ c.in-Some.inbox c.take.new.self h c.index_mut.ensures.value c.in-Some.is p.0 (p.1.0 ∙ sym p.1.1),
      ap length (has_coming s.capacity s.kinds.items s.outboxes.items s.inboxes.items c.args.edge _ c.in-Some.inbox c.take.new.self h c.index_mut.ensures.value c.in-Some.is
          ∙ ap signals p.1.0 ∙ signals-nil),
    )) (none_both _ _ c.take.result c.take.ensures.unreceived (none_both _ _ c.take.result c.take.ensures.none c.take.ensures.held_none))

pub returns-clause-succeeds : goal.returns-clause-succeeds
returns-clause-succeeds c some =
    let s = c.args.self.now in
    let h = reader-below s.inboxes.items c.args.edge c.requires in
    let i = c.in-Some.inbox in
    some_unless_empty c.take.result (content_of i.store)
    (omega (
      arith,
      some,
      ap length (had_coming s.capacity s.kinds.items s.outboxes.items s.inboxes.items c.args.edge _ i i h c.index_mut.ensures.value c.in-Some.is),
      signals-length (content_of i.store),
    ))
    c.take.ensures.held_none

pub invariant_of-self-clause-inbox_kinds : goal.invariant_of-self-clause-inbox_kinds
invariant_of-self-clause-inbox_kinds c =
    let s = c.args.self.now in
    let h = reader-below s.inboxes.items c.args.edge c.requires in
    kinds-kept inbox_kind s.kinds.items s.inboxes.items c.args.edge s.inbox_kinds _ c.in-Some.inbox c.take.new.self h (s.each_kind ∙ sym s.even)
    c.index_mut.ensures.value c.in-Some.is c.take.ensures.kind

pub invariant_of-self-clause-inboxes_reserved : goal.invariant_of-self-clause-inboxes_reserved
invariant_of-self-clause-inboxes_reserved c =
    let s = c.args.self.now in
    let h = reader-below s.inboxes.items c.args.edge c.requires in
    inbox-kept s.capacity s.inboxes.items c.args.edge s.inboxes_reserved _ c.in-Some.inbox c.take.new.self h c.index_mut.ensures.value c.in-Some.is c.take.ensures.reserved
