use Rattle.std.proofs.Common.{List, set, take, ◌++◌, length, ap, sym, ◌∙◌, subst, arith}
use Rattle.std.specs.Prelude.{Some}
use Rattle.std.proofs.lemmas.List.{take-append-drop}
use Rattle.flow_messages.specs.Signals.{Signal}
use Rattle.flow_messages.specs.Ends.{TakenAll}
use Rattle.flow_messages.specs.Stores.{content_of}
use Rattle.flow_messages.specs.TableLaws.{signals-length}
use Rattle.flow_messages.proofs.Signals.{signals-take}
use Rattle.flow_boxes.specs.Contents.{contents_of}
use Rattle.flow_boxes.proofs.Changed.{reader-below, reader-taken_all, take-keeps, had_coming}
use Rattle.flow_boxes.proofs.Kinded.{kinds-kept}
use Rattle.flow_boxes.specs.Kinds.{inbox_kind}
use Rattle.flow_boxes.proofs.Kept.{inbox-kept}
use Rattle.flow_boxes.proofs.box_ends.BoxesEnds.skip.Goals as goal

pub skip-requires : goal.skip-requires
skip-requires c =
    let s = c.args.self.now in
    let h = reader-below s.inboxes.items c.args.edge c.requires.reads in
    let i = c.in-Some.inbox in
    omega (
      arith,
      c.requires.certain,
      ap length (had_coming s.capacity s.kinds.items s.outboxes.items s.inboxes.items c.args.edge _ i i h c.index_mut.ensures.value c.in-Some.is),
      signals-length (content_of i.store),
    )

pub returns-clause-same : goal.returns-clause-same
returns-clause-same c =
    let s = c.args.self.now in
    let h = reader-below s.inboxes.items c.args.edge c.requires.reads in
    let n = c.args.count in
    let now = content_of c.in-Some.inbox.store in
    let parts = sym (take-append-drop n now) ∙ ap (λ k. take n now ++ k) (sym c.skip.ensures.rest) in
    take-keeps s.capacity s.kinds.items s.outboxes.items s.inboxes.items c.args.edge _ c.in-Some.inbox c.skip.new.self h c.index_mut.ensures.value c.in-Some.is
    (take n now) c.skip.ensures.received parts

pub returns-clause-taken : goal.returns-clause-taken
returns-clause-taken c =
    let s = c.args.self.now in
    let h = reader-below s.inboxes.items c.args.edge c.requires.reads in
    let n = c.args.count in
    let i = c.in-Some.inbox in
    let new = c.skip.new.self in
    let now = content_of i.store in
    let parts = sym (take-append-drop n now) ∙ ap (λ k. take n now ++ k) (sym c.skip.ensures.rest) in
    let said = signals-take n now ∙ ap (take n) (sym (had_coming s.capacity s.kinds.items s.outboxes.items s.inboxes.items c.args.edge _ i i h c.index_mut.ensures.value c.in-Some.is)) in
    subst (λ (l : List Signal). TakenAll (contents_of s.capacity s.kinds.items s.outboxes.items s.inboxes.items).ends c.args.edge l
    (contents_of s.capacity s.kinds.items s.outboxes.items (set s.inboxes.items c.args.edge (Some new))).ends) said
    (reader-taken_all s.capacity s.kinds.items s.outboxes.items s.inboxes.items c.args.edge _ i new h c.index_mut.ensures.value c.in-Some.is (take n now)
    c.skip.ensures.received parts)

pub invariant_of-self-clause-inbox_kinds : goal.invariant_of-self-clause-inbox_kinds
invariant_of-self-clause-inbox_kinds c =
    let s = c.args.self.now in
    let h = reader-below s.inboxes.items c.args.edge c.requires.reads in
    kinds-kept inbox_kind s.kinds.items s.inboxes.items c.args.edge s.inbox_kinds _ c.in-Some.inbox c.skip.new.self h (s.each_kind ∙ sym s.even)
    c.index_mut.ensures.value c.in-Some.is c.skip.ensures.kind

pub invariant_of-self-clause-inboxes_reserved : goal.invariant_of-self-clause-inboxes_reserved
invariant_of-self-clause-inboxes_reserved c =
    let s = c.args.self.now in
    let h = reader-below s.inboxes.items c.args.edge c.requires.reads in
    inbox-kept s.capacity s.inboxes.items c.args.edge s.inboxes_reserved _ c.in-Some.inbox c.skip.new.self h c.index_mut.ensures.value c.in-Some.is c.skip.ensures.reserved
