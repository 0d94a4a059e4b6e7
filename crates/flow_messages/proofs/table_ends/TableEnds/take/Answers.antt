use Rattle.std.proofs.Common.{◌<◌, length, arith, sym, ◌∙◌}
use borrow.Author.Tests.{ltb-true}
use Rattle.flow_messages.specs.Stores.{content_of}
use Rattle.flow_messages.proofs.Tables.{line-taken, line-kept, line-empty, line-held, if_some, if_none, some_unless_empty}
use Rattle.flow_messages.proofs.table_ends.TableEnds.take.Goals as goal

pub returns-clause-some : goal.returns-clause-some
returns-clause-some c =
    let ls = c.args.self.now.lines.items in
    let h : c.args.edge < length ls = omega (arith, ltb-true) in
    if_some _ _ c.take.result (λ m p. line-taken ls c.args.edge _ _ h c.index_mut.ensures.value c.take.ensures.kind m c.take.ensures.sent p c.take.ensures.capacity) c.take.ensures.some

pub returns-clause-none : goal.returns-clause-none
returns-clause-none c =
    let ls = c.args.self.now.lines.items in
    let h : c.args.edge < length ls = omega (arith, ltb-true) in
    let new = c.take.new.self in
    if_none c.take.result (λ p. (
      (line-kept ls c.args.edge _ new h c.index_mut.ensures.value c.take.ensures.kind c.take.ensures.sent (p.0 ∙ sym p.1) c.take.ensures.capacity).1,
      line-empty ls c.args.edge _ new h c.index_mut.ensures.value c.take.ensures.kind p.0,
    )) c.take.ensures.none

pub returns-clause-succeeds : goal.returns-clause-succeeds
returns-clause-succeeds c some =
    let ls = c.args.self.now.lines.items in
    let h : c.args.edge < length ls = omega (arith, ltb-true) in
    let old = c.index_mut.result.now in
    some_unless_empty c.take.result (content_of old.store) (omega (arith, some, line-held ls c.args.edge old h c.index_mut.ensures.value)) (if_none c.take.result (λ p. p.1) c.take.ensures.none)
