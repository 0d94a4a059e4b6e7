use Rattle.std.proofs.Common.{◌<◌, length, arith, subst}
use borrow.Author.Tests.{ltb-true}
use Rattle.flow_messages.proofs.Tables.{line-kind, line-put, line-kept, line-full, on_ok, on_both, if_err, err_with, err_both}
use Rattle.flow_messages.specs.Kinds.{FitsEdge}
use Rattle.flow_messages.specs.Signals.{signal_of}
use Rattle.flow_messages.proofs.table_ends.TableEnds.put.Goals as goal

pub put-requires : goal.put-requires
put-requires c =
    let ls = c.args.self.now.lines.items in
    let h : c.args.edge < length ls = omega (arith, ltb-true) in
    subst (λ k. FitsEdge k (signal_of c.args.message)) (line-kind ls c.args.edge _ h c.index_mut.ensures.value) c.requires.fits

pub returns-clause-ok : goal.returns-clause-ok
returns-clause-ok c =
    let ls = c.args.self.now.lines.items in
    let h : c.args.edge < length ls = omega (arith, ltb-true) in
    on_ok c.put.result (λ p. line-put ls c.args.edge _ _ h c.index_mut.ensures.value c.put.ensures.kind c.args.message p.0 p.1 c.put.ensures.capacity)
    (on_both _ _ c.put.result c.put.ensures.sent c.put.ensures.held)

pub returns-clause-refused : goal.returns-clause-refused
returns-clause-refused c =
    let ls = c.args.self.now.lines.items in
    let h : c.args.edge < length ls = omega (arith, ltb-true) in
    if_err _ _ c.put.result (λ e p. (p.0, (line-kept ls c.args.edge _ _ h c.index_mut.ensures.value c.put.ensures.kind p.1.0 p.1.1 c.put.ensures.capacity).0))
    (err_with _ _ c.put.result c.put.ensures.returned (err_both _ _ c.put.result c.put.ensures.unsent c.put.ensures.kept))

pub returns-clause-full : goal.returns-clause-full
returns-clause-full c =
    let ls = c.args.self.now.lines.items in
    let h : c.args.edge < length ls = omega (arith, ltb-true) in
    λ full. line-full ls c.args.edge _ _ h c.index_mut.ensures.value c.put.ensures.kind (c.put.ensures.full full)
