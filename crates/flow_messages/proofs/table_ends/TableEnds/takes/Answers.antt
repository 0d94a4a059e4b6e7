use Rattle.std.proofs.Common.{◌<◌, length, arith, subst, sym}
use Rattle.std.specs.Prelude.{◌↔◌, IsTrue}
use borrow.Author.Tests.{ltb-true}
use Rattle.flow_messages.specs.Kinds.{TakesKind}
use Rattle.flow_messages.proofs.Fitting.{same_takes}
use Rattle.flow_messages.proofs.Tables.{line-kind}
use Rattle.flow_messages.proofs.table_ends.TableEnds.takes.Goals as goal

pub returns : goal.returns
returns c =
    let ls = c.args.self.now.lines.items in
    let h : c.args.edge < length ls = omega (arith, ltb-true) in
    let line = c.index.result.now in
    subst (λ of. IsTrue c.eq.result ↔ TakesKind of c.args.kind) (sym (line-kind ls c.args.edge line h c.index.ensures))
    (same_takes line.store.kind c.args.kind c.eq.result c.eq.ensures)
