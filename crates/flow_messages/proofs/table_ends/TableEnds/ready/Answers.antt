use Rattle.std.proofs.Common.{◌<◌, length, arith}
use borrow.Author.Tests.{ltb-true}
use Rattle.flow_messages.proofs.Tables.{line-held}
use Rattle.flow_messages.proofs.table_ends.TableEnds.ready.Goals as goal

pub returns-clause-value : goal.returns-clause-value
returns-clause-value c =
    let ls = c.args.self.now.lines.items in
    let h : c.args.edge < length ls = omega (arith, ltb-true) in
    rw (line-held ls c.args.edge c.index.result.now h c.index.ensures) c.ready.ensures
