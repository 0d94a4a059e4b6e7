use Rattle.std.proofs.Common.{◌<◌, length, arith}
use borrow.Author.Tests.{ltb-true}
use Rattle.flow_messages.proofs.Tables.{line-held}
use Rattle.flow_messages.proofs.table_ends.TableWholeEnds.held.Goals as goal

pub returns : goal.returns
returns c =
    let ls = c.args.self.now.lines.items in
    let h : c.args.edge < length ls = omega (arith, ltb-true) in
    omega (arith, c.len.ensures, line-held ls c.args.edge c.index.result.now h c.index.ensures)
