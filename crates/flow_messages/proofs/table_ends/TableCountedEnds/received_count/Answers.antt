use Rattle.std.proofs.Common.{◌<◌, length, arith}
use borrow.Author.Tests.{ltb-true}
use Rattle.std.proofs.Common.{[]}
use Rattle.flow_messages.proofs.Counts.{count-said}
use Rattle.flow_messages.proofs.Tables.{at_line-here, gone_from, received_on}
use Rattle.flow_messages.proofs.table_ends.TableCountedEnds.received_count.Goals as goal

pub returns : goal.returns
returns c =
    let ls = c.args.self.now.lines.items in
    let h : c.args.edge < length ls = omega (arith, ltb-true) in
    let line = c.index.result.now in
    count-said (gone_from line) (at_line-here received_on ls c.args.edge [] line h c.index.ensures) line.counts
