use Rattle.std.proofs.Common.{◌<◌, length, arith, subst}
use borrow.Author.Tests.{ltb-true}
use mathlib.Core.List.{IsPrefix}
use Rattle.flow_messages.specs.Contents.{item_messages}
use Rattle.flow_messages.specs.Tables.{view_of_lines}
use Rattle.flow_messages.proofs.SideBySide.{signals-items}
use Rattle.flow_messages.proofs.Tables.{line-begins}
use Rattle.flow_messages.proofs.table_ends.TableEnds.shown.Goals as goal

pub returns : goal.returns
returns c =
    let ls = c.args.self.now.lines.items in
    let h : c.args.edge < length ls = omega (arith, ltb-true) in
    subst (λ l. IsPrefix l ((view_of_lines ls).coming c.args.edge)) (signals-items c.shown.result)
    (line-begins ls c.args.edge c.index.result.now h c.index.ensures (item_messages c.shown.result) c.shown.ensures.first)
