use Rattle.std.proofs.Common.{◌<◌, length, arith, set, subst}
use borrow.Author.Tests.{ltb-true}
use Rattle.flow_messages.specs.Contents.{item_messages}
use Rattle.flow_messages.specs.Ends.{PutAll}
use Rattle.flow_messages.specs.Kinds.{TakesItems}
use Rattle.flow_messages.specs.Tables.{view_of_lines}
use Rattle.flow_messages.proofs.SideBySide.{length-items, signals-items}
use Rattle.flow_messages.proofs.Tables.{line-put_block, line-kind, line-space}
use Rattle.flow_messages.proofs.table_ends.TableEnds.put_all.Goals as goal

pub put_all-requires : goal.put_all-requires
put_all-requires c =
    let ls = c.args.self.now.lines.items in
    let h : c.args.edge < length ls = omega (arith, ltb-true) in
    record {
      room = omega (arith, c.requires.certain, length-items c.args.items, line-space ls c.args.edge _ h c.index_mut.ensures.value);
      kind = subst (λ k. TakesItems k c.args.items) (line-kind ls c.args.edge _ h c.index_mut.ensures.value) c.requires.kind;
    }

pub returns-clause-put : goal.returns-clause-put
returns-clause-put c =
    let ls = c.args.self.now.lines.items in
    let h : c.args.edge < length ls = omega (arith, ltb-true) in
    let new = c.put_all.new.self in
    subst (λ l. PutAll (view_of_lines ls) c.args.edge l (view_of_lines (set ls c.args.edge new))) (signals-items c.args.items)
    (line-put_block ls c.args.edge _ new h c.index_mut.ensures.value c.put_all.ensures.kind (item_messages c.args.items) c.put_all.ensures.sent c.put_all.ensures.held
    c.put_all.ensures.capacity)
