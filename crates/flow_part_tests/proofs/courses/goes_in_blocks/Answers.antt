use Rattle.flow_messages.proofs.SideBySide.{items_still}
use Rattle.flow_part_tests.proofs.courses.goes_in_blocks.Goals as goal

-- they are of the kind that the edge takes
pub put_all-requires-clause-kind : goal.put_all-requires-clause-kind
put_all-requires-clause-kind g c =
    let kinds = (g.E.Ends.view c.args.ends.now).kind in
    items_still (kinds c.args.edge) _ c.in-Puts.items (c.space.ensures.looked.ends.kinds c.args.edge) (c.takes_items.ensures c.if-takes_items.true)
