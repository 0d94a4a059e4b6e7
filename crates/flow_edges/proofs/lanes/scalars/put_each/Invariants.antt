use Rattle.std.proofs.Common.{take}
use Rattle.flow_messages.specs.Contents.{item_messages}
use Rattle.flow_edges.specs.lanes.Followed.{PutsInTurn}
use Rattle.flow_edges.proofs.lanes.scalars.put_each.Given as goal

-- what was put so far
abbrev pub invariant-loop-at : goal.invariant-loop-at
invariant-loop-at l = PutsInTurn (take l.at (item_messages l.items)) l.fn.edge l.edge
