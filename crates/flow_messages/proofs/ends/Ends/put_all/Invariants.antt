use Rattle.std.proofs.Common.{take}
use Rattle.flow_messages.specs.Ends.{PutAll}
use Rattle.flow_messages.specs.Blocks.{item_signals}
use Rattle.flow_messages.proofs.ends.Ends.put_all.Given as goal

-- what was put so far
abbrev pub invariant-loop-at : goal.invariant-loop-at
invariant-loop-at g l = let view = g.Self.Ends.view in record {
  same : g.Self.Ends.same l.fn.self l.self;
  put : PutAll (view l.fn.self) l.edge (take l.at (item_signals l.items)) (view l.self);
}
