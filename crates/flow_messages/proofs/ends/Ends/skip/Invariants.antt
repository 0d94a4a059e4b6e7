use Rattle.std.proofs.Common.{take}
use Rattle.flow_messages.specs.Ends.{TakenAll}
use Rattle.flow_messages.proofs.ends.Ends.skip.Given as goal

-- what was taken so far
abbrev pub invariant-loop : goal.invariant-loop
invariant-loop g l = let view = g.Self.Ends.view in record {
  same : g.Self.Ends.same l.fn.self l.self;
  taken : TakenAll (view l.fn.self) l.edge (take l.counter ((view l.fn.self).coming l.edge)) (view l.self);
}
