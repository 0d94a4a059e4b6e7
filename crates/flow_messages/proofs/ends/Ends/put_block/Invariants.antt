use Rattle.std.proofs.Common.{◌≡◌, ◌+◌, ◌<◌, ◌≤◌, false, length, take}
use Rattle.flow_messages.specs.Signals.{ended}
use Rattle.flow_messages.specs.Flats.{flat_signals}
use Rattle.flow_messages.specs.Ends.{LookedForRoom, PutAll}
use Rattle.flow_messages.proofs.ends.Ends.put_block.Given as goal

-- what was put so far: nothing where End was put before
abbrev pub invariant-loop-flat : goal.invariant-loop-flat
invariant-loop-flat g l = let view = g.Self.Ends.view in record {
  same : g.Self.Ends.same l.fn.self l.self;
  put : PutAll (view l.fn.self) l.edge (flat_signals (take l.flat-index l.fn.block.items)) (view l.self);
  unended : 0 < l.flat-index → ended ((view l.fn.self).sent l.edge) ≡ false;
  looked : l.flat-index ≡ 0 → LookedForRoom (view l.fn.self) l.edge (view l.self);
  room : length l.fn.block.items ≤ (view l.self).room l.edge + l.flat-index;
}
