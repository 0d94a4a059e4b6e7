use Rattle.std.proofs.Common.{◌≡◌, ◌++◌, length}
use Rattle.flow_messages.specs.Flats.{flat_signals, flats_appended}
use Rattle.flow_messages.specs.Ends.{TakenAll}
use Rattle.flow_messages.proofs.ends.Ends.take_block.Given as goal

-- what was taken so far
abbrev pub invariant-loop-taken : goal.invariant-loop-taken
invariant-loop-taken g l = let view = g.Self.Ends.view in record {
  same : g.Self.Ends.same l.fn.self l.self;
  before : l.block.items ≡ l.fn.block.items ++ flats_appended l.fn.block l.block;
  count : l.taken ≡ length (flats_appended l.fn.block l.block);
  taken : TakenAll (view l.fn.self) l.edge (flat_signals (flats_appended l.fn.block l.block)) (view l.self);
}
