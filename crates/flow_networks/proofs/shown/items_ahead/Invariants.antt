use Rattle.std.proofs.Common.{◌≡◌, false, take}
use Rattle.arrayvec.specs.ArrayVec.{array_vec_len}
use Rattle.flow_messages.specs.Blocks.{item_signals}
use Rattle.flow_messages.specs.Flats.{flat_signals}
use Rattle.flow_messages.specs.Signals.{ended}
use Rattle.flow_base.specs.Passing.{MayCome}
use Rattle.flow_networks.proofs.shown.items_ahead.Given as goal

-- the first items so far
abbrev pub invariant-loop-at : goal.invariant-loop-at
invariant-loop-at g l = record {
  said : flat_signals l.block.items ≡ take l.at (item_signals l.items);
  may_come : MayCome l.kind (flat_signals l.block.items);
  free : ended (flat_signals l.block.items) ≡ false;
  len : array_vec_len l.block ≡ l.at;
}
