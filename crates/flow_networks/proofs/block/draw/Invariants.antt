use Rattle.std.proofs.Common.{[], ◌≤◌, length}
use Rattle.arrayvec.specs.ArrayVec.{array_vec_len}
use Rattle.flow_messages.specs.Flats.{flat_signals}
use Rattle.flow_networks.specs.Blocks.{InBlock}
use Rattle.flow_networks.proofs.block.draw.Given as goal

-- what was drawn so far
abbrev pub invariant-loop : goal.invariant-loop
invariant-loop g l = let state = g.T.Transducer.state in record {
  drew : InBlock g.T.Transducer.behaviour (state l.fn.node) [] (state l.node) (flat_signals l.block.items) (length l.block.items);
  few : array_vec_len l.block ≤ l.counter;
}
