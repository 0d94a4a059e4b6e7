use Rattle.std.proofs.Common.{◌≡◌, ◌≤◌, ◌++◌, length, map, take}
use Rattle.flow_nodes.specs.declared.inputs.turns.Piece.TheVariants.{Flag}
use Rattle.flow_nodes.specs.inputs.Turns.{depth_of}
use Rattle.flow_nodes.specs.inputs.Left.{left}
use Rattle.flow_nodes.proofs.inputs.scanner.flags_ahead.Given as goal

-- the items so far, and what is left after them
abbrev pub invariant-loop-count : goal.invariant-loop-count
invariant-loop-count l = record {
  first : left l.text l.way l.leaf l.fn.at l.fn.state ≡ map Flag (take l.count l.flags) ++ left l.text l.way l.leaf l.at l.state;
  long : length l.flags ≡ 16;
  within : l.at ≤ length l.text;
  shallow : depth_of l.state.mode ≤ l.at;
}
