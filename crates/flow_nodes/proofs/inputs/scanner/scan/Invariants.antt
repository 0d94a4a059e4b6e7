use Rattle.std.proofs.Common.{◌≡◌, ◌≤◌, ◌-◌, length}
use Rattle.flow_nodes.specs.inputs.Turns.{depth_of}
use Rattle.flow_nodes.specs.inputs.Left.{left}
use Rattle.flow_nodes.proofs.inputs.scanner.scan.Given as goal

abbrev pub invariant-tokens : goal.invariant-tokens
invariant-tokens l = record {
  same : left l.text l.way l.leaf l.at l.state ≡ left l.text l.way l.leaf l.fn.at l.fn.state;
  within : l.at ≤ length l.text;
  shallow : depth_of l.state.mode ≤ l.at;
}

abbrev pub decreases-tokens : goal.decreases-tokens
decreases-tokens l = length l.text - l.at
