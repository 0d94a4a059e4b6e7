use Rattle.std.proofs.Common.{◌≤◌, ◌-◌, length}
use Rattle.flow_nodes.specs.inputs.Passing.{SameLeft}
use Rattle.flow_nodes.proofs.inputs.brackets.past_brackets.Given as goal

abbrev pub invariant-bytes : goal.invariant-bytes
invariant-bytes l = record {
  same : SameLeft l.text l.passes_commas l.from l.opened l.at l.depth;
  from : l.from ≤ l.at;
  within : l.at ≤ length l.text;
  shallow : l.depth ≤ l.at;
}

abbrev pub decreases-bytes : goal.decreases-bytes
decreases-bytes l = length l.text - l.at
