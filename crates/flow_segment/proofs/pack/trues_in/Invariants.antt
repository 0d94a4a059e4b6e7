use Rattle.std.proofs.Common.{◌≡◌, ◌≤◌, take}
use Rattle.flow_segment.specs.PackMachine.{trues}
use Rattle.flow_segment.proofs.pack.trues_in.Given as goal

-- those so far
abbrev pub invariant-loop-at : goal.invariant-loop-at
invariant-loop-at l = record {
  counted : l.found ≡ trues (take l.at l.truths);
  within : l.found ≤ l.at;
}
