use Rattle.std.proofs.Common.{◌≡◌, ◌≤◌, take}
use Rattle.flow_segment.specs.PackMachine.{kept}
use Rattle.flow_segment.proofs.pack.keep.Given as goal

-- those kept so far
abbrev pub invariant-loop-at : goal.invariant-loop-at
invariant-loop-at g l = record {
  within : l.count ≤ l.at;
  kept : take l.count l.block ≡ kept (take l.at l.truths) (take l.at l.items);
}
