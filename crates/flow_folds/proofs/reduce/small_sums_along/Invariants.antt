use Rattle.std.proofs.Common.{◌≤◌, length, take}
use Rattle.flow_folds.specs.ReduceBlocks.{SumsOfSegments}
use Rattle.flow_folds.proofs.reduce.small_sums_along.Given as goal

-- the sums so far, and what was added since
abbrev pub invariant-loop-place : goal.invariant-loop-place
invariant-loop-place l = record {
  elements : l.read ≤ length l.elements;
  most : l.ended ≤ l.most;
  along : SumsOfSegments l.fn.total (take l.place l.flags) (take l.read l.elements) (take l.ended l.sums) l.reached;
}
