use Rattle.std.proofs.Common.{◌≤◌, ◌+◌, take}
use Rattle.flow_folds.specs.LengthBlocks.{LengthsAlong}
use Rattle.flow_folds.proofs.length.lengths_along.Given as goal

-- the lengths so far, and how many elements came since
abbrev pub invariant-loop-place : goal.invariant-loop-place
invariant-loop-place l = record {
  most : l.ended ≤ l.most;
  range : l.elements ≤ l.fn.count + l.place;
  along : LengthsAlong l.fn.count (take l.place l.flags) (take l.ended l.lengths) l.elements;
}
