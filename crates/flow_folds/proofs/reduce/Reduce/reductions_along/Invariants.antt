use Rattle.std.proofs.Common.{◌≡◌, ◌-◌, ◌<◌, ◌≤◌, length, take}
use Rattle.flow_messages.specs.declared.message.Kind.TheVariants.{Int as IntKind}
use Rattle.flow_folds.specs.ReduceBlocks.{Reduces}
use Rattle.flow_folds.specs.ReduceMachine.{reduced_kind}
use Rattle.flow_folds.proofs.reduce.Reduce.reductions_along.Given as goal

-- the segments so far
abbrev pub invariant-segments : goal.invariant-segments
invariant-segments l = record {
  flags : l.passed ≤ length l.flags;
  elements : l.read ≤ length l.elements;
  most : l.ended ≤ l.most;
  kind : 0 < l.ended → reduced_kind l.self.reduction ≡ IntKind;
  along : Reduces (l.self.dialect, l.self.reduction) l.self.stage (take l.passed l.flags) (take l.read l.elements) (take l.ended l.values) l.stage;
}

-- a flag at least in each
abbrev pub decreases-segments : goal.decreases-segments
decreases-segments l = length l.flags - l.passed
