use Rattle.std.proofs.Common.{ap, sym}
use Rattle.flow_segment.specs.InterleaveGroupsMachine.{interleave_groups_move}
use Rattle.flow_segment.proofs.interleave_groups.InterleaveGroupsStageStage.step.Goals as goal

pub returns-in-LeftGroup : goal.returns-in-LeftGroup
returns-in-LeftGroup c = ap interleave_groups_move (sym c.in-LeftGroup.is)
