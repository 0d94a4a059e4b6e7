use Rattle.std.proofs.Common.{ap, sym}
use Rattle.flow_segment.specs.PackGroupsMachine.{pack_groups_move}
use Rattle.flow_segment.proofs.pack_groups.PackGroupsStageStage.step.Goals as goal

pub returns-in-Start : goal.returns-in-Start
returns-in-Start c = ap pack_groups_move (sym c.in-Start.is)
