use Rattle.std.proofs.Common.{ap, sym}
use Rattle.flow_segment.specs.PartFlagsMachine.{part_flags_move}
use Rattle.flow_segment.proofs.part_flags.PartFlagsStageStage.step.Goals as goal

pub returns-in-Open : goal.returns-in-Open
returns-in-Open c = ap part_flags_move (sym c.in-Open.is)
