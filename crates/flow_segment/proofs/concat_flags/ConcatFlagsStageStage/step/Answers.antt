use Rattle.std.proofs.Common.{ap, sym}
use Rattle.flow_segment.specs.ConcatFlagsMachine.{concat_flags_move}
use Rattle.flow_segment.proofs.concat_flags.ConcatFlagsStageStage.step.Goals as goal

pub returns-in-Inner : goal.returns-in-Inner
returns-in-Inner c = ap concat_flags_move (sym c.in-Inner.is)
