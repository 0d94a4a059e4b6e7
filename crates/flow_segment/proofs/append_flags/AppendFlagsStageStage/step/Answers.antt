use Rattle.std.proofs.Common.{ap, sym}
use Rattle.flow_segment.specs.AppendFlagsMachine.{append_flags_move}
use Rattle.flow_segment.proofs.append_flags.AppendFlagsStageStage.step.Goals as goal

pub returns-in-Second : goal.returns-in-Second
returns-in-Second c = ap append_flags_move (sym c.in-Second.is)
