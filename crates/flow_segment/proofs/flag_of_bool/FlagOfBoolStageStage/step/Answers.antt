use Rattle.std.proofs.Common.{ap, sym}
use Rattle.flow_segment.specs.FlagOfBoolMachine.{flag_of_bool_move}
use Rattle.flow_segment.proofs.flag_of_bool.FlagOfBoolStageStage.step.Goals as goal

pub returns-in-Start : goal.returns-in-Start
returns-in-Start c = ap flag_of_bool_move (sym c.in-Start.is)
