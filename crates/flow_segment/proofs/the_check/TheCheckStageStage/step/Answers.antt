use Rattle.std.proofs.Common.{ap, sym}
use Rattle.flow_segment.specs.TheCheckMachine.{the_check_move}
use Rattle.flow_segment.proofs.the_check.TheCheckStageStage.step.Goals as goal

pub returns-in-Element : goal.returns-in-Element
returns-in-Element c = ap the_check_move (sym c.in-Element.is)
