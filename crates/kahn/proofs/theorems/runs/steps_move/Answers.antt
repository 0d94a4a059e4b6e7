use Rattle.kahn.proofs.Conclusions.{steps_move}
use Rattle.kahn.proofs.theorems.runs.steps_move.Goals as goal

pub returns : goal.returns
returns g c P net = steps_move P net
